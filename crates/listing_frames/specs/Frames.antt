-- The listing of a job: "prints a frame a line".
use Rattle.std.specs.Prelude.{ℕ, ◌+◌, ◌*◌, cond, List, [], ◌∷◌, ◌++◌, leb, length, drop, replicate, None, Option, Some}
use Rattle.refusal.specs.Number.{accepted}
use Rattle.refusal.specs.declared.Refusal.{Refusal}
use Rattle.refusal.specs.declared.Refusal.TheVariants.{JobLength}
use Rattle.chunker.specs.Chunks.{chunks}
use Rattle.directory.specs.Entry.{stride}
use Rattle.store.specs.Opening.{fresh}
use Rattle.store.specs.Contents.{has}
use Rattle.index.specs.Index.{fresh_index}
use Rattle.admission.specs.Quote.{Quotation, quoted, recipe_of}
use Rattle.frame_text.specs.Frame.{frame, last_frame}
use Rattle.listing_frames.specs.declared.Listed.{Listed}

-- "window 4, a pool of 32,768 bytes, 1,024 entries and 1,024 recipe places"
abbrev pub window : ℕ
window = 4

abbrev pub pool_bytes : ℕ
pool_bytes = 32768

abbrev pub entry_count : ℕ
entry_count = 1024

abbrev pub directory_numbers : ℕ
directory_numbers = entry_count * stride

abbrev pub recipe_places : ℕ
recipe_places = 1024

-- "Input over 16,384 bytes is refusal 3"
abbrev pub longest_job : ℕ
longest_job = 16384

-- the frames of chunks that follow one another from a position of the job on, with their numbers; a chunk is new where
-- `earlier`, the job's chunks before it, do not have it
unfoldable pub chunk_frames : List (List ℕ) → ℕ → List (List ℕ) → List ℕ → List ℕ
chunk_frames earlier position [] numbers = []
chunk_frames earlier position (c ∷ cs) [] = []
chunk_frames earlier position (c ∷ cs) (n ∷ ns) =
    frame n position (length c) (cond (has earlier c) 0 1)
    ++ chunk_frames (earlier ++ (c ∷ [])) (position + length c) cs ns

-- "A refused job gives the last frame only, both counts 0"
abbrev pub refused_frame : Option Refusal → List ℕ
refused_frame refusal = last_frame 0 0 refusal

-- "It admits standard input to a fresh store": what its quote answers and leaves, and its take does too
abbrev pub outcome : List ℕ → Quotation
outcome job =
    quoted (fresh window) (replicate pool_bytes 0) (replicate directory_numbers 0) (fresh_index entry_count)
    (replicate recipe_places 0) job

-- the frames of a job, by its quotation
abbrev pub quoted_frames : List ℕ → Quotation → List ℕ
quoted_frames job q =
    cond (accepted q.answer.refusal)
    (chunk_frames [] 0 (chunks window job) (recipe_of q) ++ last_frame q.answer.new_bytes (length job) None)
    (refused_frame q.answer.refusal)

-- the text of a job's frames
unfoldable pub listing : List ℕ → List ℕ
listing job = cond (leb (length job) longest_job) (quoted_frames job (outcome job)) (refused_frame (Some JobLength))

-- the refusal of a job
unfoldable pub refusal_of : List ℕ → Option Refusal
refusal_of job = cond (leb (length job) longest_job) (outcome job).answer.refusal (Some JobLength)

-- what a listing answers, and the output that it leaves
pub record Listing : Type 0 where
  pub answer : Listed
  pub output : List ℕ

-- a refusal is told, and a text stands at the front of the output
abbrev pub written : Option Refusal → List ℕ → List ℕ → Listing
written refusal text output =
    record {
      answer = record { refusal = refusal; written = length text };
      output = text ++ drop (length text) output;
    }

-- the listing of a job to an output
unfoldable pub listed : List ℕ → List ℕ → Listing
listed job output = written (refusal_of job) (listing job) output
