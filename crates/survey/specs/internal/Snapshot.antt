-- A survey under way, chunk by chunk: what it has counted, and the recipe, whose places hold marks.
use Rattle.std.specs.Prelude.{ℕ, ◌+◌, Bool, cond, not, ◌&&◌, ◌||◌, List, [], ◌∷◌, leb, ltb, length, set, take, None, Option, Some, Result, Ok, Err}
use Rattle.refusal.specs.Number.{accepted}
use Rattle.refusal.specs.Grounds.{unless, first}
use Rattle.refusal.specs.declared.Refusal.{Refusal}
use Rattle.refusal.specs.declared.Refusal.TheVariants.{RecipeFull, DirectoryFull, PoolFull}
use Rattle.directory.specs.Entry.{entries}
use Rattle.store.specs.declared.Head.{Head}
use Rattle.store.specs.Contents.{number}
use Rattle.store.specs.Memory.{contents}
use Rattle.marks.specs.Marks.{mark_of, repeat_code, first_code, own_chain, last_of, firsts}
use Rattle.survey.specs.declared.Progress.{Progress}

pub record Snapshot : Type 0 where
  pub progress : Progress
  pub recipe : List ℕ

abbrev pub snapshot : Progress → List ℕ → Snapshot
snapshot progress recipe = record { progress = progress; recipe = recipe }

-- nothing is counted yet
abbrev pub begun_at : Head → Progress
begun_at head =
    record {
      chunks = head.chunks;
      filled = head.filled;
      recipe_length = 0;
      new_bytes = 0;
      repeated_bytes = 0;
    }

-- the counts with a repeated chunk of some length
abbrev pub with_repeated : Progress → ℕ → Progress
with_repeated p size =
    record {
      chunks = p.chunks;
      filled = p.filled;
      recipe_length = p.recipe_length + 1;
      new_bytes = p.new_bytes;
      repeated_bytes = p.repeated_bytes + size;
    }

-- the counts with a new chunk of some length
abbrev pub with_new : Progress → ℕ → Progress
with_new p size =
    record {
      chunks = record { 0 = p.chunks.0 + 1 };
      filled = record { 0 = p.filled.0 + size };
      recipe_length = p.recipe_length + 1;
      new_bytes = p.new_bytes + size;
      repeated_bytes = p.repeated_bytes;
    }

-- the ground that ended a survey, if any, and what it leaves
pub record Outcome : Type 0 where
  pub refusal : Option Refusal
  pub snapshot : Snapshot

abbrev pub ends : Option Refusal → Snapshot → Outcome
ends refusal f = record { refusal = refusal; snapshot = f }

-- what the answer to a chunk tells: the counts with it, or the ground on which it is refused, and then the counts stay
abbrev pub chunk_told : Result Progress Refusal → Progress → List ℕ → Outcome
chunk_told (Ok next) before recipe = ends None (snapshot next recipe)
chunk_told (Err refusal) before recipe = ends (Some refusal) (snapshot before recipe)

module _ (head : Head) (pool directory job : List ℕ) where
  -- the number that a chunk has in the store as the job finds it, or the number of its chunks
  abbrev pub number_in : List ℕ → ℕ
  number_in c = number (contents pool directory head.chunks.0) c

  -- the chunks that the places so far say appear for the first time
  abbrev pub firsts_in : Snapshot → List (List ℕ)
  firsts_in f = firsts job 0 (take f.progress.recipe_length f.recipe)

  -- the place at which a chunk appears in the job first, or the number of places so far
  abbrev pub place_in : Snapshot → List ℕ → ℕ
  place_in f c = number (firsts_in f) c

  -- the store holds the chunk
  abbrev pub stored : List ℕ → Bool
  stored c = ltb (number_in c) head.chunks.0

  -- an earlier place of the job has it
  abbrev pub met : Snapshot → List ℕ → Bool
  met f c = ltb (place_in f c) f.progress.recipe_length

  -- the grounds 6 to 8
  unfoldable pub chunk_ground : Snapshot → List ℕ → Option Refusal
  chunk_ground f c =
      let known = stored c || met f c in
      first
      (unless (ltb f.progress.recipe_length (length f.recipe)) RecipeFull
      ∷ unless (known || ltb f.progress.chunks.0 (entries directory)) DirectoryFull
      ∷ unless (known || leb (f.progress.filled.0 + length c) (length pool)) PoolFull
      ∷ [])

  -- what the place of a chunk is to say
  abbrev pub code_in : Snapshot → List ℕ → ℕ
  code_in f c =
      cond (stored c) (number_in c) (cond (met f c) (repeat_code (place_in f c)) (first_code (last_of (own_chain c) (firsts_in f))))

  -- what a chunk that no ground refuses leaves
  unfoldable pub after_chunk : Snapshot → List ℕ → Snapshot
  after_chunk f c =
      record {
        progress = cond (stored c || met f c) (with_repeated f.progress (length c)) (with_new f.progress (length c));
        recipe = set f.recipe f.progress.recipe_length (mark_of (code_in f c) (length c));
      }

  -- one chunk: what it leaves, or its ground and nothing written
  unfoldable pub chunk_outcome : Snapshot → List ℕ → Outcome
  chunk_outcome f c = cond (accepted (chunk_ground f c)) (ends None (after_chunk f c)) (ends (chunk_ground f c) f)

  -- the survey's own heads after it: a new chunk's place becomes the head of its chain
  unfoldable pub heads_after : Snapshot → List ℕ → List ℕ → List ℕ
  heads_after f heads c =
      cond (accepted (chunk_ground f c) && not (stored c || met f c)) (set heads (own_chain c) f.progress.recipe_length) heads
