-- The listing of a job, by how its quote ends, and the output in which it stands.
use Prim.Native.Nat.{ℕ, ◌+◌, ◌*◌, ◌≤◌, ◌<◌}
use native.Mathlib.Omega.{arith}
use native.Mathlib.Nat.{zero-add}
use mathlib.Core.Path.{◌≡◌, refl, ap, sym, ◌∙◌}
use mathlib.Core.Bool.{true}
use mathlib.Core.List.{List, [], ◌++◌}
use lib.ListN.{length, drop, replicate, length-append, take-append-drop}
use lib.Seq.{sets, sets-eq}
use borrow.Author.Tests.{le-leb, lt-leb}
use Rattle.refusal.specs.Number.{number_of, accepted}
use Rattle.refusal.specs.declared.Refusal.{Refusal}
use Rattle.refusal.specs.declared.Refusal.TheVariants.{JobLength}
use Rattle.refusal.proofs.laws.NoGround.{no_ground}
use Rattle.chunker.specs.Scanner.{window_allowed}
use Rattle.chunker.specs.Chunks.{chunks}
use Rattle.store.specs.declared.Opened.{Opened}
use Rattle.store.specs.Contents.{numbers}
use Rattle.store.specs.Memory.{chunks_from}
use Rattle.store.specs.Opening.{fresh, opened}
use Rattle.store.proofs.laws.contents.Additions.{length_numbers}
use Rattle.admission.specs.Quote.{Quotation, quoted, recipe_of}
use Rattle.admission.specs.Take.{quotation_of, taken}
use Rattle.admission.proofs.theorems.QuoteAndTake.{taken_after}
use Rattle.index.specs.Index.{fresh_index}
use Rattle.frame_text.specs.Frame.{frame_bytes, last_frame}
use Rattle.listing_frames.specs.Frames.{window, pool_bytes, entry_count, directory_numbers, recipe_places, longest_job, chunk_frames, refused_frame, outcome, quoted_frames, listing, refusal_of, written, listed}
use Rattle.listing_frames.specs.internal.Counted.{counted_frames}
use Rattle.frame_text.proofs.laws.Stores.{sets_then, frame_length}
use Rattle.store.proofs.laws.contents.Additions.{numbers_after}
use Rattle.admission.proofs.laws.Asked.{asked}
use Rattle.listing_frames.proofs.laws.chunks.Walking.{counted_length}
use Rattle.listing_frames.proofs.laws.chunks.NewChunks.{counted_first, counted_front}
use Rattle.std.specs.Prelude.{Option, Some}

-- the frames that the code writes for an accepted job
abbrev pub coded_frames : List ℕ → Quotation → List ℕ
coded_frames job q =
    counted_frames 0 0 (chunks window job) q.recipe
    ++ last_frame q.answer.new_bytes (length job) q.answer.refusal

-- a job that a fresh store accepts
pub record Accepts (job : List ℕ) (q : Quotation) : Type 0 where
  -- there is a number for each chunk
  pub enough : length (chunks window job) ≤ length q.recipe
  pub frames : quoted_frames job q ≡ coded_frames job q

module _ (pool directory index recipe job : List ℕ) where
  -- it has a number for each chunk, and the frames that the code writes
  pub accepts : (q : Quotation) → q ≡ quoted (fresh window) pool directory index recipe job
      → accepted q.answer.refusal ≡ true → Accepts job q
  unfolding chunks_from
  accepts q same done =
      let cs = chunks window job in
      let told : recipe_of q ≡ numbers [] cs =
      rw same ((asked (fresh window) pool directory index recipe job (rw same at done)).recipe ∙ sym (numbers_after _ (chunks window job))) in
      let n = q.answer.recipe_length in
      let parts = take-append-drop n q.recipe in
      let many : length (recipe_of q) ≡ length cs = ap length told ∙ length_numbers [] cs in
      let all : counted_frames 0 0 cs q.recipe ≡ counted_frames 0 0 cs (recipe_of q) =
      ap (counted_frames 0 0 cs) (sym parts) ∙ counted_front 0 0 cs (recipe_of q) (drop n q.recipe) (omega arith) in
      let first : counted_frames 0 0 cs (recipe_of q) ≡ chunk_frames [] 0 cs (recipe_of q) =
      rw told (counted_first [] [] (λ c. refl) 0 cs) in
      record {
        enough = omega (arith, length-append (recipe_of q) (drop n q.recipe), ap length parts);
        frames = rw (done, all, first, no_ground q.answer.refusal done);
      }

-- the head that opening gives is a fresh one
pub fresh_head : (o : Opened) → o ≡ opened window → o.head ≡ fresh window
unfolding opened window_allowed
fresh_head o e = rw e

-- the take after the quote tells the same
pub took_listed : (job : List ℕ) (q t : Quotation) → q ≡ outcome job
    → t ≡ quotation_of (taken (fresh window) (replicate pool_bytes 0) (replicate directory_numbers 0) (fresh_index entry_count) q.recipe job)
    → t ≡ outcome job
took_listed job q t came took =
    let pool = replicate pool_bytes 0 in
    let directory = replicate directory_numbers 0 in
    let index = fresh_index entry_count in
    took
    ∙ ap (λ (q : Quotation). quotation_of (taken (fresh window) pool directory index q.recipe job)) came
    ∙ taken_after (fresh window) pool directory index (replicate recipe_places 0) job

-- too long a job
pub long_listed : (job output : List ℕ) → longest_job < length job
    → listed job output ≡ written (Some JobLength) (refused_frame (Some JobLength)) output
unfolding listed listing refusal_of
long_listed job output h = rw (lt-leb _ _ h)

-- a job that is short enough
pub short_listed : (job output : List ℕ) → length job ≤ longest_job → (q : Quotation) → q ≡ outcome job
    → listed job output ≡ written q.answer.refusal (quoted_frames job q) output
unfolding listed listing refusal_of
short_listed job output h q e = rw (le-leb _ _ h, e)

-- the text and the refusal are told, and the text stands at the front of the output
abbrev pub Stands : Option Refusal → List ℕ → List ℕ → List ℕ → ℕ → Type 0
Stands refusal text before after end =
    record { answer = record { refusal = refusal; written = end }; output = after } ≡ written refusal text before

at_front : (refusal : Option Refusal) (text before after : List ℕ) (end : ℕ) → length text ≤ length before → end ≡ length text
    → after ≡ sets before 0 text → Stands refusal text before after end
at_front refusal text before after end room told e = rw (told, e, sets-eq text before 0 (omega arith), zero-add)

-- one frame
pub one_stands : (refusal : Option Refusal) (before after : List ℕ) (end : ℕ) → frame_bytes ≤ length before
    → end ≡ 0 + frame_bytes → after ≡ sets before 0 (refused_frame refusal)
    → Stands refusal (refused_frame refusal) before after end
one_stands refusal before after end room told stored =
    let size = frame_length 65535 0 0 (number_of refusal) in
    at_front refusal (refused_frame refusal) before after end (omega arith) (omega arith) stored

-- the frames of an accepted job
pub all_stand : (before between after job : List ℕ) (q : Quotation) (middle end : ℕ) → Accepts job q
    → frame_bytes * length (chunks window job) + frame_bytes ≤ length before
    → middle ≡ frame_bytes * length (chunks window job)
    → between ≡ sets before 0 (counted_frames 0 0 (chunks window job) q.recipe)
    → end ≡ middle + frame_bytes
    → after ≡ sets between middle (last_frame q.answer.new_bytes (length job) q.answer.refusal)
    → Stands q.answer.refusal (quoted_frames job q) before after end
all_stand before between after job q middle end k room half stored told last =
    let counted = counted_frames 0 0 (chunks window job) q.recipe in
    let final = last_frame q.answer.new_bytes (length job) q.answer.refusal in
    let size = counted_length 0 0 (chunks window job) q.recipe k.enough in
    let whole : length (coded_frames job q) ≡ frame_bytes * length (chunks window job) + frame_bytes =
    rw (length-append counted final, size, frame_length _ _ _ _) in
    let both = sets_then counted final before 0 (frame_bytes * length (chunks window job)) middle size (omega arith) in
    rw k.frames
    (at_front q.answer.refusal (coded_frames job q) before after end (omega arith) (omega arith)
    (last ∙ rw stored (sym both)))
