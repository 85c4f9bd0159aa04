-- The frames of a job's chunks under way, as the loop keeps them: what is still to write gives what was asked.
use Prim.Native.Nat.{ℕ, ◌+◌, ◌-◌, ◌*◌, ◌≤◌, ◌<◌}
use native.Mathlib.Omega.{arith}
use native.Mathlib.Numerals.{add-one}
use mathlib.Core.Path.{◌≡◌, refl, ap, sym, ◌∙◌}
use mathlib.Core.Bool.{Bool, true, false, cond}
use mathlib.Core.List.{List, [], ◌∷◌, ◌++◌}
use lib.Dec.{eqb}
use lib.ListN.{length, get_or, take, drop, length-append, length-drop, length-take, drop_of_length-le}
use lib.Seq.{sets, length-sets, drop-drop, drop-cons}
use Rattle.scan.specs.Scanner.{fresh}
use Rattle.chunker.specs.Scanner.{window_allowed}
use Rattle.chunker.specs.Answers.{fed}
use Rattle.chunker.specs.Chunks.{chunks}
use Rattle.chunker.proofs.laws.NextChunk.{NextChunk, no_chunks, next_of_rest}
use Rattle.frame_text.specs.Frame.{frame_bytes, frame}
use Rattle.listing_frames.specs.Frames.{window}
use Rattle.listing_frames.specs.internal.Counted.{mark, counted_frames}
use Rattle.frame_text.proofs.laws.Stores.{sets_then, frame_length}

-- as many frames as chunks
pub counted_length : (next position : ℕ) (cs : List (List ℕ)) (ns : List ℕ) → length cs ≤ length ns
    → length (counted_frames next position cs ns) ≡ frame_bytes * length cs
unfolding counted_frames
counted_length next position [] ns h = refl
counted_length next position (c ∷ cs) [] h = absurd (omega arith)
counted_length next position (c ∷ cs) (n ∷ ns) h =
    let later = counted_length (next + mark n next) (position + length c) cs ns (omega arith) in
    rw (length-append (frame n position (length c) (mark n next)) _, frame_length n position (length c) (mark n next), later)
    (omega arith)

-- a mark is 0 or 1
pub mark_most : (number next : ℕ) → mark number next ≤ 1
mark_most number next = step (eqb number next)
  where
    step : (t : Bool) → cond t 1 0 ≤ 1
    step true = omega arith
    step false = omega arith

-- after `used` chunks, which are the first `at` bytes of the job
pub record Walking (job recipe before after : List ℕ) (next used at : ℕ) : Type 0 where
  pub within : at ≤ length job
  pub few : next ≤ used
  pub moved : used ≤ at
  pub kept : length after ≡ length before
  pub places : used + length (chunks window (drop at job)) ≡ length (chunks window job)
  pub gives : sets after (frame_bytes * used) (counted_frames next at (chunks window (drop at job)) (drop used recipe))
      ≡ sets before 0 (counted_frames 0 0 (chunks window job) recipe)

-- no chunk is written yet
pub walks_out : (job recipe before : List ℕ) → Walking job recipe before before 0 0 0
walks_out job recipe before =
    record {
      within = omega arith;
      few = omega arith;
      moved = omega arith;
      kept = refl;
      places = omega arith;
      gives = refl;
    }

-- the next chunk has n bytes, and there is a number for it
pub record Found (job recipe : List ℕ) (used at n : ℕ) : Type 0 where
  pub some : 1 ≤ n
  pub within : at + n ≤ length job
  pub numbered : used < length recipe
  pub room : frame_bytes * used + frame_bytes ≤ frame_bytes * length (chunks window job)
  pub next : NextChunk window (drop at job) n

module _ {job recipe before after : List ℕ} {next used at : ℕ} (w : Walking job recipe before after next used at) where
  -- the first chunk of what the job has left
  pub finds : at < length job → length (chunks window job) ≤ length recipe → (n : ℕ)
      → n ≡ (fed (fresh window) (take (length job - at) (drop at job))).consumed → Found job recipe used at n
  unfolding window_allowed
  finds more enough n e =
      let rest = length-drop at job in
      let chunk = next_of_rest window refl job at more n e in
      let first = ap length chunk.first in
      record {
        some = chunk.some;
        within = omega (arith, chunk.within);
        numbered = omega (arith, w.places);
        room = omega (arith, w.places);
        next = chunk;
      }

  -- its frame is written
  pub walks_on : {n : ℕ} → Found job recipe used at n → (output : List ℕ) (new : ℕ)
      → new ≡ mark (get_or recipe used 0) next
      → output ≡ sets after (frame_bytes * used) (frame (get_or recipe used 0) at n new)
      → Walking job recipe before output (next + new) (used + 1) (at + n)
  unfolding counted_frames
  walks_on {n} found output new e o =
      let number = get_or recipe used 0 in
      let chunk = found.next in
      let first = ap length chunk.first in
      let rest = drop-drop n at job in
      let size : length (take n (drop at job)) ≡ n =
      simp length-take (omega (arith, chunk.within)) in
      let behind = counted_frames (next + new) (at + n) (chunks window (drop (at + n) job)) (drop (used + 1) recipe) in
      let written : frame number at n new ++ behind
      ≡ counted_frames next at (chunks window (drop at job)) (drop used recipe) =
      rw (chunk.first, drop-cons recipe used 0 found.numbered, size, rest, e, add-one used) in
      record {
        within = found.within;
        few = omega (arith, mark_most number next);
        moved = omega arith;
        kept = ap length o ∙ length-sets after (frame_bytes * used) (frame number at n new) ∙ w.kept;
        places = omega (arith, w.places, rw rest at first);
        gives =
            rw o
            (sym (sets_then (frame number at n new) behind after (frame_bytes * used) frame_bytes (frame_bytes * (used + 1))
            (frame_length number at n new) (omega arith))
            ∙ ap (sets after (frame_bytes * used)) written ∙ w.gives);
      }

  -- no chunk is left
  none : length job ≤ at → chunks window (drop at job) ≡ []
  none h = rw (drop_of_length-le job h) (no_chunks window)

  pub walks_all : length job ≤ at → used ≡ length (chunks window job)
  walks_all h = omega (arith, w.places, ap length (none h))

  pub walks_ends : length job ≤ at → after ≡ sets before 0 (counted_frames 0 0 (chunks window job) recipe)
  unfolding counted_frames
  walks_ends h = ap (λ cs. sets after (frame_bytes * used) (counted_frames next at cs (drop used recipe))) (sym (none h)) ∙ w.gives
