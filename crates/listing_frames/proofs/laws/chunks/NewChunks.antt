-- In a store that was fresh, a chunk is new where it has the number that the next new chunk gets.
use Prim.Native.Nat.{ℕ, ◌+◌, ◌≤◌}
use native.Mathlib.Omega.{arith}
use native.Mathlib.Nat.{add-zero}
use mathlib.Core.Path.{◌≡◌, refl, ap, sym}
use mathlib.Core.Bool.{Bool, true, false, cond}
use mathlib.Core.List.{List, [], ◌∷◌, ◌++◌}
use lib.ListN.{length, length-append}
use borrow.Author.Tests.{eq-eqb, ne_eqb}
use Rattle.store.specs.Contents.{number, has, gain, numbers}
use Rattle.store.proofs.laws.contents.Numbering.{number_below, number_next}
use Rattle.store.proofs.laws.contents.Members.{SameMembers, gain_members}
use Rattle.frame_text.specs.Frame.{frame}
use Rattle.listing_frames.specs.Frames.{chunk_frames}
use Rattle.listing_frames.specs.internal.Counted.{mark, counted_frames}

-- the mark of one chunk, and the count after it
record Marked (held : List (List ℕ)) (c : List ℕ) : Type 0 where
  first : mark (number held c) (length held) ≡ cond (has held c) 0 1
  counts : length held + mark (number held c) (length held) ≡ length (gain held c)

marked : (held : List (List ℕ)) (c : List ℕ) → Marked held c
unfolding gain
marked held c = step (has held c) refl
  where
    step : (t : Bool) → has held c ≡ t → Marked held c
    step true h =
        let other = ne_eqb (number held c) (length held) (λ e. omega (arith, number_below held c h)) in
        record { first = rw (h, other); counts = rw (h, other) (add-zero (length held)) }
    step false h =
        let same = eq-eqb _ _ (number_next held c h) in
        record { first = rw (h, same); counts = rw (h, same) (sym (length-append held (c ∷ []))) }

-- the frames by a count of the new chunks are those by first appearance
pub counted_first : (held earlier : List (List ℕ)) → SameMembers held earlier → (position : ℕ) (cs : List (List ℕ))
    → counted_frames (length held) position cs (numbers held cs) ≡ chunk_frames earlier position cs (numbers held cs)
unfolding counted_frames chunk_frames numbers
counted_first held earlier a position [] = refl
counted_first held earlier a position (c ∷ cs) =
    let m = marked held c in
    let later = counted_first (gain held c) (earlier ++ (c ∷ [])) (gain_members held earlier a c) (position + length c) cs in
    rw (m.counts, m.first, a c, later)

-- numbers past those of the chunks change nothing
pub counted_front : (next position : ℕ) (cs : List (List ℕ)) (xs ys : List ℕ) → length cs ≤ length xs
    → counted_frames next position cs (xs ++ ys) ≡ counted_frames next position cs xs
unfolding counted_frames
counted_front next position [] xs ys h = refl
counted_front next position (c ∷ cs) [] ys h = absurd (omega arith)
counted_front next position (c ∷ cs) (x ∷ xs) ys h =
    ap (λ l. frame x position (length c) (mark x next) ++ l)
    (counted_front (next + mark x next) (position + length c) cs xs ys (omega arith))
