-- Laws of what bytes do to a scanner when they come in two parts, one after the other.
use Prim.Native.Nat.{ℕ}
use mathlib.Core.Path.{◌≡◌, refl, ◌∙◌}
use mathlib.Core.List.{List, [], ◌∷◌, ◌++◌, append_assoc}
use Rattle.scan.specs.declared.Scanner.{Scanner}
use Rattle.scan.specs.Move.{Move, Rise, Hold, Cut, move, moved, next}
use Rattle.chunker.specs.Chunks.{kept, after, cut_chunks, remaining}

pub after_append : (s : Scanner) (x y : List ℕ) → after s (x ++ y) ≡ after (after s x) y
unfolding after
after_append s [] y = refl
after_append s (b ∷ x) y = after_append (next s b) x y

pub remaining_append : (s : Scanner) (since x y : List ℕ)
    → remaining s since (x ++ y) ≡ remaining (after s x) (remaining s since x) y
unfolding after remaining
remaining_append s since [] y = refl
remaining_append s since (b ∷ x) y = remaining_append (next s b) (kept (move s b) (since ++ (b ∷ []))) x y

pub cut_chunks_append : (s : Scanner) (since x y : List ℕ)
    → cut_chunks s since (x ++ y) ≡ cut_chunks s since x ++ cut_chunks (after s x) (remaining s since x) y
unfolding after remaining cut_chunks
cut_chunks_append s since [] y = refl
cut_chunks_append s since (b ∷ x) y =
    let since' = kept (move s b) (since ++ (b ∷ [])) in
    rw (cut_chunks_append (next s b) since' x y, append_assoc)

moved_window : (m : Move) (s : Scanner) (b : ℕ) → (moved m s b).window ≡ s.window
moved_window Rise s b = refl
moved_window Hold s b = refl
moved_window Cut s b = refl

-- a window never changes
pub next_window : (s : Scanner) (b : ℕ) → (next s b).window ≡ s.window
unfolding next
next_window s b = moved_window (move s b) s b

pub after_window : (s : Scanner) (x : List ℕ) → (after s x).window ≡ s.window
unfolding after
after_window s [] = refl
after_window s (b ∷ x) = after_window (next s b) x ∙ next_window s b
