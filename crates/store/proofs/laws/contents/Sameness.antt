-- The test of two chunks: it is true where they are equal, and false where they are not.
use Prim.Native.Nat.{ℕ}
use mathlib.Core.Path.{◌≡◌, refl, ap₂}
use mathlib.Core.Bool.{true, false, and-eq-true_iff, not-eq-not}
use mathlib.Core.List.{List, [], ◌∷◌}
use lib.Dec.{eqb}
use borrow.Author.Tests.{eqb-true, eq-eqb}
use Rattle.store.specs.Contents.{same}

-- the test passes only equal chunks
pub same_equal : (xs ys : List ℕ) → same xs ys ≡ true → xs ≡ ys
unfolding same
same_equal [] [] h = refl
same_equal [] (y ∷ ys) h = cc
same_equal (x ∷ xs) [] h = cc
same_equal (x ∷ xs) (y ∷ ys) h =
    let k = (and-eq-true_iff (eqb x y) (same xs ys)).0 h in
    ap₂ ◌∷◌ (eqb-true x y k.0) (same_equal xs ys k.1)

-- a chunk passes it with itself
pub same_itself : (xs : List ℕ) → same xs xs ≡ true
unfolding same
same_itself [] = refl
same_itself (x ∷ xs) = rw (eq-eqb x x refl) (same_itself xs)

-- so it passes all equal chunks
pub equal_same : (xs ys : List ℕ) → xs ≡ ys → same xs ys ≡ true
equal_same xs ys e = rw e (same_itself ys)

-- and fails others
pub same_other : (xs ys : List ℕ) → (xs ≡ ys → ⊥) → same xs ys ≡ false
same_other xs ys other = (not-eq-not {a = same xs ys} {b = false}).0 (λ e. other (same_equal xs ys e))
