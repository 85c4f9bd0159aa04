-- Laws of `difference`: the first pair of unlike numbers is at the first place at which two lists differ.
use Prim.Native.Nat.{ℕ, suc, ◌≤◌, ◌<◌}
use mathlib.Core.Path.{◌≡◌, refl, ◌∙◌}
use mathlib.Core.Bool.{Bool, true, false, cond, not}
use mathlib.Core.List.{List, [], ◌∷◌}
use native.Mathlib.Numerals.{add-one}
use native.Mathlib.Omega.{arith}
use borrow.Author.Tests.{lt-ltb, le-ltb}
use lib.Dec.{eqb}
use lib.ListN.{length, take, length-take}
use Rattle.std.proofs.Common.{Option, Some}
use Rattle.std.proofs.lemmas.Iterator.Adapters.{position_from-zero}
use Rattle.std.specs.List.{position, position_from, zip}
use Rattle.difference.specs.Difference.{count, from_place, difference}

-- whether the two numbers of a pair differ
abbrev pub differ : ℕ × ℕ → Bool
differ p = not (eqb p.0 p.1)

-- the first pair of unlike numbers
unlike : (i : ℕ) (xs ys : List ℕ) → length xs ≤ length ys → position_from differ i (zip xs ys) ≡ from_place i xs ys
unfolding from_place
unlike i [] ys h = refl
unlike i (x ∷ xs) [] h = absurd (omega arith)
unlike i (x ∷ xs) (y ∷ ys) h = by_test (eqb x y) (rw add-one (unlike (suc i) xs ys (omega arith)))
  where
    by_test : {r s : Option ℕ} → (t : Bool) → r ≡ s → cond (not t) (Some i) r ≡ cond t s (Some i)
    by_test true e = e
    by_test false e = refl

module _ (xs ys : List ℕ) where
  -- the first memory does not hold its list whole
  pub first_short : length xs ≤ count xs → Some 0 ≡ difference xs ys
  unfolding difference
  first_short h = rw (le-ltb _ _ h)

  -- the second does not
  pub second_short : count xs < length xs → length ys ≤ count xs → Some 0 ≡ difference xs ys
  unfolding difference
  second_short h k = rw (lt-ltb _ _ h, le-ltb _ _ k)

  -- both do
  pub both_whole : count xs < length xs → count xs < length ys
      → position differ (zip (take (suc (count xs)) xs) ys) ≡ difference xs ys
  unfolding difference
  both_whole h k = rw (lt-ltb _ _ h, lt-ltb _ _ k)
      (position_from-zero differ (zip (take (suc (count xs)) xs) ys) ∙ unlike 0 (take (suc (count xs)) xs) ys (simp length-take (omega arith)))
