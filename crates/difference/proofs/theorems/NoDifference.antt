-- No difference is told exactly where two lists of chunks are the same.
use Prim.Native.Nat.{ℕ, suc, ◌<◌}
use mathlib.Core.Path.{◌≡◌, refl, ap, sym, ◌∙◌}
use mathlib.Core.Bool.{Bool, true, false, cond, ◌&&◌, and-eq-true_iff}
use mathlib.Core.List.{List, [], ◌∷◌}
use native.Mathlib.Omega.{arith}
use borrow.Author.Tests.{eq-eqb, eqb-true, ltb-true, lt-ltb}
use lib.Dec.{eqb, ltb}
use lib.ListN.{length, get_or, take}
use lib.Seq.{get_or-take, length-take-le}
use Rattle.std.specs.Prelude.{Option, None, Some}
use Rattle.difference.specs.Difference.{count, from_place, difference, Same}

-- a test that leads to nowhere is passed
passed : (t : Bool) (d : Option ℕ) (i : ℕ) → cond t d (Some i) ≡ None → (t ≡ true) × (d ≡ None)
passed true d i h = (refl, h)
passed false d i h = cc

-- nowhere: ys begins with xs
told : (i : ℕ) (xs ys : List ℕ) → from_place i xs ys ≡ None → take (length xs) ys ≡ xs
unfolding from_place
told i [] ys h = refl
told i (x ∷ xs) [] h = cc
told i (x ∷ xs) (y ∷ ys) h =
    let p = passed (eqb x y) _ _ h in
    let e : x ≡ y = eqb-true x y p.0 in
    cc (e, told (suc i) xs ys p.1)

-- and back
untold : (i : ℕ) (xs ys : List ℕ) → take (length xs) ys ≡ xs → from_place i xs ys ≡ None
unfolding from_place
untold i [] ys e = refl
untold i (x ∷ xs) [] e = cc
untold i (x ∷ xs) (y ∷ ys) e =
    let head : x ≡ y = cc in
    let tail : take (length xs) ys ≡ xs = cc in
    rw (eq-eqb x y head) (untold (suc i) xs ys tail)

-- lists that begin alike have the same count
heads : (n m : ℕ) (xs ys : List ℕ) → take (suc n) xs ≡ take (suc m) ys → count xs ≡ count ys
heads n m xs ys e =
    sym (get_or-take (suc n) xs 0 0 (omega arith)) ∙ (ap (λ l. get_or l 0 0) e ∙ get_or-take (suc m) ys 0 0 (omega arith))

-- what is told where no difference is
same_told : (xs ys : List ℕ) → difference xs ys ≡ None → Same xs ys
unfolding difference
same_told xs ys h =
    let p = passed (ltb (count xs) (length xs) && ltb (count xs) (length ys)) _ 0 h in
    let held = (and-eq-true_iff (ltb (count xs) (length xs)) (ltb (count xs) (length ys))).0 p.0 in
    let whole : count xs < length xs = ltb-true _ _ held.0 in
    let other : count xs < length ys = ltb-true _ _ held.1 in
    let long : length (take (suc (count xs)) xs) ≡ suc (count xs) = length-take-le (suc (count xs)) xs whole in
    let begin : take (suc (count xs)) ys ≡ take (suc (count xs)) xs = rw long at (told 0 _ ys p.1) in
    let same : count ys ≡ count xs = heads (count xs) (count xs) ys xs begin in
    record { first = whole; second = rw same other; list = rw same (sym begin) }

-- and where it is not
none_told : (xs ys : List ℕ) → Same xs ys → difference xs ys ≡ None
unfolding difference
none_told xs ys s =
    let same : count xs ≡ count ys = heads (count xs) (count ys) xs ys s.list in
    let other : count xs < length ys = omega (arith, s.second) in
    let long : length (take (suc (count xs)) xs) ≡ suc (count xs) = length-take-le (suc (count xs)) xs s.first in
    rw (lt-ltb _ _ s.first, lt-ltb _ _ other)
    (untold 0 _ ys (rw long (ap (λ n. take (suc n) ys) same ∙ sym s.list)))

-- No difference is told if and only if the lists are the same.
pub no_difference : (xs ys : List ℕ) → (difference xs ys ≡ None → Same xs ys) × (Same xs ys → difference xs ys ≡ None)
no_difference xs ys = (same_told xs ys, none_told xs ys)
