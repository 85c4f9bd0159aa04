-- The comparison of all heads under way, as its loop keeps it.
use Prim.Native.Nat.{ℕ, suc, ◌+◌, ◌≤◌, ◌<◌}
use native.Mathlib.Omega.{arith}
use native.Mathlib.Numerals.{add-one}
use mathlib.Core.Path.{◌≡◌, refl, ap, sym, ◌∙◌}
use mathlib.Core.Bool.{Bool, true, false, ◌&&◌, and-true, and-false, and_assoc}
use mathlib.Core.List.{List, [], ◌∷◌, ◌++◌, map}
use lib.Dec.{eqb}
use lib.ListN.{length, get_or, take, length-map}
use lib.Seq.{take-suc, take_all, length-take-le}
use borrow.Author.Tests.{eq-eqb, ne_eqb}
use Rattle.gear.specs.Gear.{chains}
use Rattle.store.specs.Contents.{same}
use Rattle.index.specs.Ordered.{as_link}
use Rattle.index.proofs.laws.Ordering.{links_at}

-- the test of lists that each have one more
same_last : (xs ys : List ℕ) (x y : ℕ) → length xs ≡ length ys
    → same (xs ++ (x ∷ [])) (ys ++ (y ∷ [])) ≡ (same xs ys && eqb x y)
unfolding same
same_last [] [] x y e = and-true (eqb x y)
same_last [] (b ∷ ys) x y e = absurd (omega arith)
same_last (a ∷ xs) [] x y e = absurd (omega arith)
same_last (a ∷ xs) (b ∷ ys) x y e =
    rw (same_last xs ys x y (omega arith)) (sym (and_assoc (eqb a b) (same xs ys) (eqb x y)))

-- `so` says whether the first n heads are the index's
pub record Compared (heads index : List ℕ) (so : Bool) (n : ℕ) : Type 0 where
  pub within : n ≤ chains
  pub gives : so ≡ same (take n (map as_link heads)) (take n index)

-- none is compared yet
pub compared_none : (heads index : List ℕ) → Compared heads index true 0
unfolding same
compared_none heads index = record { within = omega arith; gives = refl }

module _ {heads index : List ℕ} {so : Bool} {n : ℕ} (h : Compared heads index so n) (long : length heads ≡ chains)
    (enough : chains ≤ length index) where
  module _ (l : n < chains) (own : ℕ) (e : own ≡ as_link (get_or heads n 0)) where
    next : same (take (suc n) (map as_link heads)) (take (suc n) index) ≡ (so && eqb own (get_or index n 0))
    next =
        let m = length-map heads as_link ∙ long in
        let k : n < length (map as_link heads) = omega arith in
        let sizes = length-take-le n (map as_link heads) (omega arith) ∙ sym (length-take-le n index (omega arith)) in
        rw (take-suc (map as_link heads) n 0 k, take-suc index n 0 (omega arith), links_at heads n (omega arith), ← e, h.gives)
        (same_last (take n (map as_link heads)) (take n index) own (get_or index n 0) sizes)

    pub compared_other : (own ≡ get_or index n 0 → ⊥) → Compared heads index false (n + 1)
    compared_other o = record {
      within = omega arith;
      gives = rw add-one (sym (next ∙ rw (ne_eqb own (get_or index n 0) o) (and-false so)));
    }

    pub compared_equal : own ≡ get_or index n 0 → Compared heads index so (n + 1)
    compared_equal q = record {
      within = omega arith;
      gives = rw add-one (sym (next ∙ rw (eq-eqb own (get_or index n 0) q) (and-true so)));
    }

  -- all are
  pub compared_all : chains ≤ n → so ≡ same (map as_link heads) (take chains index)
  compared_all l =
      let e : n ≡ chains = omega (arith, h.within) in
      h.gives ∙ rw e (ap (λ xs. same xs (take chains index))
      (take_all chains (map as_link heads) (omega (arith, length-map heads as_link))))
