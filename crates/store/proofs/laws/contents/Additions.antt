-- The new and the repeated ones of chunks that come in order, and their numbers.
use Prim.Native.Nat.{ℕ, suc, ◌+◌, ◌≤◌}
use native.Mathlib.Omega.{arith}
use mathlib.Core.Path.{◌≡◌, refl, ap, ap₂, sym, ◌∙◌}
use mathlib.Core.Bool.{Bool, true, false, cond}
use mathlib.Core.List.{List, [], ◌∷◌, ◌++◌, map, append_assoc, append-nil}
use lib.ListN.{length, length-append}
use Rattle.chunker.specs.Chunks.{total}
use Rattle.store.specs.Contents.{number, has, gain, grown, added, repeated, numbers, gained}
use Rattle.store.proofs.laws.contents.Numbering.{number_added, number_next}
use Rattle.store.proofs.laws.contents.Growth.{Among, among_each, first_among, grown_none, grown_has, number_grown}

-- chunks that come one list after the other: the new ones, the repeated ones and the numbers of each list
module _ (ys : List (List ℕ)) where
  pub added_append : (held xs : List (List ℕ)) → added held (xs ++ ys) ≡ added held xs ++ added (grown held xs) ys
  unfolding added grown
  added_append held [] = refl
  added_append held (x ∷ xs) = rw (added_append (gain held x) xs) (by_test (has held x))
    where
      by_test : (t : Bool) → cond t (added (gain held x) xs ++ added (grown (gain held x) xs) ys)
          (x ∷ (added (gain held x) xs ++ added (grown (gain held x) xs) ys))
          ≡ cond t (added (gain held x) xs) (x ∷ added (gain held x) xs) ++ added (grown (gain held x) xs) ys
      by_test true = refl
      by_test false = refl

  pub repeated_append : (held xs : List (List ℕ))
      → repeated held (xs ++ ys) ≡ repeated held xs ++ repeated (grown held xs) ys
  unfolding repeated grown
  repeated_append held [] = refl
  repeated_append held (x ∷ xs) = rw (repeated_append (gain held x) xs) (by_test (has held x))
    where
      by_test : (t : Bool) → cond t (x ∷ (repeated (gain held x) xs ++ repeated (grown (gain held x) xs) ys))
          (repeated (gain held x) xs ++ repeated (grown (gain held x) xs) ys)
          ≡ cond t (x ∷ repeated (gain held x) xs) (repeated (gain held x) xs) ++ repeated (grown (gain held x) xs) ys
      by_test true = refl
      by_test false = refl

  pub numbers_append : (held xs : List (List ℕ))
      → numbers held (xs ++ ys) ≡ numbers held xs ++ numbers (grown held xs) ys
  unfolding numbers grown
  numbers_append held [] = refl
  numbers_append held (x ∷ xs) = ap (λ (ns : List ℕ). number held x ∷ ns) (numbers_append (gain held x) xs)

-- the store holds what it held, then the new chunks in their order
pub grown_added : (held cs : List (List ℕ)) → grown held cs ≡ held ++ added held cs
unfolding grown gain added
grown_added held [] = sym (append-nil held)
grown_added held (c ∷ cs) =
    let with = held ++ (c ∷ []) in
    let known = grown_added held cs in
    let new = grown_added with cs ∙ append_assoc held (c ∷ []) (added with cs) in
    elim (has held c) as (λ t. let next = cond t held with in
    grown next cs ≡ held ++ cond t (added next cs) (c ∷ added next cs)) [
      | true ↦ known
      | false ↦ new
    ]

-- so it has as many more
pub length_grown : (held cs : List (List ℕ)) → length (grown held cs) ≡ length held + length (added held cs)
length_grown held cs = ap length (grown_added held cs) ∙ length-append held (added held cs)

-- each chunk is new or repeated
pub total_both : (held cs : List (List ℕ)) → total (added held cs) + total (repeated held cs) ≡ total cs
unfolding added repeated
total_both held [] = refl
total_both held (c ∷ cs) =
    let later = total_both (gain held c) cs in
    elim (has held c) as (λ t. total (cond t (added (gain held c) cs) (c ∷ added (gain held c) cs))
    + total (cond t (c ∷ repeated (gain held c) cs) (repeated (gain held c) cs))
    ≡ length c + total cs) [
      | true ↦ omega arith
      | false ↦ omega arith
    ]

-- the bytes of chunks that follow others
pub total_append : (xs ys : List (List ℕ)) → total (xs ++ ys) ≡ total xs + total ys
total_append [] ys = omega arith
total_append (x ∷ xs) ys = omega (arith, total_append xs ys)

-- chunks that a store holds add none
pub added_none : (held cs : List (List ℕ)) → Among cs held → added held cs ≡ []
unfolding added gain
added_none held [] a = refl
added_none held (c ∷ cs) a =
    let each = among_each held c cs a in
    rw each.0 (added_none held cs each.1)

-- where the first of some chunks are held, only those after them add bytes: some no more than their own, then the rest
pub gained_past : (held xs ys zs : List (List ℕ)) → Among xs held
    → gained held (xs ++ (ys ++ zs)) ≤ total ys + gained (grown held ys) zs
gained_past held xs ys zs a =
    rw (added_append (ys ++ zs) held xs, grown_none held xs a, added_none held xs a, added_append zs held ys)
    (omega (arith, total_append (added held ys) (added (grown held ys) zs), total_both held ys))

-- not more are new than come
pub added_most : (held cs : List (List ℕ)) → length (added held cs) ≤ length cs
unfolding added
added_most held [] = omega arith
added_most held (c ∷ cs) =
    let later = added_most (gain held c) cs in
    elim (has held c) as (λ t. length (cond t (added (gain held c) cs) (c ∷ added (gain held c) cs)) ≤ suc (length cs)) [
      | true ↦ omega arith
      | false ↦ omega arith
    ]

-- a chunk has its number once it has come
number_gain : (held : List (List ℕ)) (c : List ℕ) → number (gain held c) c ≡ number held c
unfolding gain
number_gain held c = by_test (has held c) refl
  where
    by_test : (t : Bool) → has held c ≡ t → number (cond t held (held ++ (c ∷ []))) c ≡ number held c
    by_test true h = refl
    by_test false h = number_added held c h ∙ sym (number_next held c h)

-- the numbers are those in the store after all of the chunks
pub numbers_after : (held cs : List (List ℕ)) → numbers held cs ≡ map (number (grown held cs)) cs
unfolding numbers grown
numbers_after held [] = refl
numbers_after held (c ∷ cs) =
    ap₂ ◌∷◌
    (sym (number_grown (gain held c) cs c (grown_has held (c ∷ []) c (first_among c [])) ∙ number_gain held c))
    (numbers_after (gain held c) cs)

-- one number for each chunk
pub length_numbers : (held cs : List (List ℕ)) → length (numbers held cs) ≡ length cs
unfolding numbers
length_numbers held [] = refl
length_numbers held (c ∷ cs) = ap suc (length_numbers (gain held c) cs)
