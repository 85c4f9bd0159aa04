-- The store as a list of chunks: what one chunk, and a job's chunks, add to it.
use Prim.Native.Nat.{ℕ, zero, suc, ◌≤◌, ◌<◌}
use native.Mathlib.Omega.{arith}
use native.Mathlib.Nat.{eq-or-lt_of_le}
use mathlib.Core.Path.{◌≡◌, refl, ap, ap₂, sym, ◌∙◌}
use mathlib.Core.Logic.{⊎_elim}
use mathlib.Core.Bool.{Bool, true, false, cond, ◌||◌, or-true, or-false, or_assoc}
use mathlib.Core.List.{List, [], ◌∷◌, ◌++◌, map, append_assoc, append-nil}
use lib.ListN.{length, get_or, length-append, get_or-append}
use lib.Seq.{get_or_at}
use Rattle.store.specs.Contents.{same, number, has, Distinct, gain, grown}
use Rattle.store.proofs.laws.contents.Sameness.{same_equal, same_itself}
use Rattle.store.proofs.laws.contents.Numbering.{number_append, number_added}

-- a chunk among two lists of chunks is among one of them
pub has_append : (xs ys : List (List ℕ)) (c : List ℕ) → has (xs ++ ys) c ≡ (has xs c || has ys c)
unfolding has
has_append [] ys c = refl
has_append (x ∷ xs) ys c = rw (has_append xs ys c) (sym (or_assoc (same x c) (has xs c) (has ys c)))

-- each of some chunks is among others
abbrev pub Among : List (List ℕ) → List (List ℕ) → Type 0
Among xs ys = (c : List ℕ) → has xs c ≡ true → has ys c ≡ true

-- those of the first of two lists are among both
pub among_left : (xs ys : List (List ℕ)) → Among xs (xs ++ ys)
among_left xs ys c h = rw (has_append xs ys c, h)

-- and those of the second
pub among_right : (xs ys : List (List ℕ)) → Among ys (xs ++ ys)
among_right xs ys c h = rw (has_append xs ys c, h) (or-true (has xs c))

-- so where both are among others, each list is
pub among_parts : (held xs ys : List (List ℕ)) → Among (xs ++ ys) held → Among xs held × Among ys held
among_parts held xs ys a = (λ c h. a c (among_left xs ys c h), λ c h. a c (among_right xs ys c h))

-- the first of some chunks is among them
pub first_among : (c : List ℕ) (cs : List (List ℕ)) → has (c ∷ cs) c ≡ true
unfolding has
first_among c cs = rw (same_itself c)

-- so where all are among others, the first is, and the rest
pub among_each : (held : List (List ℕ)) (c : List ℕ) (cs : List (List ℕ)) → Among (c ∷ cs) held
    → (has held c ≡ true) × Among cs held
among_each held c cs a = (a c (first_among c cs), (among_parts held (c ∷ []) cs a).1)

-- a store has a chunk after another came if it had it before or the two are equal
pub has_gain : (held : List (List ℕ)) (d c : List ℕ) → has (gain held d) c ≡ (has held c || same d c)
unfolding gain has
has_gain held d c = step (has held d) refl (same d c) refl
  where
    step : (t : Bool) → has held d ≡ t → (u : Bool) → same d c ≡ u
        → has (cond t held (held ++ (d ∷ []))) c ≡ (has held c || u)
    step true h true e = rw (sym (same_equal d c e), h)
    step true h false e = sym (or-false (has held c))
    step false h u e = rw (has_append held (d ∷ []) c, e, or-false u)

-- after more came, if it had it before or it is one of them
pub has_grown : (held cs : List (List ℕ)) (c : List ℕ) → has (grown held cs) c ≡ (has held c || has cs c)
unfolding grown has
has_grown held [] c = sym (or-false (has held c))
has_grown held (d ∷ cs) c = rw (has_grown (gain held d) cs c, has_gain held d c, or_assoc)

-- so it keeps what it holds
pub grown_keeps : (held cs : List (List ℕ)) → Among held (grown held cs)
grown_keeps held cs c h = rw (has_grown held cs c, h)

-- and holds what is added
pub grown_has : (held cs : List (List ℕ)) → Among cs (grown held cs)
grown_has held cs c h = rw (has_grown held cs c, h) (or-true (has held c))

-- chunks come one list after the other
pub grown_append : (held xs ys : List (List ℕ)) → grown held (xs ++ ys) ≡ grown (grown held xs) ys
unfolding grown
grown_append held [] ys = refl
grown_append held (x ∷ xs) ys = grown_append (gain held x) xs ys

-- chunks that a store holds do not change it
pub grown_none : (held cs : List (List ℕ)) → Among cs held → grown held cs ≡ held
unfolding grown gain
grown_none held [] a = refl
grown_none held (c ∷ cs) a =
    let each = among_each held c cs a in
    rw each.0 (grown_none held cs each.1)

-- a store grows at its end only, by one chunk
pub gain_more : (held : List (List ℕ)) (c : List ℕ) → (more : List (List ℕ)) × (gain held c ≡ held ++ more)
unfolding gain
gain_more held c =
    elim (has held c) as (λ t. (more : List (List ℕ)) × (cond t held (held ++ (c ∷ [])) ≡ held ++ more)) [
      | true ↦ ([], sym (append-nil held))
      | false ↦ (c ∷ [], refl)
    ]

-- and by more
pub grown_more : (held cs : List (List ℕ)) → (more : List (List ℕ)) × (grown held cs ≡ held ++ more)
unfolding grown
grown_more held [] = ([], sym (append-nil held))
grown_more held (c ∷ cs) =
    let first = gain_more held c in
    let later = grown_more (gain held c) cs in
    (first.0 ++ later.0, later.1 ∙ ap (λ h. h ++ later.0) first.1 ∙ append_assoc held first.0 later.0)

-- a store that grows keeps the numbers of the chunks that it holds
pub number_grown : (held cs : List (List ℕ)) (c : List ℕ) → has held c ≡ true → number (grown held cs) c ≡ number held c
number_grown held cs c h = let m = grown_more held cs in rw m.1 (number_append held m.0 c h)

-- the numbers of chunks in a row too
pub numbers_grown : (held cs xs : List (List ℕ)) → Among xs held
    → map (number (grown held cs)) xs ≡ map (number held) xs
numbers_grown held cs [] a = refl
numbers_grown held cs (x ∷ xs) a =
    let each = among_each held x xs a in
    ap₂ ◌∷◌ (number_grown held cs x each.0) (numbers_grown held cs xs each.1)

-- each of the chunks is among them
pub place_among : (held : List (List ℕ)) (p : ℕ) → p < length held → has held (get_or held p []) ≡ true
place_among [] p h = absurd (omega arith)
place_among (c ∷ cs) zero h = first_among c cs
place_among (c ∷ cs) (suc p) h = among_right (c ∷ []) cs (get_or cs p []) (place_among cs p (omega arith))

-- a chunk that is added is equal to none from before
pub gain_distinct : (held : List (List ℕ)) (c : List ℕ) → Distinct held → Distinct (gain held c)
unfolding gain
gain_distinct held c d = step (has held c) refl
  where
    last : has held c ≡ false → (p : ℕ) → p ≡ length held → number (held ++ (c ∷ [])) (get_or (held ++ (c ∷ [])) p []) ≡ p
    last h p e = rw (get_or_at held c [] [] p (sym e), number_added held c h) (sym e)

    earlier : (p : ℕ) → p < length held → number (held ++ (c ∷ [])) (get_or (held ++ (c ∷ [])) p []) ≡ p
    earlier p l =
        rw (get_or-append held (c ∷ []) [] p l, number_append held (c ∷ []) _ (place_among held p l)) (d p l)

    step : (t : Bool) → has held c ≡ t → Distinct (cond t held (held ++ (c ∷ [])))
    step true h p l = d p l
    step false h p l =
        let le : p ≤ length held = omega (arith, length-append held (c ∷ [])) in
        ⊎_elim (last h p) (earlier p) (eq-or-lt_of_le le)

-- so a store comes to hold no two equal chunks
pub grown_distinct : (held cs : List (List ℕ)) → Distinct held → Distinct (grown held cs)
unfolding grown
grown_distinct held [] d = d
grown_distinct held (c ∷ cs) d = grown_distinct (gain held c) cs (gain_distinct held c d)
