-- Laws of the number that a chunk has in a list of chunks, or gets there.
use Prim.Native.Nat.{ℕ, suc, ◌+◌, ◌<◌}
use native.Mathlib.Omega.{arith}
use native.Mathlib.Nat.{zero-add}
use mathlib.Core.Path.{◌≡◌, refl, sym}
use mathlib.Core.Bool.{Bool, true, false, cond, ◌||◌}
use mathlib.Core.List.{List, [], ◌∷◌, ◌++◌, append-nil}
use lib.ListN.{length, get_or}
use Rattle.store.specs.Contents.{same, number, has}
use Rattle.store.proofs.laws.contents.Sameness.{same_equal, same_itself}

-- a chunk that is there has a number below the count
pub number_below : (held : List (List ℕ)) (c : List ℕ) → has held c ≡ true → number held c < length held
unfolding has number
number_below [] c h = absurd (let z : ◌≡◌ {A = ℕ} 0 1 = cc in omega arith)
number_below (d ∷ ds) c h = step (same d c) h (number_below ds c)
  where
    step : (t : Bool) → t || has ds c ≡ true → (has ds c ≡ true → number ds c < length ds)
        → cond t 0 (suc (number ds c)) < suc (length ds)
    step true h ih = omega arith
    step false h ih = omega (arith, ih h)

-- in two lists of chunks it is the number in the first list, or else that in the second after all of the first
number_parts : (xs ys : List (List ℕ)) (c : List ℕ)
    → number (xs ++ ys) c ≡ cond (has xs c) (number xs c) (length xs + number ys c)
unfolding has number
number_parts [] ys c = sym (zero-add _)
number_parts (x ∷ xs) ys c = rw (number_parts xs ys c) (by_tests (same x c) (has xs c))
  where
    by_tests : (t u : Bool) → cond t 0 (suc (cond u (number xs c) (length xs + number ys c)))
        ≡ cond (t || u) (cond t 0 (suc (number xs c))) (suc (length xs) + number ys c)
    by_tests true u = refl
    by_tests false true = refl
    by_tests false false = omega arith

-- so chunks that are added at the end change no number
pub number_append : (held more : List (List ℕ)) (c : List ℕ) → has held c ≡ true
    → number (held ++ more) c ≡ number held c
number_append held more c h = rw (number_parts held more c, h)

-- a chunk that is added and was not there gets the next number
pub number_added : (held : List (List ℕ)) (c : List ℕ) → has held c ≡ false → number (held ++ (c ∷ [])) c ≡ length held
unfolding number
number_added held c h = rw (number_parts held (c ∷ []) c, h, same_itself c) (omega arith)

-- one that is not there is given the same
pub number_next : (held : List (List ℕ)) (c : List ℕ) → has held c ≡ false → number held c ≡ length held
unfolding number
number_next held c h = omega (arith, rw (append-nil held, h) at (number_parts held [] c))

-- the chunk that has a number is at that place
pub chunk_at_number : (held : List (List ℕ)) (c : List ℕ) → has held c ≡ true → get_or held (number held c) [] ≡ c
unfolding has number
chunk_at_number [] c h = cc
chunk_at_number (d ∷ ds) c h = step (same d c) refl h (chunk_at_number ds c)
  where
    step : (t : Bool) → same d c ≡ t → t || has ds c ≡ true → (has ds c ≡ true → get_or ds (number ds c) [] ≡ c)
        → get_or (d ∷ ds) (cond t 0 (suc (number ds c))) [] ≡ c
    step true e h ih = same_equal d c e
    step false e h ih = ih h
