-- Marks in a row: where the chunk of each starts, and the chunk that each says appears for the first time.
use Prim.Native.Nat.{ℕ, zero, suc, ◌+◌, ◌-◌, ◌≤◌, ◌<◌}
use native.Mathlib.Omega.{arith}
use native.Mathlib.Nat.{add-zero, add_assoc}
use native.Mathlib.Numerals.{add-one}
use mathlib.Core.Path.{◌≡◌, refl, ap, ◌∙◌}
use mathlib.Core.List.{List, [], ◌∷◌, ◌++◌}
use lib.ListN.{length, get_or, take, drop}
use lib.Seq.{take-suc, take-add, take-take, get_or-take, length-take-le}
use borrow.Author.Tests.{lt-ltb, le-ltb}
use Rattle.marks.specs.Marks.{mark_base, mark_of, code_of, size_of, first_base, sizes, first_at, firsts}

-- a mark has its code and the chunk's length
pub code_of_mark : (code size : ℕ) → size < mark_base → code_of (mark_of code size) ≡ code
code_of_mark code size l = omega arith

pub size_of_mark : (code size : ℕ) → size < mark_base → size_of (mark_of code size) ≡ size
size_of_mark code size l = omega arith

-- the bytes of two stretches of marks
pub sizes_append : (xs ys : List ℕ) → sizes (xs ++ ys) ≡ sizes xs + sizes ys
unfolding sizes
sizes_append [] ys = omega arith
sizes_append (x ∷ xs) ys = omega (arith, sizes_append xs ys)

-- of one mark more
pub sizes_more : (ms : List ℕ) (q : ℕ) → q < length ms → sizes (take (q + 1) ms) ≡ sizes (take q ms) + size_of (get_or ms q 0)
unfolding sizes
sizes_more ms q l =
    rw (add-one, take-suc ms q 0 l, sizes_append) (omega arith)

-- fewer marks have no more
pub sizes_fewer : (ms : List ℕ) (p q : ℕ) → p ≤ q → sizes (take p ms) ≤ sizes (take q ms)
sizes_fewer ms p q l =
    let parts : q ≡ p + (q - p) = omega arith in
    rw parts (rw (take-add p (q - p) ms, sizes_append) (omega arith))

-- a mark of a lower code says no first appearance
pub first_none : (job : List ℕ) (at m : ℕ) → code_of m < first_base → first_at job at m ≡ []
unfolding first_at
first_none job at m l = rw (lt-ltb (code_of m) first_base l)

-- any other says the chunk at its position
pub first_some : (job : List ℕ) (at m : ℕ) → first_base ≤ code_of m → first_at job at m ≡ take (size_of m) (drop at job)
unfolding first_at
first_some job at m l = rw (le-ltb (code_of m) first_base l)

-- a chunk for each mark
pub length_firsts : (job : List ℕ) (at : ℕ) (ms : List ℕ) → length (firsts job at ms) ≡ length ms
unfolding firsts
length_firsts job at [] = refl
length_firsts job at (m ∷ ms) = ap suc (length_firsts job (at + size_of m) ms)

-- that of the mark at a place
pub get_d_firsts : (job : List ℕ) (at : ℕ) (ms : List ℕ) (q : ℕ) → q < length ms
    → get_or (firsts job at ms) q [] ≡ first_at job (at + sizes (take q ms)) (get_or ms q 0)
unfolding firsts sizes
get_d_firsts job at [] q l = absurd (omega arith)
get_d_firsts job at (m ∷ ms) zero l = rw (add-zero at)
get_d_firsts job at (m ∷ ms) (suc q) l =
    rw (← (add_assoc at (size_of m) (sizes (take q ms)))) (get_d_firsts job (at + size_of m) ms q (omega arith))

-- of two stretches of marks
pub firsts_append : (job : List ℕ) (at : ℕ) (xs ys : List ℕ)
    → firsts job at (xs ++ ys) ≡ firsts job at xs ++ firsts job (at + sizes xs) ys
unfolding firsts sizes
firsts_append job at [] ys = rw (add-zero at)
firsts_append job at (x ∷ xs) ys =
    ap (λ (fs : List (List ℕ)). first_at job at x ∷ fs)
    (rw (← (add_assoc at (size_of x) (sizes xs))) (firsts_append job (at + size_of x) xs ys))

-- that of a place of a recipe
pub get_d_shown : (job recipe : List ℕ) (used q : ℕ) → used ≤ length recipe → q < used
    → get_or (firsts job 0 (take used recipe)) q [] ≡ first_at job (sizes (take q recipe)) (get_or recipe q 0)
get_d_shown job recipe used q h l =
    let size = length-take-le used recipe h in
    let at : 0 + sizes (take q (take used recipe)) ≡ sizes (take q recipe) = rw (take-take q used recipe (omega arith)) (omega arith) in
    get_d_firsts job 0 (take used recipe) q (omega arith) ∙ rw (at, get_or-take used recipe q 0 l)
