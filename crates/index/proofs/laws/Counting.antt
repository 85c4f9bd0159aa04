-- Sums over the numbers below a bound, and how often a number stands in a list.
use Prim.Native.Nat.{ℕ, zero, suc, ◌+◌, ◌≤◌, ◌<◌}
use native.Mathlib.Omega.{arith}
use mathlib.Core.Path.{◌≡◌, refl}
use mathlib.Core.Bool.{Bool, true, false}
use mathlib.Core.List.{List, [], ◌∷◌}
use lib.Dec.{eqb, ltb}
use lib.ListN.{length}
use borrow.Author.Tests.{eqb-true, eqb-false, eq-eqb, lt-ltb, le-ltb, ltb-true, ltb-false}
use Rattle.index.specs.Index.{once, times}

abbrev pub sum_to : (ℕ → ℕ) → ℕ → ℕ
sum_to f zero = 0
sum_to f (suc n) = sum_to f n + f n

pub sum_le : (f g : ℕ → ℕ) (n : ℕ) → ((k : ℕ) → k < n → f k ≤ g k) → sum_to f n ≤ sum_to g n
sum_le f g zero h = omega arith
sum_le f g (suc n) h = omega (arith, sum_le f g n (λ k l. h k (omega arith)), h n (omega arith))

-- terms that are at most others, with the same sum, are the others
pub sum_tight : (f g : ℕ → ℕ) (n : ℕ) → ((k : ℕ) → k < n → f k ≤ g k) → sum_to g n ≤ sum_to f n
    → (k : ℕ) → k < n → f k ≡ g k
sum_tight f g zero h s k l = absurd (omega arith)
sum_tight f g (suc n) h s k l =
    step (eqb k n) refl (λ p q. sum_tight f g n (λ k l. h k (omega arith)) p k q)
  where
    less : sum_to f n ≤ sum_to g n
    less = sum_le f g n (λ k l. h k (omega arith))

    step : (t : Bool) → eqb k n ≡ t → (sum_to g n ≤ sum_to f n → k < n → f k ≡ g k) → f k ≡ g k
    step true e ih = rw (eqb-true k n e) (omega (arith, less, h n (omega arith)))
    step false e ih = ih (omega (arith, h n (omega arith))) (omega (arith, eqb-false k n e))

-- below the next number are those below this one, and it
pub once_suc : (m n : ℕ) → once (ltb m (suc n)) ≡ once (ltb m n) + once (eqb m n)
once_suc m n = step (eqb m n) refl (ltb m n) refl
  where
    step : (t : Bool) → eqb m n ≡ t → (u : Bool) → ltb m n ≡ u → once (ltb m (suc n)) ≡ once u + once t
    step true e true l = absurd (omega (arith, eqb-true m n e, ltb-true m n l))
    step true e false l = rw (lt-ltb m (suc n) (omega (arith, eqb-true m n e))) (omega arith)
    step false e true l = rw (lt-ltb m (suc n) (omega (arith, ltb-true m n l))) (omega arith)
    step false e false l = rw (le-ltb m (suc n) (omega (arith, ltb-false m n l, eqb-false m n e))) (omega arith)

sum_once : (m n : ℕ) → sum_to (λ k. once (eqb m k)) n ≡ once (ltb m n)
sum_once m zero = rw (le-ltb m 0 (omega arith))
sum_once m (suc n) = omega (arith, sum_once m n, once_suc m n)

pub once_le : (t : Bool) → once t ≤ 1
once_le true = omega arith
once_le false = omega arith

pub once_pos : (t : Bool) → 0 < once t → t ≡ true
once_pos true l = refl
once_pos false l = absurd (omega arith)

pub sum_ones : (n : ℕ) → sum_to (λ k. 1) n ≡ n
sum_ones zero = refl
sum_ones (suc n) = omega (arith, sum_ones n)

pub sum_add : (f g : ℕ → ℕ) (n : ℕ) → sum_to (λ k. f k + g k) n ≡ sum_to f n + sum_to g n
sum_add f g zero = omega arith
sum_add f g (suc n) = omega (arith, sum_add f g n)

-- a number that stands first stands there
pub times_first : (m : ℕ) (ms : List ℕ) → 0 < times m (m ∷ ms)
times_first m ms = rw (eq-eqb m m refl) (omega arith)

-- a list of numbers below a bound is as long as they stand in it often
pub length_times : (n : ℕ) (ms : List ℕ) → ((k : ℕ) → 0 < times k ms → k < n) → length ms ≡ sum_to (λ k. times k ms) n
length_times n [] h = none_there n
  where
    none_there : (n : ℕ) → 0 ≡ sum_to (λ k. 0) n
    none_there zero = refl
    none_there (suc n) = omega (arith, none_there n)
length_times n (m ∷ ms) h =
    let l : once (ltb m n) ≡ 1 = rw (lt-ltb m n (h m (times_first m ms))) in
    omega (
      arith,
      sum_add (λ k. once (eqb m k)) (λ k. times k ms) n,
      sum_once m n,
      l,
      length_times n ms (λ k p. h k (omega arith)),
    )
