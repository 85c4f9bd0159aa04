-- The sum of the last bytes, from the sum of all of them and of those before.
use Rattle.std.proofs.Common.{◌≡◌, ℕ, ◌+◌, ◌-◌, ◌*◌, ◌%◌, ◌^◌, ◌<◌, ◌≤◌, List, ◌++◌, length, ap, ◌∙◌, mul_assoc, arith, pow-add}
use native.Mathlib.Nat.{mul-mod_left}
use Rattle.gear.specs.Gear.{sum}
use Rattle.gear.specs.internal.After.{after_sum}
use Rattle.gear.proofs.laws.Sums.{sum_append, sum_from_below}

pub after_sum_lem : (xs ys : List ℕ) → after_sum (sum (xs ++ ys)) (sum xs) (length ys) ≡ sum ys
unfolding after_sum
after_sum_lem xs ys = omega (arith, sum_append xs ys, sum_from_below 0 ys (omega arith))

-- nothing shows of what comes before 32 bytes or more
pub after_many : (whole before size : ℕ) → whole < 2 ^ 32 → 32 ≤ size → whole ≡ after_sum whole before size
unfolding after_sum
after_many whole before size h l =
    let n : size ≡ size - 32 + 32 = omega arith in
    let none : before * 2 ^ size % 2 ^ 32 ≡ 0 =
    ap (λ k. before * 2 ^ k % 2 ^ 32) n ∙ rw (pow-add 2 (size - 32) 32, ← mul_assoc) (mul-mod_left _ _) in
    omega arith

-- a difference that wraps
pub after_few : (r whole before size : ℕ) → r < 2 ^ 32 → (r + before * 2 ^ size % 2 ^ 32) % 2 ^ 32 ≡ whole
    → r ≡ after_sum whole before size
unfolding after_sum
after_few r whole before size h e = omega arith
