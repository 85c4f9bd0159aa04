-- Laws of the Gear sum: of two stretches of bytes, and its bounds.
use Rattle.std.proofs.Common.{◌≡◌, ℕ, suc, ◌+◌, ◌*◌, ◌/◌, ◌%◌, ◌^◌, ◌<◌, List, [], ◌∷◌, ◌++◌, length, get_or, sym, refl, ap, ◌∙◌, add_assoc, mod-eq_of_lt, mul_assoc, add-mul, div-add-mod', mul_right_comm, arith, lit<}
use native.Mathlib.Nat.{pow-succ', add-mod-mod, mul-add-mod_self_right}
use Rattle.gear.specs.Gear.{table, sum_from, sum, chain}

-- the sum of 32 bits, with no bit dropped
whole : ℕ → List ℕ → ℕ
whole s [] = s
whole s (b ∷ bs) = whole (s * 2 + get_or table b 0) bs

whole_from : (s : ℕ) (bs : List ℕ) → whole s bs ≡ s * 2 ^ length bs + whole 0 bs
unfolding whole
whole_from s [] = omega arith
whole_from s (b ∷ bs) =
    let e = get_or table b 0 in
    let p = 2 ^ length bs in
    let q : s * 2 ^ suc (length bs) ≡ s * 2 * p = rw (pow-succ' 2 (length bs)) (sym (mul_assoc s 2 p)) in
    omega (arith, whole_from (s * 2 + e) bs, whole_from (0 * 2 + e) bs, add-mul (s * 2) e p, add-mul (0 * 2) e p, q)

-- bits that are dropped from a factor do not show
mod_factor : (x t r m : ℕ) → (x % m * t + r) % m ≡ (x * t + r) % m
mod_factor x t r m =
    let q = x / m in
    sym (ap (λ y. (y * t + r) % m) (sym (div-add-mod' x m))
    ∙ rw (add-mul (q * m) (x % m) t, mul_right_comm q m t, add_assoc) (mul-add-mod_self_right (q * t) m _))

-- a sum is below 2 ^ 32
pub sum_from_below : (s : ℕ) (bs : List ℕ) → s < 2 ^ 32 → sum_from s bs < 2 ^ 32
unfolding sum_from
sum_from_below s [] h = h
sum_from_below s (b ∷ bs) h = sum_from_below ((s * 2 + get_or table b 0) % 2 ^ 32) bs (omega arith)

pub chain_below : (bs : List ℕ) → chain bs < 1024
unfolding chain
chain_below bs = omega (arith, sum_from_below 0 bs (omega arith))

-- the chain, from the sum
pub chain_sum : (bs : List ℕ) → sum bs / 2 ^ 22 ≡ chain bs
unfolding chain
chain_sum bs = refl

sum_whole : (s : ℕ) (bs : List ℕ) → s < 2 ^ 32 → sum_from s bs ≡ whole s bs % 2 ^ 32
unfolding sum_from whole
sum_whole s [] h = omega arith
sum_whole s (b ∷ bs) h =
    let t = s * 2 + get_or table b 0 in
    sum_whole (t % 2 ^ 32) bs (omega arith)
    ∙ rw (whole_from (t % 2 ^ 32) bs, whole_from t bs) (mod_factor t (2 ^ length bs) (whole 0 bs) (2 ^ 32))

sum_from_append : (s : ℕ) (xs ys : List ℕ) → sum_from s (xs ++ ys) ≡ sum_from (sum_from s xs) ys
unfolding sum_from
sum_from_append s [] ys = refl
sum_from_append s (x ∷ xs) ys = sum_from_append ((s * 2 + get_or table x 0) % 2 ^ 32) xs ys

-- the sum of bytes and one more
pub sum_one_more : (xs : List ℕ) (b : ℕ) → sum (xs ++ (b ∷ [])) ≡ (sum xs * 2 + get_or table b 0) % 2 ^ 32
unfolding sum_from
sum_one_more xs b = sum_from_append 0 xs (b ∷ [])

-- the sum of two stretches of bytes
pub sum_append : (xs ys : List ℕ) → sum (xs ++ ys) ≡ (sum xs * 2 ^ length ys + sum ys) % 2 ^ 32
sum_append xs ys =
    sum_from_append 0 xs ys ∙ sum_whole (sum xs) ys (sum_from_below 0 xs (omega arith))
    ∙ rw (whole_from (sum xs) ys, sum_whole 0 ys (lit< tt)) (sym (add-mod-mod _ _ _))

-- what comes before the last 32 bytes does not show
pub sum_last : (xs ys : List ℕ) → length ys ≡ 32 → sum (xs ++ ys) ≡ sum ys
sum_last xs ys h = rw (sum_append xs ys, h, mul-add-mod_self_right) (mod-eq_of_lt (sum_from_below 0 ys (omega arith)))
