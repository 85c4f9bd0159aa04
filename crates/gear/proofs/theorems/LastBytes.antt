-- What comes before the last 32 bytes does not show in the sum.
use Rattle.std.proofs.Common.{◌≡◌, ℕ, ◌-◌, ◌≤◌, List, length, take, drop, sym, ap, ◌∙◌, arith, length-drop, take-append-drop}
use Rattle.gear.specs.Gear.{sum}
use Rattle.gear.proofs.laws.Sums.{sum_last}

-- "pieces of at least 32 bytes with the same last 32 have equal sums"
abbrev last32 : List ℕ → List ℕ
last32 bs = drop (length bs - 32) bs

pub same_last_same_sum : (xs ys : List ℕ) → 32 ≤ length xs → 32 ≤ length ys → last32 xs ≡ last32 ys → sum xs ≡ sum ys
same_last_same_sum xs ys h k e = sum_of_last xs h ∙ ap sum e ∙ sym (sum_of_last ys k)
  where
    sum_of_last : (bs : List ℕ) → 32 ≤ length bs → sum bs ≡ sum (last32 bs)
    sum_of_last bs l =
        let n = length bs - 32 in
        ap sum (sym (take-append-drop n bs)) ∙ sum_last (take n bs) (drop n bs) (length-drop n bs ∙ omega arith)
