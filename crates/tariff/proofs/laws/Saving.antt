-- The saving as one difference, and that difference in signed 64-bit numbers.
use Prim.Native.Nat.{ℕ, zero, suc, ◌+◌, ◌*◌, ◌-◌, ◌^◌, ◌≤◌, ◌<◌}
use native.Mathlib.Omega.{arith}
use mathlib.Core.Path.{◌≡◌, ap, sym, ◌∙◌}
use mathlib.Core.Bool.{Bool, true, false, cond}
use lib.Dec.{ltb, le→leb}
use lib.IntN.{ℤ, pos, negsuc, ◌+ℤ◌, ◌-ℤ◌, neg_ℤ, +ℤ_assoc, neg_ℤ-+ℤ}
use lib.Signed.{◌≤ℤ◌, le_z_yes}
use mir.Syntax.{w64}
use mir.Val.{SFits, to_z, of_z}
use mir.Facts.{to_z_pos, to_z-of_z}
use Rattle.tariff.specs.Tariff.{packet_charge, packets, saving_of}

-- 32 bits hold the packets of numbers that they hold
pub packets_small : {n : ℕ} → n < 2 ^ 32 → packets n < 2 ^ 32
unfolding packets
packets_small h = omega arith

-- two charges taken off one after the other are taken off together
pub together : (job_length new_bytes numbers : ℕ)
    → saving_of job_length new_bytes numbers ≡ pos job_length -ℤ pos (new_bytes + packet_charge * packets numbers)
unfolding saving_of
together job_length new_bytes numbers =
    let charge = pos (packet_charge * packets numbers) in
    +ℤ_assoc (pos job_length) (neg_ℤ (pos new_bytes)) (neg_ℤ charge)
    ∙ ap (λ z. pos job_length +ℤ z) (sym (neg_ℤ-+ℤ (pos new_bytes) charge))

-- a difference is not below −(k + 1) where no more than k + 1 is missing
by_missing : (a b k : ℕ) (less : Bool) → b ≤ a + suc k → negsuc k ≤ℤ cond less (negsuc (b - suc a)) (pos (a - b))
by_missing a b k true h = le_z_yes (le→leb (b - suc a) k (omega arith))
by_missing a b k false h = le_z_yes tt

pub not_below : (a b k : ℕ) → b ≤ a + suc k → negsuc k ≤ℤ (pos a -ℤ pos b)
not_below a zero k h = le_z_yes tt
not_below a (suc b) k h = by_missing a (suc b) k (ltb a (suc b)) h

-- the difference of two small numbers is small, whatever its sign
by_order : (a b : ℕ) (less : Bool) → a < 2 ^ 62 → b < 2 ^ 62 → SFits w64 (cond less (negsuc (b - suc a)) (pos (a - b)))
by_order a b true h g = record { sfits = omega arith }
by_order a b false h g = record { sfits = omega arith }

difference_fits : (a b : ℕ) → a < 2 ^ 62 → b < 2 ^ 62 → SFits w64 (pos a -ℤ pos b)
difference_fits a zero h g = record { sfits = omega arith }
difference_fits a (suc b) h g = by_order a (suc b) (ltb a (suc b)) h g

-- a number within both ranges
small_fits : (a : ℕ) → a < 2 ^ 62 → SFits w64 (pos a)
small_fits a h = record { sfits = omega arith }

-- read from the machine's bits
pub same_difference : (j : ℤ) (a b : ℕ) → j ≡ pos a → a < 2 ^ 62 → b < 2 ^ 62
    → to_z w64 (of_z w64 j) -ℤ to_z w64 b ≡ pos a -ℤ pos b
same_difference j a b e h g = rw (e, to_z-of_z (small_fits a h), to_z_pos w64 {n = b} (omega arith))

pub saving_fits : (j : ℤ) (a b : ℕ) → j ≡ pos a → a < 2 ^ 62 → b < 2 ^ 62 → SFits w64 (to_z w64 (of_z w64 j) -ℤ to_z w64 b)
saving_fits j a b e h g = rw (same_difference j a b e h g) (difference_fits a b h g)
