-- The packets in which the numbers of a recipe travel.
use Prim.Native.Nat.{ℕ, suc, ◌*◌, ◌≤◌}
use native.Mathlib.Omega.{arith}
use Rattle.tariff.specs.Tariff.{number_bytes, packet_bytes, packets}

-- "in packets of 64 such bytes, the last perhaps part filled": they have room for the numbers
pub room : (n : ℕ) → number_bytes * n ≤ packet_bytes * packets n
unfolding packets
room n = omega arith

-- and no fewer have
pub fewest : (n p : ℕ) → number_bytes * n ≤ packet_bytes * p → packets n ≤ p
unfolding packets
fewest n p h = omega arith

-- packets never fall as numbers grow
pub never_fall : (m n : ℕ) → m ≤ n → packets m ≤ packets n
never_fall m n h = fewest m (packets n) (omega (arith, room n))

-- one more number costs at most one packet
pub one_more : (n : ℕ) → packets (suc n) ≤ suc (packets n)
one_more n = fewest (suc n) (suc (packets n)) (omega (arith, room n))
