-- What a job saves.
use Prim.Native.Nat.{ℕ, ◌+◌, ◌*◌, ◌≤◌}
use native.Mathlib.Omega.{arith}
use lib.IntN.{negsuc}
use lib.Signed.{◌≤ℤ◌}
use Rattle.tariff.specs.Tariff.{packet_charge, packets, saving_of}
use Rattle.tariff.proofs.laws.Saving.{together, not_below}
use Rattle.tariff.proofs.theorems.Packets.{fewest}

-- no job has more new bytes than bytes, and no recipe more than 65,535 numbers, which travel in 2,048 packets: a saving
-- is at least −147,456
pub at_least : (job_length new_bytes numbers : ℕ) → new_bytes ≤ job_length → numbers ≤ 65535
    → negsuc 147455 ≤ℤ saving_of job_length new_bytes numbers
at_least job_length new_bytes numbers new many =
    let charged = new_bytes + packet_charge * packets numbers in
    rw together (not_below job_length charged 147455 (omega (arith, fewest numbers 2048 (omega arith))))
