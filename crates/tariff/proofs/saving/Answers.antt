-- `tariff::saving` meets its contract.
use Prim.Native.Nat.{ℕ, ◌+◌, ◌*◌, ◌^◌, ◌<◌}
use native.Mathlib.Omega.{arith}
use mathlib.Core.Path.{◌≡◌}
use mir.Facts.{to_z-of_z}
use Rattle.tariff.specs.Tariff.{packet_charge, packets}
use Rattle.tariff.proofs.laws.Saving.{packets_small, together, same_difference, saving_fits}
use Rattle.tariff.proofs.saving.Goals as goal

-- 32 bits hold the packets
few : {p : ℕ} → (n : ℕ) → p ≡ packets n → n < 2 ^ 32 → p < 2 ^ 32
few n e h = rw e (packets_small h)

pub overflow_mul-charged : goal.overflow_mul-charged
overflow_mul-charged c = omega (arith, few c.args.numbers c.packets.ensures (omega arith))

pub overflow_add-charged : goal.overflow_add-charged
overflow_add-charged c = omega (arith, few c.args.numbers c.packets.ensures (omega arith))

pub overflow_cast-result : goal.overflow_cast-result
overflow_cast-result c = omega (arith, few c.args.numbers c.packets.ensures (omega arith))

pub overflow_sub-result : goal.overflow_sub-result
overflow_sub-result c =
    saving_fits _ c.args.job_length _ c.from-2.ensures (omega arith) (omega (arith, few c.args.numbers c.packets.ensures (omega arith)))

pub returns : goal.returns
returns c =
    rw (
      to_z-of_z (overflow_sub-result c),
      same_difference _ c.args.job_length (c.from.result + packet_charge * c.packets.result) c.from-2.ensures (omega arith) (omega (arith, few c.args.numbers c.packets.ensures (omega arith))),
      together,
      c.from.ensures,
      c.packets.ensures,
    )
