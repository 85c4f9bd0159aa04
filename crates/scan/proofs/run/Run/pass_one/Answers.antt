-- `scan::run::Run::pass_one` meets its contract.
use native.Mathlib.Omega.{arith}
use mathlib.Core.Path.{refl}
use Rattle.scan.proofs.laws.run.Underway.{byte_rises, byte_passes}
use Rattle.scan.proofs.run.Run.pass_one.Goals as goal
use Rattle.scan.proofs.run.Run.pass_one.Goals.{then-byte-value, else-byte-value}

pub returns : goal.returns
returns c =
    let start = c in
    record {
      part = refl;
      window = refl;
      gives = elim c.if-byte-value.branch [
        | then-byte-value w ↦ rw (w.value-is, w.deadline-is) (byte_rises (record { order = start.args.self.order; gives = refl }) (omega arith) w.if-byte-value.true (omega arith)).gives
        | else-byte-value w ↦ rw (w.value-is, w.deadline-is) (byte_passes (record { order = start.args.self.order; gives = refl }) (omega arith) w.if-byte-value.false (omega arith)).gives
      ];
    }
