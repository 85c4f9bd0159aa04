-- `block_scan::to_larger` meets its contract: each turn passes a byte that is not larger.
use native.Mathlib.Omega.{arith}
use mathlib.Core.Path.{◌≡◌, refl, ap}
use lib.ListN.{get_or}
use Rattle.block_scan.proofs.laws.Middle.{passed_more, passed_to, passed_rises, passed_cuts}
use Rattle.block_scan.proofs.to_larger.Goals as goal

pub loop-at-preserved : goal.loop-at-preserved
loop-at-preserved c = passed_more _ _ _ _ c.loop-at.invariant c.if-byte-run.false

pub returns-then-byte-run : goal.returns-then-byte-run
returns-then-byte-run c =
    let u = passed_rises c.args.run c.loop-at.at (omega arith) c.loop-at.invariant (omega arith) (omega arith) c.if-byte-run.true (omega arith) in
    record {
      further = record { part = refl; window = refl; gives = u.gives };
      largest = λ _. record { some = omega arith; value = ap (λ x. get_or c.args.run.part.now x 0) (omega arith); whole = refl };
    }

pub returns-then-stop-run : goal.returns-then-stop-run
returns-then-stop-run c =
    passed_cuts c.args.run c.loop-at.at (omega arith) c.loop-at.invariant (omega arith) (omega arith)

pub returns : goal.returns
returns c =
    let stop : c.loop-at.at ≡ c.min-stop.result = omega arith in
    record {
      further = record {
        part = refl;
        window = refl;
        gives = (passed_to c.args.run c.min-stop.result (omega arith) (rw stop at c.loop-at.invariant) (omega arith) (omega arith)).gives;
      };
      largest = λ inside. absurd (omega arith);
    }
