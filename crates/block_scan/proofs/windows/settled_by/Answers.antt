-- `block_scan::windows::settled_by` meets its contract: each turn comes to the first of the largest bytes of a window.
use native.Mathlib.Omega.{arith}
use Rattle.block_scan.proofs.laws.windows.Peaks.{reached_then, reached_peak}
use Rattle.block_scan.proofs.windows.settled_by.Goals as goal

pub loop-peak-smaller-then-peak-at : goal.loop-peak-smaller-then-peak-at
loop-peak-smaller-then-peak-at g c = omega (arith, (c.while_larger-peak.ensures 0).on)

pub loop-peak-preserved-then-peak-at : goal.loop-peak-preserved-then-peak-at
loop-peak-preserved-then-peak-at g c =
    reached_then c.loop-peak.invariant
    (reached_then
    (reached_peak _ _ c.first_largest-peak.result (grind arith) (grind arith) c.first_largest-peak.ensures
    (c.any_larger.ensures.some c.if-not-any_larger.false) (omega arith) (omega arith))
    (c.while_larger-peak.ensures _))

pub loop-peak-preserved : goal.loop-peak-preserved
loop-peak-preserved g c =
    reached_then c.loop-peak.invariant
    (reached_peak _ _ c.first_largest-peak.result (grind arith) (grind arith) c.first_largest-peak.ensures
    (c.any_larger.ensures.some c.if-not-any_larger.false) (omega arith) (omega arith))
