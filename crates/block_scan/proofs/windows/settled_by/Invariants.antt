-- `block_scan::windows::settled_by` meets its contract: each turn comes to the first of the largest bytes of a window.
use Prim.Native.Nat.{◌-◌}
use lib.ListN.{length}
use Rattle.block_scan.specs.internal.Peaks.{Reached}
use Rattle.block_scan.proofs.windows.settled_by.Given as goal

abbrev pub invariant-loop-peak : goal.invariant-loop-peak
invariant-loop-peak g l = Reached l.part l.window l.after l.value l.peak.after l.peak.value

abbrev pub decreases-loop-peak : goal.decreases-loop-peak
decreases-loop-peak g l = length l.part - l.peak.after
