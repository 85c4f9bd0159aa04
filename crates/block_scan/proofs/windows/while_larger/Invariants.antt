-- `block_scan::windows::while_larger` meets its contract: each turn passes a byte that is larger than all before it.
use mathlib.Core.Path.{◌≡◌}
use Rattle.block_scan.specs.internal.Peaks.{Rising}
use Rattle.block_scan.proofs.windows.while_larger.Given as goal

abbrev pub invariant-loop-at : goal.invariant-loop-at
invariant-loop-at l = (l.at ≡ l.peak.after) × Rising l.part l.fn.peak.after l.fn.peak.value l.peak.after l.peak.value
