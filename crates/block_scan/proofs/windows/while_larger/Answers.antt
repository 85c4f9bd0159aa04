-- `block_scan::windows::while_larger` meets its contract: each turn passes a byte that is larger than all before it.
use native.Mathlib.Omega.{arith}
use mathlib.Core.Path.{refl}
use Rattle.block_scan.proofs.laws.windows.Peaks.{reached_none, reached_then, reached_next}
use Rattle.block_scan.proofs.windows.while_larger.Goals as goal

pub loop-at-init : goal.loop-at-init
loop-at-init c = (refl, λ w. reached_none _ w _ _ c.requires)

pub loop-at-preserved : goal.loop-at-preserved
loop-at-preserved c =
    let start = c in
    let inv = c.loop-at.invariant in
    (refl, λ w. reached_then (inv.1 w) (rw (← inv.0) (reached_next (omega arith) c.if-byte-peak.false (omega arith))))
