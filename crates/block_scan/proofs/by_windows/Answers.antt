-- `block_scan::by_windows` meets its contract.
use Prim.Native.Nat.{◌+◌}
use native.Mathlib.Omega.{arith}
use mathlib.Core.Path.{refl, ◌∙◌}
use Rattle.scan.specs.declared.run.Run.{Run}
use Rattle.scan.proofs.laws.run.Underway.{stops, deadline_small}
use Rattle.block_scan.specs.internal.Peaks.{AtLargest}
use Rattle.block_scan.proofs.laws.windows.Peaks.{settled_under, settled_cuts}
use Rattle.block_scan.proofs.by_windows.Goals as goal

pub returns-then-part-deadline : goal.returns-then-part-deadline
returns-then-part-deadline c =
    let end = c.to_end.ensures in
    c.passed.ensures
    ∙ (stops (record { order = c.to_end.result.order; gives = refl }) (omega arith)
    ∙ (end.further.gives ∙ c.at_peak.ensures.further.gives))

pub cut-requires-clause-deadline_bound : goal.cut-requires-clause-deadline_bound
cut-requires-clause-deadline_bound c =
    let r : Run = record { part = c.args.part; window = c.args.window; base = c.args.base; deadline = c.args.at + c.args.window; value = c.args.value; at = c.args.at; order = c.requires.order } in
    let largest : AtLargest r = record { some = c.requires.largest.0; value = c.requires.largest.1; whole = refl } in
    omega (arith, deadline_small (settled_under {r = r} c.settled-after.ensures largest).order)

pub returns : goal.returns
returns c =
    let r : Run = record { part = c.args.part; window = c.args.window; base = c.args.base; deadline = c.args.at + c.args.window; value = c.args.value; at = c.args.at; order = c.requires.order } in
    let largest : AtLargest r = record { some = c.requires.largest.0; value = c.requires.largest.1; whole = refl } in
    c.cut.ensures ∙ settled_cuts {r = r} c.settled-after.ensures largest _ refl (omega arith)
