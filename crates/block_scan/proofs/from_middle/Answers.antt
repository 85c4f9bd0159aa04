-- `block_scan::from_middle` meets its contract.
use native.Mathlib.Omega.{arith}
use mathlib.Core.Path.{◌∙◌, refl}
use Rattle.scan.proofs.laws.run.Underway.{stops}
use Rattle.block_scan.proofs.from_middle.Goals as goal

pub returns-then-next : goal.returns-then-next
returns-then-next c =
    c.passed.ensures
    ∙ (stops (record { order = c.in-Some.next.order; gives = refl }) (omega arith)
    ∙ c.in-Some.ensures.further.gives)
