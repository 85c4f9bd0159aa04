-- `block_scan::scan` meets its contract.
use mathlib.Core.Path.{◌∙◌}
use Rattle.scan.proofs.laws.run.Scanning.{stays}
use Rattle.block_scan.proofs.scan.Goals as goal

pub returns-then-part-eq0 : goal.returns-then-part-eq0
returns-then-part-eq0 c = c.uncut.ensures ∙ stays _ 0 _ c.if-part-eq0.true
