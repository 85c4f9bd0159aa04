-- `blocks::any_larger` meets its contract.
use Rattle.blocks.proofs.laws.Windows.{Asked}
use Rattle.blocks.proofs.any_larger.Given as goal

abbrev pub invariant-loop-i : goal.invariant-loop-i
invariant-loop-i g l = Asked l.part l.from l.last g.row.N l.value l.i l.any
