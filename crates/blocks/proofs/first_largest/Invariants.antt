-- `blocks::first_largest` meets its contract.
use Rattle.blocks.proofs.laws.Windows.{Least}
use Rattle.blocks.proofs.first_largest.Given as goal

abbrev pub invariant-loop-i : goal.invariant-loop-i
invariant-loop-i g l = Least l.part l.from l.last g.row.N l.shift l.i l.least
