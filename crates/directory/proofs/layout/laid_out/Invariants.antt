-- `directory::layout::laid_out` meets its contract: the entries from `entry` on are still to test.
use Rattle.directory.proofs.laws.layout.Testing.{Tested}
use Rattle.directory.proofs.layout.laid_out.Given as goal

abbrev pub invariant-loop-entry : goal.invariant-loop-entry
invariant-loop-entry l = Tested l.window l.directory l.end l.count l.from l.entry
