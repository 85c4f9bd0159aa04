use Rattle.std.proofs.Common.{rules}
use Rattle.chunker.specs.Scanner.{untouched}
use Rattle.chunker.proofs.ground.untouched.Goals as goal
use Rattle.chunker.proofs.ground.untouched.Goals.{then-scanner-eq0, else-scanner-eq0}

pub returns-then-scanner-eq0-2 : goal.returns-then-scanner-eq0-2
unfolding untouched
returns-then-scanner-eq0-2 c = elim c.if-scanner-eq0.branch [ then-scanner-eq0 w ↦ search rules | else-scanner-eq0 w ↦ search rules ]

pub returns-else-scanner-eq0-2 : goal.returns-else-scanner-eq0-2
unfolding untouched
returns-else-scanner-eq0-2 c = elim c.if-scanner-eq0.branch [ then-scanner-eq0 w ↦ search rules | else-scanner-eq0 w ↦ search rules ]
