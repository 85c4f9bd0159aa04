-- `storing::store_new` meets its contract: each turn passes one mark, and stores its chunk if the mark says it is new.
use Rattle.std.proofs.Common.{length}
use Rattle.storing.proofs.laws.Passing.{Passing}
use Rattle.storing.proofs.store_new.Given as goal

abbrev pub invariant-loop-mark : goal.invariant-loop-mark
invariant-loop-mark l =
    Passing l.initial.pool l.initial.directory l.initial.index l.recipe (length l.recipe) l.job l.initial.number l.initial.filled l.pool
    l.directory l.index l.number l.filled l.end l.mark-index
