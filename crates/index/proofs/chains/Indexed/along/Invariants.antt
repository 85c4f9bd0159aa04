-- `index::chains::Indexed::along` meets its contract: what is left to step gives the whole.
use Rattle.std.proofs.Common.{◌-◌}
use Rattle.store.specs.Memory.{contents}
use Rattle.index.proofs.laws.chains.Stepping.{Stepped}
use Rattle.index.proofs.chains.Indexed.along.Given as goal

abbrev pub invariant-loop-taken : goal.invariant-loop-taken
invariant-loop-taken l =
    Stepped l.self.index.now (contents l.self.pool.now l.self.directory.now l.self.count) l.chain l.budget (l.budget - l.taken) l.at
