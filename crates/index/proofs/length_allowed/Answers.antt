-- `index::length_allowed` meets its contract.
use Rattle.index.specs.Grounds.{length_allowed}
use Rattle.index.proofs.length_allowed.Goals as goal

pub returns : goal.returns
unfolding length_allowed
returns c = rw c.entries.ensures
