-- `store::grounds::memory_allowed` meets its contract.
use Rattle.std.proofs.Common.{rules}
use Rattle.store.specs.Grounds.{memory_allowed}
use Rattle.store.proofs.grounds.memory_allowed.Goals as goal
use Rattle.store.proofs.grounds.memory_allowed.Goals.{then-pool-le-POOL_LIMIT, else-pool-le-POOL_LIMIT}

pub returns-then-directory-le-DIRECTORY_LIMIT : goal.returns-then-directory-le-DIRECTORY_LIMIT
unfolding memory_allowed
returns-then-directory-le-DIRECTORY_LIMIT c =
    elim c.if-pool-le-POOL_LIMIT.branch [ then-pool-le-POOL_LIMIT w ↦ search rules | else-pool-le-POOL_LIMIT w ↦ search rules ]

pub returns-else-directory-le-DIRECTORY_LIMIT : goal.returns-else-directory-le-DIRECTORY_LIMIT
unfolding memory_allowed
returns-else-directory-le-DIRECTORY_LIMIT c =
    elim c.if-pool-le-POOL_LIMIT.branch [ then-pool-le-POOL_LIMIT w ↦ search rules | else-pool-le-POOL_LIMIT w ↦ search rules ]
