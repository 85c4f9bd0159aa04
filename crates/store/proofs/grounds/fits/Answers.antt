-- `store::grounds::fits` meets its contract.
use Rattle.std.proofs.Common.{rules}
use Rattle.store.specs.Grounds.{fits}
use Rattle.store.proofs.grounds.fits.Goals as goal
use Rattle.store.proofs.grounds.fits.Goals.{then-count-entries, else-count-entries}

pub returns-then-filled-pool : goal.returns-then-filled-pool
unfolding fits
returns-then-filled-pool c =
    elim c.if-count-entries.branch [ then-count-entries w ↦ search rules | else-count-entries w ↦ search rules ]

pub returns-else-filled-pool : goal.returns-else-filled-pool
unfolding fits
returns-else-filled-pool c =
    elim c.if-count-entries.branch [ then-count-entries w ↦ search rules | else-count-entries w ↦ search rules ]
