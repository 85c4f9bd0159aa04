-- `store::stretch_of` meets its contract, whatever the directory holds.
use borrow.Author.Tests.{le-leb, lt-leb}
use Rattle.store.specs.Looking.{stretch_of}
use Rattle.store.proofs.stretch_of.Goals as goal

pub returns-then-directory-at : goal.returns-then-directory-at
unfolding stretch_of
returns-then-directory-at c = rw (le-leb _ _ c.if-directory-at.true)

pub returns : goal.returns
unfolding stretch_of
returns c = rw (lt-leb _ _ c.if-directory-at.false)
