-- `chunker::ground::window_allowed` meets its contract.
use borrow.Author.Tests.{le-leb, lt-leb}
use Rattle.chunker.specs.Scanner.{window_allowed}
use Rattle.chunker.proofs.ground.window_allowed.Goals as goal

pub returns-then-window-ge1 : goal.returns-then-window-ge1
unfolding window_allowed
returns-then-window-ge1 c = rw (le-leb _ _ c.if-window-ge1.true)

pub returns-else-window-ge1 : goal.returns-else-window-ge1
unfolding window_allowed
returns-else-window-ge1 c = rw (lt-leb _ _ c.if-window-ge1.false)
