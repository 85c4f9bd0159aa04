-- `store::open` meets its contract.
use mathlib.Core.Path.{sym, ◌∙◌}
use Rattle.store.specs.Opening.{opened}
use Rattle.store.proofs.open.Goals as goal

pub returns-then-window_allowed : goal.returns-then-window_allowed
unfolding opened
returns-then-window_allowed c = rw (sym c.window_allowed.ensures ∙ c.if-window_allowed.true, c.fresh.ensures)

pub returns : goal.returns
unfolding opened
returns c = rw (sym c.window_allowed.ensures ∙ c.if-window_allowed.false, c.fresh-2.ensures)
