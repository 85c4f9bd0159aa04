-- `chunker::feed_fresh` meets its contract.
use Rattle.std.proofs.Common.{rules}
use Rattle.chunker.proofs.laws.ground.Soundness.{window_bounds, fed_nothing, fed_accepted, fed_window, fresh_ground}
use Rattle.chunker.proofs.feed_fresh.Goals as goal

pub returns-then-not-window_allowed : goal.returns-then-not-window_allowed
returns-then-not-window_allowed c = search (rules, fed_window)

pub returns-then-is_empty : goal.returns-then-is_empty
returns-then-is_empty c = search (rules, fed_nothing)

pub from_start-requires-clause-le_window : goal.from_start-requires-clause-le_window
from_start-requires-clause-le_window c = search (rules, window_bounds)

pub from_start-requires-clause-window_le_window_limit :
    goal.from_start-requires-clause-window_le_window_limit
from_start-requires-clause-window_le_window_limit c = search (rules, window_bounds)

pub returns : goal.returns
returns c = search (rules, fed_accepted, fresh_ground)
