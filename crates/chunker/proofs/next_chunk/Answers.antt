-- `chunker::next_chunk` meets its contract.
use Rattle.std.proofs.Common.{rules}
use Rattle.chunker.proofs.laws.ground.Soundness.{window_bounds, fed_nothing, fed_accepted, fed_refused, fresh_ground, fresh_refused}
use Rattle.chunker.proofs.next_chunk.Goals as goal

pub returns-then-not-window_allowed : goal.returns-then-not-window_allowed
returns-then-not-window_allowed c = search (rules, fed_refused, fresh_refused)

pub returns-then-is_empty : goal.returns-then-is_empty
returns-then-is_empty c = search (rules, fed_nothing)

pub first_chunk-requires-clause-le_window : goal.first_chunk-requires-clause-le_window
first_chunk-requires-clause-le_window c = search (rules, window_bounds)

pub first_chunk-requires-clause-window_le_window_limit :
    goal.first_chunk-requires-clause-window_le_window_limit
first_chunk-requires-clause-window_le_window_limit c = search (rules, window_bounds)

pub returns : goal.returns
returns c = search (rules, fed_accepted, fresh_ground)
