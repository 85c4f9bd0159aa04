-- `index::index_ground` meets its contract.
use mathlib.Core.Path.{ap, sym, ◌∙◌}
use Rattle.std.proofs.Common.{rules}
use Rattle.refusal.specs.Number.{accepted}
use Rattle.refusal.proofs.laws.Grounds.{passed}
use Rattle.refusal.proofs.laws.Tested.{passes, first_fails, first_passes}
use Rattle.index.proofs.index_ground.Goals as goal

pub returns-in_err-unless : goal.returns-in_err-unless
returns-in_err-unless c = search (rules, first_fails)

pub meets-requires-clause-allowed : goal.meets-requires-clause-allowed
meets-requires-clause-allowed c = sym c.length_allowed.ensures ∙ passed _ _ (ap accepted (passes c.unless.ensures c.in_ok-unless.was))

pub returns : goal.returns
returns c = search (rules, first_passes)
