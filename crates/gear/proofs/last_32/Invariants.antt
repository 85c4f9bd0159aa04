-- `gear::last_32` meets its contract: each stretch of eight bytes is summed as far as the first is.
use Rattle.std.proofs.Common.{◌+◌, ◌-◌}
use Rattle.gear.proofs.laws.Stretches.{Summed}
use Rattle.gear.proofs.last_32.Given as goal

abbrev pub invariant-loop-at : goal.invariant-loop-at
invariant-loop-at l = record {
  first : Summed l.bytes (l.end - 32) l.at l.first;
  second : Summed l.bytes (l.end - 24) (l.at + 8) l.second;
  third : Summed l.bytes (l.end - 16) (l.at + 16) l.third;
  fourth : Summed l.bytes (l.end - 8) (l.at + 24) l.fourth;
}
