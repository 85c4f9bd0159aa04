-- `marks::settle` meets its contract: each turn gives one place its number.
use Rattle.std.proofs.Common.{length}
use Rattle.marks.proofs.laws.Settling.{Settling}
use Rattle.marks.proofs.settle.Given as goal

abbrev pub invariant-loop-place : goal.invariant-loop-place
invariant-loop-place l = Settling l.initial.recipe (length l.initial.recipe) l.initial.next l.recipe l.next l.place
