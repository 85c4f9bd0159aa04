-- `marks::Places::start_of` meets its contract: each turn passes one chunk of a place before.
use Rattle.std.proofs.Common.{◌≡◌, take}
use Rattle.marks.specs.Marks.{sizes}
use Rattle.marks.proofs.Places.start_of.Given as goal

abbrev pub invariant-loop-index : goal.invariant-loop-index
invariant-loop-index l = l.from ≡ sizes (take l.index l.recipe)
