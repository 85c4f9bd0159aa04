-- `marks::Places::find` meets its contract: each turn passes a place of the chunk's chain that shows another chunk.
use Rattle.marks.proofs.laws.Finding.{Finding}
use Rattle.marks.proofs.laws.Following.{left}
use Rattle.marks.proofs.Places.find.Given as goal

abbrev pub invariant-loop-place : goal.invariant-loop-place
invariant-loop-place l = Finding l.job l.recipe l.chunk l.used l.place

abbrev pub decreases-loop-place : goal.decreases-loop-place
decreases-loop-place l = left l.used l.place
