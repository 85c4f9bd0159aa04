-- `blocks::place_of` meets its contract: the byte stands at an index that the search does not pass.
use Prim.Native.Nat.{◌-◌}
use lib.ListN.{length}
use Rattle.blocks.proofs.laws.Largest.{Unseen}
use Rattle.blocks.proofs.place_of.Given as goal

abbrev pub invariant-loop-at : goal.invariant-loop-at
invariant-loop-at l = Unseen l.part l.from (length l.part) l.byte l.at

abbrev pub decreases-loop-at : goal.decreases-loop-at
decreases-loop-at l = length l.part - l.at
