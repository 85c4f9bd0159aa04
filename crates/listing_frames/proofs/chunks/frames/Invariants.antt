-- `listing_frames::chunks::frames` meets its contract. Each iteration writes the frame of one chunk.
use Prim.Native.Nat.{◌-◌}
use lib.ListN.{length}
use Rattle.listing_frames.proofs.laws.chunks.Walking.{Walking}
use Rattle.listing_frames.proofs.chunks.frames.Given as goal

abbrev pub invariant-loop-at : goal.invariant-loop-at
invariant-loop-at l = Walking l.job l.recipe l.initial.output l.output l.next l.used l.at

abbrev pub decreases-loop-at : goal.decreases-loop-at
decreases-loop-at l = length l.job - l.at
