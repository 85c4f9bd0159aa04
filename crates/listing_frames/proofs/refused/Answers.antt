-- `listing_frames::refused` meets its contract.
use native.Mathlib.Omega.{arith}
use Rattle.listing_frames.proofs.laws.Listed.{one_stands}
use Rattle.listing_frames.proofs.refused.Goals as goal

pub returns : goal.returns
returns c =
    let last = c.last_frame-written.ensures in
    one_stands _ _ _ _ (omega (arith, c.last_frame-arg-1.given.0.1)) last.value last.output_after
