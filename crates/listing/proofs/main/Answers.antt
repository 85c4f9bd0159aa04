-- `listing::main` is safe: the frames stand at the front of the output.
use Rattle.std.proofs.Common.{◌≡◌, ◌≤◌, ℕ, List, length, ap, sym, arith, length-append}
use lib.Seq.{length-take-le}
use Rattle.listing_frames.specs.Frames.{Listing, listed}
use Rattle.listing.proofs.main.Goals as goal

-- the frames lie within the output
frames_fit : (l : Listing) (job output : List ℕ) → l ≡ listed job output → l.answer.written ≤ length l.output
unfolding listed
frames_fit l job output e =
    omega (arith, ap (λ x. x.answer.written) e, simp length-append at (ap (λ x. length x.output) e))

pub slice_bounds-output-end : goal.slice_bounds-output-end
slice_bounds-output-end c = frames_fit _ _ _ c.frames-listed.ensures

pub slice_bounds-print-end : goal.slice_bounds-print-end
slice_bounds-print-end c = sym (length-take-le _ _ (frames_fit _ _ _ c.frames-listed.ensures))
