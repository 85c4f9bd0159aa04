-- `listing_frames::chunks::frames` meets its contract. Each iteration writes the frame of one chunk, the first of what the
-- job has left.
use Prim.Native.Nat.{◌*◌}
use native.Mathlib.Omega.{arith}
use mathlib.Core.Path.{ap}
use Rattle.frame_text.specs.Frame.{frame_bytes}
use Rattle.listing_frames.proofs.laws.chunks.Walking.{finds, walks_on, walks_all, walks_ends}
use Rattle.listing_frames.proofs.chunks.frames.Goals as goal

pub bounds-recipe-used : goal.bounds-recipe-used
bounds-recipe-used c =
    (finds c.loop-at.invariant c.loop-at-test.true c.requires.job_in_bounds _ (ap (λ f. f.length) c.next_chunk-size.ensures)).numbered

pub overflow_cast-size : goal.overflow_cast-size
overflow_cast-size c =
    let found = finds c.loop-at.invariant c.loop-at-test.true c.requires.job_in_bounds _ (ap (λ f. f.length) c.next_chunk-size.ensures) in
    omega (arith, found.within)

pub write-requires : goal.write-requires
write-requires c =
    let found = finds c.loop-at.invariant c.loop-at-test.true c.requires.job_in_bounds _ (ap (λ f. f.length) c.next_chunk-size.ensures) in
    omega (arith, found.room)

pub overflow_add-at : goal.overflow_add-at
overflow_add-at c =
    let found = finds c.loop-at.invariant c.loop-at-test.true c.requires.job_in_bounds _ (ap (λ f. f.length) c.next_chunk-size.ensures) in
    omega (arith, found.within)

pub loop-at-smaller : goal.loop-at-smaller
loop-at-smaller c =
    let found = finds c.loop-at.invariant c.loop-at-test.true c.requires.job_in_bounds _ (ap (λ f. f.length) c.next_chunk-size.ensures) in
    omega (arith, found.some, found.within)

pub loop-at-preserved : goal.loop-at-preserved
loop-at-preserved c =
    let found = finds c.loop-at.invariant c.loop-at-test.true c.requires.job_in_bounds _ (ap (λ f. f.length) c.next_chunk-size.ensures) in
    rw c.from-next.ensures (walks_on c.loop-at.invariant found _ c.mark-new.result c.mark-new.ensures
    (rw c.of_chunk-frame.ensures at c.write.ensures.output_after))

pub returns-clause-value : goal.returns-clause-value
returns-clause-value c = ap (λ n. frame_bytes * n) (walks_all c.loop-at.invariant c.loop-at-test.false)

pub returns-clause-output_after : goal.returns-clause-output_after
returns-clause-output_after c = walks_ends c.loop-at.invariant c.loop-at-test.false
