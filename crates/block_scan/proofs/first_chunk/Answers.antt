-- `block_scan::first_chunk` meets its contract.
use Prim.Native.Nat.{◌+◌, ◌-◌, ◌≤◌}
use lib.ListN.{length}
use Rattle.block_scan.specs.internal.Peaks.{Settled}
use native.Mathlib.Omega.{arith}
use borrow.Author.Rules.{rules}
use mathlib.Core.Path.{◌≡◌, ◌∙◌, refl, ap, sym}
use Rattle.scan.specs.Scanner.{fresh}
use Rattle.scan.specs.Scan.{first_chunk}
use Rattle.scan.specs.internal.Run.{Begun}
use Rattle.scan.proofs.laws.run.Underway.{deadline_small}
use Rattle.block_scan.proofs.laws.windows.Peaks.{first_largest, settled_under, settled_cuts}
use Rattle.block_scan.proofs.laws.PartEnds.{uncut_whole_lem}
use Rattle.block_scan.proofs.first_chunk.Goals as goal

pub returns-then-job-deadline : goal.returns-then-job-deadline
returns-then-job-deadline c =
    let begun : Begun (fresh c.args.window) c.begun-run.result c.args.job.now = rw c.fresh.ensures at c.begun-run.ensures in
    let r = c.begun-run.result in
    let settled : Settled r.part.now r.window r.at r.value c.settled-after.result = rw begun.part c.settled-after.ensures in
    let under = rw begun.part at (settled_under settled (first_largest _ (begun.fresh refl))) in
    sym (uncut_whole_lem _ _ _ _ (λ q. search rules) _ _ _ under c.if-job-deadline.true)
    ∙ ap first_chunk (rw begun.part at begun.gives)

pub overflow_cast-result : goal.overflow_cast-result
overflow_cast-result c =
    let begun : Begun (fresh c.args.window) c.begun-run.result c.args.job.now = rw c.fresh.ensures at c.begun-run.ensures in
    let r = c.begun-run.result in
    let settled : Settled r.part.now r.window r.at r.value c.settled-after.result = rw begun.part c.settled-after.ensures in
    omega (arith, deadline_small (settled_under settled (first_largest _ (begun.fresh refl))).order)

pub returns : goal.returns
returns c =
    let begun : Begun (fresh c.args.window) c.begun-run.result c.args.job.now = rw c.fresh.ensures at c.begun-run.ensures in
    let r = c.begun-run.result in
    let settled : Settled r.part.now r.window r.at r.value c.settled-after.result = rw begun.part c.settled-after.ensures in
    let end = c.settled-after.result + r.window in
    let inside : end ≤ length r.part.now = rw begun.part c.if-job-deadline.false in
    let place : r.base + end - r.window ≡ c.settled-after.result = omega (arith, (begun.fresh refl).base) in
    let cuts = rw begun.part at (settled_cuts settled (first_largest _ (begun.fresh refl)) end refl inside) in
    ap first_chunk (rw place at cuts ∙ rw begun.part at begun.gives)
