-- `storing::store_new` meets its contract: each turn passes one mark, and stores its chunk if the mark says it is new.
use Rattle.std.proofs.Common.{◌≡◌, ◌+◌, ◌-◌, ap, sym, ◌∙◌, arith}
use borrow.Author.Tests.{leb-true, leb-false}
use lib.Seq.{take-length}
use Rattle.marks.specs.Marks.{new_chunks}
use Rattle.storing.specs.Storing.{stored}
use Rattle.storing.proofs.laws.Passing.{passing_none, passing_all, passing_other, passing_new}
use Rattle.storing.proofs.laws.Passing.{ends_inside, part_length, room_bytes, room_entry, room_link}
use Rattle.storing.proofs.store_new.Goals as goal
use Rattle.storing.proofs.store_new.Goals.{then-is_first, else-is_first}

pub loop-mark-init : goal.loop-mark-init
loop-mark-init c = passing_none _ _ _ _ _ _ _ c.requires

pub overflow_add-end : goal.overflow_add-end
overflow_add-end c =
    omega (arith, ends_inside c.loop-mark.invariant c.loop-mark-test.true _ c.size_of-end.ensures, c.requires.job_length)

pub slice_bounds-chunk-end : goal.slice_bounds-chunk-end
slice_bounds-chunk-end c = omega (arith, ends_inside c.loop-mark.invariant c.loop-mark-test.true _ c.size_of-end.ensures)

pub copy-requires : goal.copy-requires
copy-requires c =
    let s = c.loop-mark.invariant in
    let more = c.loop-mark-test.true in
    let sized = c.size_of-end.ensures in
    let same : c.loop-mark.end + c.size_of-end.result - c.loop-mark.end ≡ c.size_of-end.result = omega arith in
    rw same (omega (arith, part_length s more _ sized, room_bytes s more _ sized (leb-true _ _ (sym c.if-is_first.ensures))))

pub enter-requires : goal.enter-requires
enter-requires c =
    room_entry c.loop-mark.invariant c.loop-mark-test.true _ c.size_of-end.ensures (leb-true _ _ (sym c.if-is_first.ensures))

pub enter-requires-then-is_first-clause-number_in_bounds : goal.enter-requires-then-is_first-clause-number_in_bounds
enter-requires-then-is_first-clause-number_in_bounds c =
    room_link c.loop-mark.invariant c.loop-mark-test.true _ c.size_of-end.ensures (leb-true _ _ (sym c.if-is_first.ensures))

pub loop-mark-preserved : goal.loop-mark-preserved
loop-mark-preserved c =
    let s = c.loop-mark.invariant in
    let more = c.loop-mark-test.true in
    let sized = c.size_of-end.ensures in
    let same : c.loop-mark.end + c.size_of-end.result - c.loop-mark.end ≡ c.size_of-end.result = omega arith in
    elim c.if-is_first.branch [
      | then-is_first w ↦
          rw (w.pool-is, w.directory-is, w.index-is, w.number-is, w.filled-is)
          (passing_new s more _ sized (leb-true _ _ (sym w.if-is_first.ensures)) _ _ _ _ _ _ (rw same) w.chain-own.ensures.chain (omega arith)
          w.copy.ensures w.enter.ensures w.enter-then-is_first.ensures)
      | else-is_first w ↦
          rw (w.pool-is, w.directory-is, w.index-is, w.number-is, w.filled-is)
          (passing_other s more _ sized (leb-false _ _ (sym w.if-is_first.ensures)))
    ]

pub returns : goal.returns
returns c =
    let a = c.args in
    passing_all a.head c.loop-mark.invariant c.loop-mark-test.false
    ∙ ap (λ ms. stored a.head a.pool.now a.directory.now a.index.now (new_chunks a.job.now 0 ms)) (take-length a.recipe.now)
