-- `survey::chunks::survey` meets its contract: each turn surveys the job's next chunk.
use native.Mathlib.Omega.{arith}
use mathlib.Core.Path.{sym, ap, ◌∙◌}
use Rattle.refusal.specs.Number.{accepted}
use Rattle.chunker.proofs.laws.ground.Soundness.{window_bounds, all_bytes}
use Rattle.cut_counts.proofs.laws.Counting.{counting_starts, counting_more, counting_ends}
use Rattle.survey.proofs.laws.chunks.Surveying.{surveying_starts, surveying_ends, surveying_same, in_order, counted_in, placed, next_in, outcome_on, outcome_stops}
use Rattle.survey.proofs.laws.chunks.Turn.{turn_fed, turn_next, turn_within, turn_part}
use Rattle.survey.proofs.chunks.survey.Goals as goal

pub invariant_of-lent : goal.invariant_of-lent
invariant_of-lent c = record { in_order = in_order c.requires }

pub loop-at-init : goal.loop-at-init
loop-at-init c =
    let a = c.args in
    let own = c.new-places.ensures in
    rw (c.begun-progress.ensures, own.heads, own.starts) (
      surveying_starts a.head a.pool.now a.directory.now a.index.now a.recipe.now a.job.now c.requires
          (all_bytes a.job.now (λ i. omega (arith, c.type_inv.job i))),
      counting_starts _ _,
    )

pub first_chunk-first-requires-clause-le_window : goal.first_chunk-first-requires-clause-le_window
first_chunk-first-requires-clause-le_window c = (window_bounds _ c.requires.window).0

pub first_chunk-first-requires-clause-window_le_window_limit :
    goal.first_chunk-first-requires-clause-window_le_window_limit
first_chunk-first-requires-clause-window_le_window_limit c = (window_bounds _ c.requires.window).1

pub overflow_add-end : goal.overflow_add-end
overflow_add-end c =
    let w = turn_within c.loop-at.invariant.0 c.loop-at-test.true c.first_chunk-first.result c.first_chunk-first.ensures in
    omega (arith, w)

pub slice_bounds-chunk-end : goal.slice_bounds-chunk-end
slice_bounds-chunk-end c =
    let w = turn_within c.loop-at.invariant.0 c.loop-at-test.true c.first_chunk-first.result c.first_chunk-first.ensures in
    omega (arith, w)

pub survey_chunk-requires-clause-counted : goal.survey_chunk-requires-clause-counted
survey_chunk-requires-clause-counted c =
    counted_in c.loop-at.invariant.0 _ (turn_next c.loop-at.invariant.0 c.loop-at-test.true c.first_chunk-first.result c.first_chunk-first.ensures)

pub survey_chunk-requires-clause-placed : goal.survey_chunk-requires-clause-placed
survey_chunk-requires-clause-placed c =
    rw (c.note_start.ensures.heads, c.note_start.ensures.starts)
    (placed c.loop-at.invariant.0 _ (turn_next c.loop-at.invariant.0 c.loop-at-test.true c.first_chunk-first.result c.first_chunk-first.ensures))

pub survey_chunk-requires-clause-next : goal.survey_chunk-requires-clause-next
survey_chunk-requires-clause-next c =
    let inv = c.loop-at.invariant.0 in
    let part = turn_part inv c.loop-at-test.true c.first_chunk-first.result c.first_chunk-first.ensures in
    rw part (next_in inv _ (turn_next inv c.loop-at-test.true c.first_chunk-first.result c.first_chunk-first.ensures))

pub returns-in-Err-clause-outcome : goal.returns-in-Err-clause-outcome
returns-in-Err-clause-outcome c =
    let inv = c.loop-at.invariant.0 in
    let next = turn_next inv c.loop-at-test.true c.first_chunk-first.result c.first_chunk-first.ensures in
    let part = turn_part inv c.loop-at-test.true c.first_chunk-first.result c.first_chunk-first.ensures in
    let told = rw (part, c.in-Err.is) at c.survey_chunk.ensures.outcome in
    told ∙ outcome_stops inv _ next (sym (ap (λ o. accepted o.refusal) told))

pub loop-at-smaller : goal.loop-at-smaller
loop-at-smaller c =
    let inv = c.loop-at.invariant.0 in
    let next = turn_next inv c.loop-at-test.true c.first_chunk-first.result c.first_chunk-first.ensures in
    let w = turn_within inv c.loop-at-test.true c.first_chunk-first.result c.first_chunk-first.ensures in
    omega (arith, next.some, w)

pub loop-at-preserved : goal.loop-at-preserved
loop-at-preserved c =
    let inv = c.loop-at.invariant in
    let next = turn_next inv.0 c.loop-at-test.true c.first_chunk-first.result c.first_chunk-first.ensures in
    let part = turn_part inv.0 c.loop-at-test.true c.first_chunk-first.result c.first_chunk-first.ensures in
    let fed = turn_fed inv.0 c.loop-at-test.true c.first_chunk-first.result c.first_chunk-first.ensures in
    let told = rw (part, c.in-Ok.is) at c.survey_chunk.ensures.outcome in
    let own = rw (part, c.note_start.ensures.heads) at c.survey_chunk.ensures.heads in
    let on = outcome_on inv.0 _ next (sym (ap (λ o. accepted o.refusal) told)) in (
      surveying_same (sym (ap (λ o. o.snapshot) told)) (sym own) (sym (c.survey_chunk.ensures.starts ∙ c.note_start.ensures.starts)) on,
      rw c.with_chunk-cuts.ensures (counting_more inv.1 inv.0.begun.window c.first_chunk-first.result fed next.some),
    )

pub returns-clause-outcome : goal.returns-clause-outcome
returns-clause-outcome c = surveying_ends c.loop-at.invariant.0 c.loop-at-test.false

pub returns-clause-cuts : goal.returns-clause-cuts
returns-clause-cuts c = λ _. counting_ends c.loop-at.invariant.1 (omega (arith, c.loop-at-test.false))
