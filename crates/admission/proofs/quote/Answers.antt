-- `admission::quote` meets its contract: a survey, whose marks are then settled.
use Rattle.std.proofs.Common.{length, sym, ap, ◌∙◌, arith}
use lib.Seq.{length-take-le}
use Rattle.cut_counts.specs.CutCounts.{cut_counts}
use Rattle.refusal.specs.Number.{accepted}
use Rattle.refusal.proofs.laws.Tested.{passes, fails}
use Rattle.chunker.proofs.laws.ground.Soundness.{all_bytes}
use Rattle.admission.proofs.laws.Outcomes.{answered_cuts, quote_refused, begins, settleable, quote_settled}
use Rattle.admission.proofs.quote.Goals as goal

pub returns-in-Err : goal.returns-in-Err
returns-in-Err c =
    let ground = fails c.admission_ground.ensures c.in-Err.is in
    rw (c.refused.ensures, ← ground) (quote_refused _ _ _ _ _ _ (ap accepted ground))

pub survey-surveyed-requires : goal.survey-surveyed-requires
survey-surveyed-requires c =
    let a = c.args in
    let none = ap accepted (passes c.admission_ground.ensures c.in_default.is) in
    begins a.head a.pool.now a.directory.now a.index.now a.recipe.now a.job.now none

pub slice_bounds-settle-end : goal.slice_bounds-settle-end
slice_bounds-settle-end c =
    let a = c.args in
    let none = ap accepted (passes c.admission_ground.ensures c.in_default.is) in
    let bytes = all_bytes a.job.now (λ i. omega (arith, c.type_inv.job i)) in
    (settleable a.head a.pool.now a.directory.now a.index.now a.recipe.now a.job.now none bytes c.survey-surveyed.ensures.outcome).within

pub slice_bounds-settle-end-2 : goal.slice_bounds-settle-end-2
slice_bounds-settle-end-2 c =
    let a = c.args in
    let none = ap accepted (passes c.admission_ground.ensures c.in_default.is) in
    let bytes = all_bytes a.job.now (λ i. omega (arith, c.type_inv.job i)) in
    sym (length-take-le _ _ (settleable a.head a.pool.now a.directory.now a.index.now a.recipe.now a.job.now none bytes c.survey-surveyed.ensures.outcome).within)

pub settle-requires-clause-length_bound : goal.settle-requires-clause-length_bound
settle-requires-clause-length_bound c =
    let a = c.args in
    let none = ap accepted (passes c.admission_ground.ensures c.in_default.is) in
    let bytes = all_bytes a.job.now (λ i. omega (arith, c.type_inv.job i)) in
    (settleable a.head a.pool.now a.directory.now a.index.now a.recipe.now a.job.now none bytes c.survey-surveyed.ensures.outcome).room

pub settle-requires-clause-names_earlier : goal.settle-requires-clause-names_earlier
settle-requires-clause-names_earlier c =
    let a = c.args in
    let none = ap accepted (passes c.admission_ground.ensures c.in_default.is) in
    let bytes = all_bytes a.job.now (λ i. omega (arith, c.type_inv.job i)) in
    (settleable a.head a.pool.now a.directory.now a.index.now a.recipe.now a.job.now none bytes c.survey-surveyed.ensures.outcome).names

pub answered-requires : goal.answered-requires
answered-requires c =
    let a = c.args in
    let none = ap accepted (passes c.admission_ground.ensures c.in_default.is) in
    (begins a.head a.pool.now a.directory.now a.index.now a.recipe.now a.job.now none).job_length

pub returns : goal.returns
returns c =
    let a = c.args in
    let none = ap accepted (passes c.admission_ground.ensures c.in_default.is) in
    let bytes = all_bytes a.job.now (λ i. omega (arith, c.type_inv.job i)) in
    let told = c.survey-surveyed.result in
    let cuts = answered_cuts (length a.job.now) told.refusal told.progress told.cuts (cut_counts a.head.window a.job.now) c.survey-surveyed.ensures.cuts in
    rw (c.answered.ensures ∙ cuts, c.settle.ensures)
    (quote_settled a.head a.pool.now a.directory.now a.index.now a.recipe.now a.job.now none bytes c.survey-surveyed.ensures.outcome)
