-- `listing_frames::frames` meets its contract: a quote, and the take after it, which tells the same.
use native.Mathlib.Omega.{arith}
use mathlib.Core.Path.{◌≡◌, sym, ap, ◌∙◌}
use lib.ListN.{length, replicate}
use lib.Seq.{sets}
use Rattle.std.proofs.Common.{rules}
use Rattle.std.specs.Prelude.{Some, None}
use Rattle.frame_text.specs.Frame.{last_frame}
use Rattle.refusal.specs.Number.{accepted}
use Rattle.index.specs.Index.{fresh_index}
use Rattle.admission.specs.Quote.{Quotation}
use Rattle.admission.specs.Take.{quotation_of}
use Rattle.listing_frames.specs.Frames.{pool_bytes, entry_count, directory_numbers, recipe_places, outcome}
use Rattle.listing_frames.proofs.laws.Listed.{accepts, fresh_head, took_listed, long_listed, short_listed, all_stand}
use Rattle.listing_frames.proofs.frames.Goals as goal

pub returns-then-job-gt-LONGEST_JOB : goal.returns-then-job-gt-LONGEST_JOB
returns-then-job-gt-LONGEST_JOB c = c.refused.ensures ∙ sym (long_listed _ _ c.if-job-gt-LONGEST_JOB.true)

pub returns-in-Some : goal.returns-in-Some
unfolding fresh_index
returns-in-Some c =
    let asked : Quotation = record { answer = c.quote-quoted.result; recipe = c.quote-quoted.new.recipe } in
    let came : asked ≡ outcome c.args.job.now = rw (fresh_head c.open.result c.open.ensures) at c.quote-quoted.ensures in
    let ground : c.quote-quoted.result.refusal ≡ Some c.in-Some.ground = search rules in
    c.refused-in-Some.ensures ∙ sym (short_listed _ _ c.if-job-gt-LONGEST_JOB.false asked came ∙ rw ground)

pub frames-end-requires-clause-job_in_bounds : goal.frames-end-requires-clause-job_in_bounds
unfolding fresh_index
frames-end-requires-clause-job_in_bounds c =
    let asked : Quotation = record { answer = c.quote-quoted.result; recipe = c.quote-quoted.new.recipe } in
    let took : Quotation = record { answer = c.take-taken.result.quoted; recipe = c.take-taken.new.recipe } in
    let opens = fresh_head c.open.result c.open.ensures in
    let came : asked ≡ outcome c.args.job.now = rw opens at c.quote-quoted.ensures in
    let stays : took ≡ outcome c.args.job.now = took_listed c.args.job.now asked took came (rw opens at (ap quotation_of c.take-taken.ensures)) in
    let passed : c.quote-quoted.result.refusal ≡ None = search rules in
    let refusal = ap (λ q. q.answer.refusal) (stays ∙ sym came) ∙ passed in
    let k = accepts (replicate pool_bytes 0) (replicate directory_numbers 0) (fresh_index entry_count) (replicate recipe_places 0) c.args.job.now took stays
    (ap accepted refusal) in
    k.enough

pub frames-end-requires-clause-job_in_bounds_2 : goal.frames-end-requires-clause-job_in_bounds_2
unfolding fresh_index
frames-end-requires-clause-job_in_bounds_2 c =
    let asked : Quotation = record { answer = c.quote-quoted.result; recipe = c.quote-quoted.new.recipe } in
    let took : Quotation = record { answer = c.take-taken.result.quoted; recipe = c.take-taken.new.recipe } in
    let opens = fresh_head c.open.result c.open.ensures in
    let came : asked ≡ outcome c.args.job.now = rw opens at c.quote-quoted.ensures in
    let stays : took ≡ outcome c.args.job.now = took_listed c.args.job.now asked took came (rw opens at (ap quotation_of c.take-taken.ensures)) in
    let passed : c.quote-quoted.result.refusal ≡ None = search rules in
    let refusal = ap (λ q. q.answer.refusal) (stays ∙ sym came) ∙ passed in
    let k = accepts (replicate pool_bytes 0) (replicate directory_numbers 0) (fresh_index entry_count) (replicate recipe_places 0) c.args.job.now took stays
    (ap accepted refusal) in
    omega (arith, k.enough, c.take-taken.auto.recipe)

pub last_frame-written-requires : goal.last_frame-written-requires
unfolding fresh_index
last_frame-written-requires c =
    let asked : Quotation = record { answer = c.quote-quoted.result; recipe = c.quote-quoted.new.recipe } in
    let took : Quotation = record { answer = c.take-taken.result.quoted; recipe = c.take-taken.new.recipe } in
    let opens = fresh_head c.open.result c.open.ensures in
    let came : asked ≡ outcome c.args.job.now = rw opens at c.quote-quoted.ensures in
    let stays : took ≡ outcome c.args.job.now = took_listed c.args.job.now asked took came (rw opens at (ap quotation_of c.take-taken.ensures)) in
    let passed : c.quote-quoted.result.refusal ≡ None = search rules in
    let refusal = ap (λ q. q.answer.refusal) (stays ∙ sym came) ∙ passed in
    let k = accepts (replicate pool_bytes 0) (replicate directory_numbers 0) (fresh_index entry_count) (replicate recipe_places 0) c.args.job.now took stays
    (ap accepted refusal) in
    omega (arith, k.enough, c.take-taken.auto.recipe, c.frames-end.ensures.value)

pub returns : goal.returns
unfolding fresh_index
returns c =
    let asked : Quotation = record { answer = c.quote-quoted.result; recipe = c.quote-quoted.new.recipe } in
    let took : Quotation = record { answer = c.take-taken.result.quoted; recipe = c.take-taken.new.recipe } in
    let opens = fresh_head c.open.result c.open.ensures in
    let came : asked ≡ outcome c.args.job.now = rw opens at c.quote-quoted.ensures in
    let stays : took ≡ outcome c.args.job.now = took_listed c.args.job.now asked took came (rw opens at (ap quotation_of c.take-taken.ensures)) in
    let passed : c.quote-quoted.result.refusal ≡ None = search rules in
    let refusal = ap (λ q. q.answer.refusal) (stays ∙ sym came) ∙ passed in
    let k = accepts (replicate pool_bytes 0) (replicate directory_numbers 0) (fresh_index entry_count) (replicate recipe_places 0) c.args.job.now took stays
    (ap accepted refusal) in
    let last = c.last_frame-written.ensures in
    let told = last.output_after
    ∙ ap (λ r. sets c.frames-end.new.output c.frames-end.result (last_frame c.take-taken.result.quoted.new_bytes (length c.args.job.now) r)) (sym refusal) in
    rw (← refusal)
    (all_stand _ _ _ c.args.job.now took _ _ k (omega (arith, k.enough, c.take-taken.auto.recipe)) c.frames-end.ensures.value
    c.frames-end.ensures.output_after last.value told
    ∙ sym (short_listed _ _ c.if-job-gt-LONGEST_JOB.false took stays))
