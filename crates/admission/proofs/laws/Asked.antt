-- What a quote that is not refused tells, by the store as a list of chunks.
use Prim.Native.Nat.{ℕ, ◌+◌, ◌≤◌}
use native.Mathlib.Omega.{arith}
use mathlib.Core.Path.{◌≡◌, refl, sym, ap, ◌∙◌}
use mathlib.Core.Bool.{Bool, true, false}
use mathlib.Core.List.{List, map}
use lib.ListN.{length}
use lib.Seq.{take_at}
use Rattle.refusal.specs.Number.{accepted}
use Rattle.chunker.specs.Chunks.{chunks, total}
use Rattle.store.specs.declared.Head.{Head}
use Rattle.store.specs.Contents.{number, grown, added, repeated, numbers}
use Rattle.store.specs.Limits.{recipe_limit}
use Rattle.store.specs.Memory.{contents}
use Rattle.store.proofs.laws.contents.Additions.{numbers_after, length_numbers, total_both}
use Rattle.survey.specs.Walk.{job_walk}
use Rattle.tariff.specs.Tariff.{saving_of}
use Rattle.cut_counts.specs.CutCounts.{cut_counts}
use Rattle.admission.specs.Grounds.{admission_ground}
use Rattle.admission.specs.Quote.{Quotation, recipe_of, walked, quoted}
use Rattle.admission.proofs.laws.grounds.Passed.{Passed, all_passed}
use Rattle.admission.proofs.laws.Chunks.{total_chunks}
use Rattle.admission.proofs.laws.Surveyed as surveyed
use Rattle.admission.proofs.laws.Surveyed.{begun}

-- for a job that is cut with the window w, and the chunks that the store holds
pub record Asked (w : ℕ) (held : List (List ℕ)) (job : List ℕ) (q : Quotation) : Type 0 where
  pub counted : q.answer.recipe_length ≡ length (chunks w job)
  pub recipe : recipe_of q ≡ map (number (grown held (chunks w job))) (chunks w job)
  pub new : q.answer.new_bytes ≡ total (added held (chunks w job))
  pub others : q.answer.repeated_bytes ≡ total (repeated held (chunks w job))
  pub all : q.answer.new_bytes + q.answer.repeated_bytes ≡ length job
  pub saving : q.answer.saving ≡ saving_of (length job) q.answer.new_bytes (length (chunks w job))
  pub cuts : q.answer.cuts ≡ cut_counts w job

module _ (head : Head) (pool directory index recipe job : List ℕ)
    (h : accepted (quoted head pool directory index recipe job).answer.refusal ≡ true) where
  -- the chunks of the store and of the job
  abbrev held : List (List ℕ)
  held = contents pool directory head.chunks.0

  abbrev cs : List (List ℕ)
  cs = chunks head.window job

  -- none of the grounds 1 and 3 to 5 holds
  ground : accepted (admission_ground head pool directory index recipe job) ≡ true
  unfolding quoted
  ground = by_test (accepted (admission_ground head pool directory index recipe job)) refl
    where
      by_test : (t : Bool) → accepted (admission_ground head pool directory index recipe job) ≡ t → t ≡ true
      by_test true e = refl
      by_test false e = sym e ∙ rw e at h

  pub passed : Passed head pool directory index recipe job
  passed = all_passed head pool directory index recipe job ground

  -- and no chunk is refused
  walks : quoted head pool directory index recipe job ≡ walked head.window job held recipe (job_walk head pool directory recipe job)
  unfolding quoted
  walks = rw ground

  pub whole : accepted (job_walk head pool directory recipe job).refusal ≡ true
  whole = by_test (accepted (job_walk head pool directory recipe job).refusal) refl
    where
      by_test : (t : Bool) → accepted (job_walk head pool directory recipe job).refusal ≡ t → t ≡ true
      by_test true e = refl
      by_test false e = sym e ∙ rw e at (rw walks at h)

  pub asked : Asked head.window held job (quoted head pool directory index recipe job)
  asked =
      let all = surveyed.all_passed head pool directory recipe job (begun passed) whole in
      let ns = numbers held cs in
      rw (walks, whole, all)
      (record {
        counted = refl;
        recipe = take_at ns _ (length cs) (length_numbers held cs) ∙ numbers_after held cs;
        new = refl;
        others = refl;
        all = total_both held cs ∙ total_chunks head.window job;
        saving = refl;
        cuts = refl;
      })

  -- no more chunks than a recipe may have places
  pub chunks_few : length cs ≤ recipe_limit
  chunks_few =
      let b = begun passed in
      let all = surveyed.all_passed head pool directory recipe job b whole in
      let room = (surveyed.room head pool directory recipe job b).places in
      omega (arith, b.recipe_length, ap length all, room)
