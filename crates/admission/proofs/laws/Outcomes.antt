-- What a quote and a take come to, by the tests in the order in which the code makes them.
use Prim.Native.Nat.{ℕ, ◌+◌, ◌^◌, ◌≤◌, ◌<◌}
use mathlib.Core.Path.{◌≡◌, refl, sym, ap, ◌∙◌, subst}
use mathlib.Core.Bool.{Bool, true, false, cond}
use mathlib.Core.List.{List, [], ◌++◌}
use lib.ListN.{length, take, drop}
use Rattle.refusal.specs.Number.{accepted}
use Rattle.std.specs.Prelude.{Option}
use Rattle.refusal.specs.declared.Refusal.{Refusal}
use Rattle.cut_counts.specs.declared.CutCounts.{CutCounts}
use Rattle.cut_counts.specs.CutCounts.{cut_counts}
use Rattle.chunker.specs.Bytes.{Bytes}
use Rattle.store.specs.declared.Head.{Head}
use Rattle.store.specs.Contents.{added}
use Rattle.store.specs.Memory.{contents}
use Rattle.marks.specs.Marks.{new_chunks, settled}
use Rattle.marks.specs.internal.Places.{NamesEarlier}
use Rattle.storing.specs.internal.Storable.{Storable}
use Rattle.storing.specs.Storing.{pool_with, directory_with, index_with}
use Rattle.survey.specs.declared.Progress.{Progress}
use Rattle.survey.specs.Walk.{Walk, job_walk}
use Rattle.survey.specs.internal.Snapshot.{Snapshot, Outcome, ends}
use Rattle.survey.specs.internal.Surveyed.{progress_after, survey_after, surveyed}
use Rattle.survey.specs.internal.Begun.{Begun}
use Rattle.admission.specs.Grounds.{admission_ground}
use Rattle.admission.specs.Quote.{Quotation, refused, quoted}
use Rattle.admission.specs.Take.{Taking, new_of, stores, taken}
use Rattle.admission.specs.internal.Answers.{counted_by, answered, head_after}
use Rattle.admission.proofs.laws.grounds.Passed.{all_passed}
use Rattle.admission.proofs.laws.Surveyed as walked
use Rattle.admission.proofs.laws.Surveyed.{begun, used_places_lem, few_numbers, earlier_named, settled_recipe_lem}

-- an answer tells the cuts only where no chunk is refused
pub answered_cuts : (n : ℕ) (ground : Option Refusal) (p : Progress) (c d : CutCounts) → (accepted ground ≡ true → c ≡ d)
    → answered n ground p c ≡ answered n ground p d
unfolding answered
answered_cuts n ground p c d same = by_test (accepted ground) refl
  where
    by_test : (t : Bool) → accepted ground ≡ t → cond t (counted_by n p c) (refused ground) ≡ cond t (counted_by n p d) (refused ground)
    by_test true e = ap (counted_by n p) (same e)
    by_test false e = refl

-- the marks that a survey left
abbrev pub used_marks : Outcome → List ℕ
used_marks o = take o.snapshot.progress.recipe_length o.snapshot.recipe

-- may be settled
pub record Settleable (head : Head) (o : Outcome) : Type 0 where
  pub within : o.snapshot.progress.recipe_length ≤ length o.snapshot.recipe
  pub room : head.chunks.0 + length (used_marks o) < 2 ^ 32
  pub names : NamesEarlier (used_marks o) (length (used_marks o))

-- the recipe with the marks that a survey left settled
abbrev pub settled_recipe : Head → Snapshot → List ℕ
settled_recipe head f =
    settled head.chunks.0 [] (take f.progress.recipe_length f.recipe) ++ drop f.progress.recipe_length f.recipe

-- what a quote makes of a survey
abbrev pub settled_to : Head → List ℕ → Outcome → Quotation
settled_to head job o =
    record {
      answer = answered (length job) o.refusal o.snapshot.progress (cut_counts head.window job);
      recipe = settled_recipe head o.snapshot;
    }

-- what a take makes of one that refused a chunk
abbrev pub stopped_to : Head → List ℕ → List ℕ → List ℕ → Outcome → Taking
stopped_to head pool directory index o =
    record {
      answer = record { quoted = refused o.refusal; head = head };
      pool = pool;
      directory = directory;
      index = index;
      recipe = settled_recipe head o.snapshot;
    }

-- and of one that refused none, by the chunks that are stored
abbrev pub stored_to : Head → List ℕ → List ℕ → List ℕ → List ℕ → List (List ℕ) → Outcome → Taking
stored_to head pool directory index job new o =
    record {
      answer = record {
        quoted = answered (length job) o.refusal o.snapshot.progress (cut_counts head.window job);
        head = head_after head o.snapshot.progress;
      };
      pool = pool_with head pool new;
      directory = directory_with head directory new;
      index = index_with head index new;
      recipe = settled_recipe head o.snapshot;
    }

-- those that its marks say are new
abbrev pub new_in : List ℕ → Outcome → List (List ℕ)
new_in job o =
    new_chunks job 0 (take o.snapshot.progress.recipe_length o.snapshot.recipe)

module _ (head : Head) (pool directory index recipe job : List ℕ) where
  -- one of the grounds 1, 3 to 5, 11 and 12 holds
  pub quote_refused : accepted (admission_ground head pool directory index recipe job) ≡ false
      → record { answer = refused (admission_ground head pool directory index recipe job); recipe = recipe }
      ≡ quoted head pool directory index recipe job
  unfolding quoted
  quote_refused h = rw h

  pub take_refused : accepted (admission_ground head pool directory index recipe job) ≡ false
      → record {
        answer = record { quoted = refused (admission_ground head pool directory index recipe job); head = head };
        pool = pool;
        directory = directory;
        index = index;
        recipe = recipe;
      }
      ≡ taken head pool directory index recipe job
  unfolding taken
  take_refused h = rw (← (quote_refused h), h)

  -- none of them holds, and the job is walked
  module _ (h : accepted (admission_ground head pool directory index recipe job) ≡ true) where
    abbrev held : List (List ℕ)
    held = contents pool directory head.chunks.0

    abbrev whole : Walk
    whole = job_walk head pool directory recipe job

    pub begins : Begun head pool directory index recipe job
    begins = begun (all_passed head pool directory index recipe job h)

    -- what the survey counts
    abbrev progress : Progress
    progress = progress_after head held whole.passed

    -- and the cuts of the job
    abbrev cuts : CutCounts
    cuts = cut_counts head.window job

    -- the recipe as the survey leaves it, with the marks settled
    abbrev settles : List ℕ
    settles = settled_recipe head (survey_after head pool directory recipe whole.passed)

    pub quote_walked : Bytes job → record { answer = answered (length job) whole.refusal progress cuts; recipe = settles }
        ≡ quoted head pool directory index recipe job
    unfolding quoted answered
    quote_walked bytes = rw (h, settled_recipe_lem head pool directory recipe job begins bytes)

    -- the survey
    abbrev pub survey : Outcome
    survey = ends whole.refusal (survey_after head pool directory recipe whole.passed)

    -- a take whose walk refuses a chunk
    pub take_stopped : Bytes job → accepted whole.refusal ≡ false → stopped_to head pool directory index survey ≡ taken head pool directory index recipe job
    unfolding taken answered
    take_stopped bytes stops = rw (← (quote_walked bytes), stops, stops)

    -- and one whose walk refuses none
    pub take_walked : Bytes job → accepted whole.refusal ≡ true
        → stored_to head pool directory index job (new_in job survey) survey ≡ taken head pool directory index recipe job
    unfolding taken answered
    take_walked bytes walks =
        let all = walked.all_passed head pool directory recipe job begins walks in
        let new = walked.new_marked head pool directory recipe job begins bytes walks in
        let q : Quotation = record { answer = answered (length job) whole.refusal progress cuts; recipe = settles } in
        let last : stores head pool directory index (new_of head pool directory job) q ≡ taken head pool directory index recipe job =
        rw (← (quote_walked bytes), walks) in
        ap (λ cs. stored_to head pool directory index job cs survey) new
        ∙ (ap (λ cs. stores head pool directory index cs q) (ap (added held) all) ∙ last)

    -- of a survey that the job's bytes went through
    module _ (bytes : Bytes job) {o : Outcome} (e : o ≡ surveyed head pool directory recipe job) where
      -- the marks may be settled
      pub settleable : Settleable head o
      unfolding surveyed
      settleable =
          subst (Settleable head) (sym e)
          (record {
            within = used_places_lem head pool directory recipe job begins;
            room = few_numbers head pool directory recipe job begins;
            names = earlier_named head pool directory recipe job begins bytes;
          })

      -- the new chunks stored
      pub storable : accepted o.refusal ≡ true → Storable head pool directory index (used_marks o) (length (used_marks o)) job
      unfolding surveyed
      storable walks =
          subst (λ (q : Outcome). Storable head pool directory index (used_marks q) (length (used_marks q)) job) (sym e)
          (walked.storable head pool directory recipe job begins bytes (rw e at walks))

      -- and these are a quote and a take
      pub quote_settled : settled_to head job o ≡ quoted head pool directory index recipe job
      unfolding surveyed
      quote_settled = ap (settled_to head job) e ∙ quote_walked bytes

      pub take_settled : accepted o.refusal ≡ false → stopped_to head pool directory index o ≡ taken head pool directory index recipe job
      unfolding surveyed
      take_settled stops = ap (stopped_to head pool directory index) e ∙ take_stopped bytes (rw e at stops)

      pub take_stored : accepted o.refusal ≡ true
          → stored_to head pool directory index job (new_in job o) o ≡ taken head pool directory index recipe job
      unfolding surveyed
      take_stored walks =
          ap (λ (q : Outcome). stored_to head pool directory index job (new_in job q) q) e ∙ take_walked bytes (rw e at walks)
