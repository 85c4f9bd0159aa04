-- "Quote and take pass on three counts of cuts": those of the job, whatever the store holds.
use Prim.Native.Nat.{ℕ}
use mathlib.Core.Path.{◌≡◌, refl, sym, ap, ◌∙◌}
use mathlib.Core.Bool.{Bool, true, false, cond, true≢false}
use mathlib.Core.List.{List}
use Rattle.refusal.specs.Number.{accepted}
use Rattle.refusal.specs.declared.Refusal.{Refusal}
use Rattle.cut_counts.specs.CutCounts.{cut_counts}
use Rattle.cut_counts.proofs.laws.Counting.{no_cuts}
use Rattle.store.specs.declared.Head.{Head}
use Rattle.store.specs.Memory.{contents}
use Rattle.survey.specs.Walk.{Walk, job_walk}
use Rattle.admission.specs.Grounds.{admission_ground}
use Rattle.admission.specs.Quote.{refused, counted, walked, quoted}
use Rattle.admission.specs.Take.{taken}
use Rattle.admission.proofs.laws.Asked.{asked}
use Rattle.admission.proofs.theorems.QuoteAndTake.{same_quotation, same_refusal}
use Rattle.std.specs.Prelude.{Option}

module _ (head : Head) (pool directory index recipe job : List ℕ) where
  -- a quote that is not refused tells the counts of the job's cuts
  pub quote_counts_cuts : accepted (quoted head pool directory index recipe job).answer.refusal ≡ true
      → (quoted head pool directory index recipe job).answer.cuts ≡ cut_counts head.window job
  quote_counts_cuts h = (asked head pool directory index recipe job h).cuts

  -- and so does its take
  pub take_counts_cuts : accepted (taken head pool directory index recipe job).answer.quoted.refusal ≡ true
      → (taken head pool directory index recipe job).answer.quoted.cuts ≡ cut_counts head.window job
  take_counts_cuts h =
      let same = same_quotation head pool directory index recipe job in
      ap (λ q. q.answer.cuts) same
      ∙ quote_counts_cuts (ap accepted (sym (same_refusal head pool directory index recipe job)) ∙ h)

  -- refused, all three are 0
  pub refused_no_cuts : accepted (quoted head pool directory index recipe job).answer.refusal ≡ false
      → (quoted head pool directory index recipe job).answer.cuts ≡ no_cuts
  unfolding quoted
  refused_no_cuts h = by_ground (accepted ground) refl h
    where
      held : List (List ℕ)
      held = contents pool directory head.chunks.0

      ground : Option Refusal
      ground = admission_ground head pool directory index recipe job

      whole : Walk
      whole = job_walk head pool directory recipe job

      by_walk : (t : Bool) → accepted whole.refusal ≡ t
          → let answer = cond t (counted head.window job held whole.passed) (refused whole.refusal) in
          accepted answer.refusal ≡ false → answer.cuts ≡ no_cuts
      by_walk true e r = absurd (true≢false r)
      by_walk false e r = refl

      by_ground : (t : Bool) → accepted ground ≡ t
          → let q = cond t (walked head.window job held recipe whole) (record { answer = refused ground; recipe = recipe }) in
          accepted q.answer.refusal ≡ false → q.answer.cuts ≡ no_cuts
      by_ground true e r = by_walk (accepted whole.refusal) refl r
      by_ground false e r = refl

  -- of a take too
  pub refused_take_no_cuts : accepted (taken head pool directory index recipe job).answer.quoted.refusal ≡ false
      → (taken head pool directory index recipe job).answer.quoted.cuts ≡ no_cuts
  refused_take_no_cuts h =
      ap (λ q. q.answer.cuts) (same_quotation head pool directory index recipe job)
      ∙ refused_no_cuts (ap accepted (sym (same_refusal head pool directory index recipe job)) ∙ h)

-- any two stores of one window, whatever they hold, tell the same counts of a job that both accept
pub any_store : (head head' : Head) (pool pool' directory directory' index index' recipe recipe' job : List ℕ)
    → head.window ≡ head'.window
    → accepted (quoted head pool directory index recipe job).answer.refusal ≡ true
    → accepted (quoted head' pool' directory' index' recipe' job).answer.refusal ≡ true
    → (quoted head pool directory index recipe job).answer.cuts ≡ (quoted head' pool' directory' index' recipe' job).answer.cuts
any_store head head' pool pool' directory directory' index index' recipe recipe' job same h g =
    quote_counts_cuts head pool directory index recipe job h
    ∙ (ap (λ w. cut_counts w job) same ∙ sym (quote_counts_cuts head' pool' directory' index' recipe' job g))
