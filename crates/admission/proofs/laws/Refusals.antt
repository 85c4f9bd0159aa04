-- On which of its grounds a quote is refused: one of 1, 3 to 5, 11 and 12, or one of 6 to 8 at a chunk.
use Prim.Native.Nat.{ℕ, ◌≤◌}
use native.Mathlib.Omega.{arith}
use mathlib.Core.Path.{◌≡◌, refl, sym, ap, ◌∙◌}
use mathlib.Core.Logic.{◌⊎◌, inl, inr, ⊎_elim}
use mathlib.Core.Bool.{Bool, true, false, cond}
use mathlib.Core.List.{List, [], ◌∷◌}
use Rattle.refusal.specs.Number.{number_of, accepted}
use Rattle.refusal.specs.Grounds.{unless, first}
use Rattle.refusal.specs.declared.Refusal.{Refusal}
use Rattle.refusal.specs.declared.Refusal.TheVariants.{Window, JobLength, MemoryLimit, Head as HeadMisfit, IndexLength, Index}
use Rattle.refusal.proofs.laws.NoGround.{no_ground}
use Rattle.chunker.specs.Scanner.{window_allowed}
use Rattle.store.specs.declared.Head.{Head}
use Rattle.store.specs.Memory.{contents}
use Rattle.store.specs.Grounds.{memory_allowed, recipe_allowed, fits}
use Rattle.index.specs.Grounds.{length_allowed, meets}
use Rattle.survey.specs.Walk.{Walk, job_walk}
use Rattle.admission.specs.declared.Quoted.{Quoted}
use Rattle.admission.specs.Grounds.{job_allowed, admission_ground}
use Rattle.admission.specs.Quote.{counted, refused, walked, quoted}
use Rattle.admission.proofs.laws.Outcomes.{quote_refused}
use Rattle.std.specs.Prelude.{Option}

-- it is none of 6 to 8
abbrev Early : Option Refusal → Type 0
Early ground = (number_of ground ≤ 5) ⊎ (11 ≤ number_of ground)

-- the first of the seven, by their tests
by_tests : (window job recipe memory fitting long indexed : Bool)
    → Early
    (first
    (unless window Window
    ∷ unless job JobLength
    ∷ unless recipe MemoryLimit
    ∷ unless memory MemoryLimit
    ∷ unless fitting HeadMisfit
    ∷ unless long IndexLength
    ∷ unless indexed Index
    ∷ []))
by_tests false job recipe memory fitting long indexed = inl (omega arith)
by_tests true false recipe memory fitting long indexed = inl (omega arith)
by_tests true true false memory fitting long indexed = inl (omega arith)
by_tests true true true false fitting long indexed = inl (omega arith)
by_tests true true true true false long indexed = inl (omega arith)
by_tests true true true true true false indexed = inr (omega arith)
by_tests true true true true true true false = inr (omega arith)
by_tests true true true true true true true = inl (omega arith)

-- what the walk gives is refused as the walk is
walked_refusal : (w : ℕ) (job : List ℕ) (held : List (List ℕ)) (recipe : List ℕ) (whole : Walk)
    → (walked w job held recipe whole).answer.refusal ≡ whole.refusal
walked_refusal w job held recipe whole = by_test (accepted whole.refusal) refl
  where
    by_test : (t : Bool) → accepted whole.refusal ≡ t
        → (cond {A = Quoted} t (counted w job held whole.passed) (refused whole.refusal)).refusal ≡ whole.refusal
    by_test true h = sym (no_ground whole.refusal h)
    by_test false h = refl

module _ (head : Head) (pool directory index recipe job : List ℕ) where
  -- a ground before the first chunk is none of 6 to 8
  ground_early : Early (admission_ground head pool directory index recipe job)
  unfolding admission_ground
  ground_early =
      by_tests (window_allowed head.window) (job_allowed job) (recipe_allowed recipe) (memory_allowed pool directory)
      (fits head pool directory) (length_allowed directory index) (meets index (contents pool directory head.chunks.0))

  -- where none of them holds, the quote is that of the walk
  module _ (none : accepted (admission_ground head pool directory index recipe job) ≡ true) where
    pub quote_walks : quoted head pool directory index recipe job
        ≡ walked head.window job (contents pool directory head.chunks.0) recipe (job_walk head pool directory recipe job)
    unfolding quoted
    quote_walks = rw none

    -- and so is its refusal
    pub quote_refusal : (quoted head pool directory index recipe job).answer.refusal ≡ (job_walk head pool directory recipe job).refusal
    quote_refusal = rw quote_walks (walked_refusal head.window job _ recipe (job_walk head pool directory recipe job))

  -- a quote that is refused on one of 6 to 8 is refused by its walk
  pub chunk_refused : (ground : Option Refusal) → 6 ≤ number_of ground → number_of ground ≤ 8
      → (quoted head pool directory index recipe job).answer.refusal ≡ ground
      → (accepted (admission_ground head pool directory index recipe job) ≡ true)
      × ((job_walk head pool directory recipe job).refusal ≡ ground)
  chunk_refused ground late soon e = by_ground (accepted (admission_ground head pool directory index recipe job)) refl
    where
      by_ground : (t : Bool) → accepted (admission_ground head pool directory index recipe job) ≡ t
          → (t ≡ true) × ((job_walk head pool directory recipe job).refusal ≡ ground)
      by_ground true h = (refl, sym (quote_refusal h) ∙ e)
      by_ground false h =
          let same = ap (λ q. q.answer.refusal) (quote_refused head pool directory index recipe job h) ∙ e in
          ⊎_elim (λ l. absurd (omega (arith, ap number_of same, late))) (λ l. absurd (omega (arith, ap number_of same, soon)))
          ground_early
