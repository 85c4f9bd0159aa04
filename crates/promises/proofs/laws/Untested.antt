-- Quotes and takes that do not test the index: in a list of events from a fresh store they tell and leave the same. Examples are
-- computed by them, since a proof that computes the test of 1,024 chains takes long.
use Prim.Native.Nat.{ℕ, zero, suc}
use mathlib.Core.Path.{◌≡◌, refl, ap, ◌∙◌}
use mathlib.Core.Bool.{cond}
use mathlib.Core.List.{List, [], ◌∷◌}
use Rattle.refusal.specs.Number.{accepted}
use Rattle.refusal.specs.Grounds.{first}
use Rattle.refusal.specs.declared.Refusal.{Refusal}
use Rattle.chunker.specs.Scanner.{window_ground}
use Rattle.store.specs.Grounds.{recipe_ground, memory_ground, head_ground}
use Rattle.survey.specs.Walk.{job_walk}
use Rattle.admission.specs.Grounds.{job_ground, admission_ground}
use Rattle.admission.specs.Quote.{Quotation, refused, walked, quoted}
use Rattle.admission.specs.Take.{Taking, quotation_of, new_of, stores, refuses, taken}
use Rattle.admission.proofs.theorems.QuoteAndTake.{same_quotation}
use Rattle.promises.specs.History as history
use Rattle.promises.specs.History.{Event, quoting, taking, reading, State, start, holds, quote_in, take_in, event_at, AllBytes}
use Rattle.promises.proofs.laws.Events.{Fitting, grows, start_fits}
use Rattle.std.specs.Prelude.{Option}

-- the first of the grounds 1 and 3 to 5 that holds
unfoldable pub ground : State → List ℕ → List ℕ → Option Refusal
ground s job recipe =
    first
    (window_ground s.head.window
    ∷ job_ground job
    ∷ recipe_ground recipe
    ∷ memory_ground s.pool s.directory
    ∷ head_ground s.head s.pool s.directory
    ∷ [])

-- a quote by these
unfoldable pub quote_of : State → List ℕ → List ℕ → Quotation
quote_of s job recipe =
    cond (accepted (ground s job recipe))
    (walked s.head.window job (holds s) recipe (job_walk s.head s.pool s.directory recipe job))
    (record { answer = refused (ground s job recipe); recipe = recipe })

-- a take
unfoldable pub take_of : State → List ℕ → List ℕ → Taking
take_of s job recipe =
    let q = quote_of s job recipe in
    cond (accepted q.answer.refusal)
    (stores s.head s.pool s.directory s.index (new_of s.head s.pool s.directory job) q)
    (refuses s.head s.pool s.directory s.index q)

-- the state that an event leaves
unfoldable pub leaves : State → Event → State
leaves s (quoting job recipe) = s
leaves s (taking job recipe) =
    let t = take_of s job recipe in
    record { head = t.answer.head; pool = t.pool; directory = t.directory; index = t.index }
leaves s reading = s

-- the state before a place of a list
unfoldable pub before : State → List Event → ℕ → State
before s events zero = s
before s events (suc j) = leaves (before s events j) (event_at events j)

-- where head and index fit, the test changes nothing
module _ (s : State) (f : Fitting s) where
  pub same_ground : (job recipe : List ℕ)
      → admission_ground s.head s.pool s.directory s.index recipe job ≡ ground s job recipe
  unfolding admission_ground ground
  same_ground job recipe = rw (f.index_length, f.indexed)

  pub same_quote : (job recipe : List ℕ) → quote_in s job recipe ≡ quote_of s job recipe
  unfolding quoted quote_of
  same_quote job recipe = rw (same_ground job recipe)

  same_take : (job recipe : List ℕ) → take_in s job recipe ≡ take_of s job recipe
  unfolding taken take_of
  same_take job recipe = rw (same_quote job recipe)

  same_leaves : (e : Event) → history.leaves s e ≡ leaves s e
  unfolding history.leaves leaves
  same_leaves (quoting job recipe) = refl
  same_leaves (taking job recipe) = rw (same_take job recipe)
  same_leaves reading = refl

-- what is told of a job that is quoted or taken before place j of a list from a fresh store
abbrev pub told_at : ℕ → List ℕ → List ℕ → List Event → ℕ → List ℕ → List ℕ → Quotation
told_at w pool directory events j job recipe = quote_of (before (start w pool directory) events j) job recipe

-- so it changes nothing in such a list
module _ (w : ℕ) (pool directory : List ℕ) (events : List Event) (b : AllBytes events) where
  abbrev s : State
  s = start w pool directory

  fitting : (j : ℕ) → Fitting (history.before s events j)
  fitting j = (grows s (start_fits w pool directory) events b j).fitting

  pub same_before : (j : ℕ) → history.before s events j ≡ before s events j
  unfolding history.before before
  same_before zero = refl
  same_before (suc j) =
      same_leaves (history.before s events j) (fitting j) (event_at events j)
      ∙ ap (λ t. leaves t (event_at events j)) (same_before j)

  module _ (j : ℕ) (job recipe : List ℕ) where
    pub told_by_quote : quote_in (history.before s events j) job recipe ≡ told_at w pool directory events j job recipe
    told_by_quote =
        same_quote (history.before s events j) (fitting j) job recipe ∙ ap (λ t. quote_of t job recipe) (same_before j)

    pub told_by_take : quotation_of (take_in (history.before s events j) job recipe)
        ≡ told_at w pool directory events j job recipe
    told_by_take =
        let t = history.before s events j in
        same_quotation t.head t.pool t.directory t.index recipe job ∙ told_by_quote
