-- "On the same inputs a quote and a take give equal lengths and counts, 0 if refused, equal recipes and the same refusal."
use Prim.Native.Nat.{ℕ}
use native.Mathlib.Omega.{arith}
use mathlib.Core.Path.{◌≡◌, refl, ap, ◌∙◌}
use mathlib.Core.Bool.{Bool, true, false, cond}
use mathlib.Core.List.{List, ◌++◌}
use lib.ListN.{length, drop}
use lib.Seq.{drop_at}
use Rattle.refusal.specs.Number.{accepted}
use Rattle.refusal.specs.declared.Refusal.{Refusal}
use Rattle.store.specs.declared.Head.{Head}
use Rattle.store.specs.Contents.{numbers}
use Rattle.store.specs.Grounds.{recipe_allowed}
use Rattle.store.specs.Memory.{contents}
use Rattle.store.proofs.laws.contents.Additions.{length_numbers}
use Rattle.survey.specs.Walk.{Walk, job_walk}
use Rattle.survey.proofs.laws.chunks.OneChunk.{noted_length}
use Rattle.admission.specs.Grounds.{admission_ground}
use Rattle.admission.specs.Quote.{Quotation, refused, walked, quoted}
use Rattle.admission.specs.Take.{quotation_of, new_of, stores, refuses, taken}
use Rattle.admission.proofs.laws.Surveyed.{room}
use Rattle.admission.proofs.laws.Outcomes.{begins}
use Rattle.std.specs.Prelude.{Option}

-- what a take answers and leaves in the recipe is its quote
pub same_quotation : (head : Head) (pool directory index recipe job : List ℕ)
    → quotation_of (taken head pool directory index recipe job) ≡ quoted head pool directory index recipe job
unfolding taken
same_quotation head pool directory index recipe job = by_test (accepted q.answer.refusal)
  where
    q : Quotation
    q = quoted head pool directory index recipe job

    by_test : (t : Bool) → quotation_of
        (cond t (stores head pool directory index (new_of head pool directory job) q) (refuses head pool directory index q)) ≡ q
    by_test true = refl
    by_test false = refl

-- so it is refused as its quote is
pub same_refusal : (head : Head) (pool directory index recipe job : List ℕ)
    → (taken head pool directory index recipe job).answer.quoted.refusal ≡ (quoted head pool directory index recipe job).answer.refusal
same_refusal head pool directory index recipe job = ap (λ q. q.answer.refusal) (same_quotation head pool directory index recipe job)

module _ (head : Head) (pool directory index recipe job : List ℕ) where
  -- the chunks of the store, the first of the grounds 1, 3 to 5, 11 and 12, and the walk
  abbrev held : List (List ℕ)
  held = contents pool directory head.chunks.0

  abbrev ground : Option Refusal
  ground = admission_ground head pool directory index recipe job

  abbrev whole : Walk
  whole = job_walk head pool directory recipe job

  -- what they give with another recipe, by whether none of the grounds holds
  abbrev quoted_to : List ℕ → Bool → Quotation
  quoted_to other t = cond t (walked head.window job held other whole) (record { answer = refused ground; recipe = other })

  -- it is the quote with a recipe of as many places
  same_places : (other : List ℕ) → length other ≡ length recipe
      → quoted head pool directory index other job ≡ quoted_to other (accepted ground)
  unfolding quoted admission_ground recipe_allowed
  same_places other e = rw e

  -- a quote keeps the places of the recipe
  places_kept : length (quoted head pool directory index recipe job).recipe ≡ length recipe
  unfolding quoted
  places_kept = by_ground (accepted ground) refl
    where
      by_ground : (t : Bool) → accepted ground ≡ t → length (quoted_to recipe t).recipe ≡ length recipe
      by_ground true h =
          let ds = whole.passed in
          let fits = room head pool directory recipe job (begins head pool directory index recipe job h) in
          noted_length recipe (numbers held ds) (omega (arith, length_numbers held ds, fits.places))
      by_ground false h = refl

  -- asked again, with the recipe that it left, it tells the same
  quoted_again : quoted head pool directory index (quoted head pool directory index recipe job).recipe job
      ≡ quoted head pool directory index recipe job
  unfolding quoted
  quoted_again =
      same_places (quoted head pool directory index recipe job).recipe places_kept ∙ by_ground (accepted ground)
    where
      by_ground : (t : Bool) → quoted_to (quoted_to recipe t).recipe t ≡ quoted_to recipe t
      by_ground true =
          let ns = numbers held whole.passed in
          let over = drop_at ns (drop (length ns) recipe) (length ns) refl in
          ap (λ (rest : List ℕ). record { answer = (quoted_to recipe true).answer; recipe = ns ++ rest }) over
      by_ground false = refl

  -- so a take that is lent the recipe as its quote left it tells what the quote told
  pub taken_after : quotation_of (taken head pool directory index (quoted head pool directory index recipe job).recipe job)
      ≡ quoted head pool directory index recipe job
  taken_after = same_quotation head pool directory index (quoted head pool directory index recipe job).recipe job ∙ quoted_again
