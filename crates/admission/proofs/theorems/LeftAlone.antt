-- "Memory beyond what is written stays unchanged."
use Prim.Native.Nat.{ℕ, ◌*◌, ◌≤◌, ◌<◌}
use mathlib.Core.Path.{◌≡◌, refl, sym, ap, subst, ◌∙◌}
use mathlib.Core.Bool.{Bool, true, false}
use mathlib.Core.List.{List}
use lib.ListN.{length, take, drop}
use lib.Seq.{drop_at}
use Rattle.refusal.specs.Number.{accepted}
use Rattle.directory.specs.Entry.{stride}
use Rattle.store.specs.declared.Head.{Head}
use Rattle.store.specs.Contents.{numbers}
use Rattle.store.specs.Memory.{contents}
use Rattle.store.proofs.laws.contents.Additions.{length_numbers}
use Rattle.index.specs.Index.{link_at}
use Rattle.storing.proofs.laws.LeftAlone.{left_alone}
use Rattle.survey.specs.Walk.{job_walk}
use Rattle.admission.specs.Grounds.{admission_ground}
use Rattle.admission.specs.Quote.{quoted}
use Rattle.admission.specs.Take.{Taking, new_of, taken}
use Rattle.admission.proofs.laws.Surveyed as surveyed
use Rattle.admission.proofs.laws.Surveyed.{begun}
use Rattle.admission.proofs.laws.Outcomes.{quote_refused}
use Rattle.admission.proofs.laws.Asked.{passed, whole, asked}
use Rattle.admission.proofs.laws.Takes.{Untouched, untouched, stores_new, bytes_room, entries_room}
use Rattle.admission.proofs.laws.Refusals.{quote_walks}
use Rattle.admission.proofs.theorems.QuoteAndTake.{same_quotation, same_refusal}

-- the pool, the directory and the links before and after what is stored, and the recipe after its numbers
pub record LeftAlone (head : Head) (pool directory index recipe : List ℕ) (t : Taking) : Type 0 where
  pub pool_before : take head.filled.0 t.pool ≡ take head.filled.0 pool
  pub pool_after : drop t.answer.head.filled.0 t.pool ≡ drop t.answer.head.filled.0 pool
  pub directory_before : take (head.chunks.0 * stride) t.directory ≡ take (head.chunks.0 * stride) directory
  pub directory_after : drop (t.answer.head.chunks.0 * stride) t.directory
      ≡ drop (t.answer.head.chunks.0 * stride) directory
  pub links_before : (n : ℕ) → n < head.chunks.0 → link_at t.index n ≡ link_at index n
  pub links_after : (n : ℕ) → t.answer.head.chunks.0 ≤ n → link_at t.index n ≡ link_at index n
  pub recipe_after : drop t.answer.quoted.recipe_length t.recipe ≡ drop t.answer.quoted.recipe_length recipe

module _ (head : Head) (pool directory index recipe job : List ℕ) where
  -- "a refusal before 6 leaves all lent memory untouched": a quote leaves the recipe
  pub quote_untouched : accepted (admission_ground head pool directory index recipe job) ≡ false
      → (quoted head pool directory index recipe job).recipe ≡ recipe
  quote_untouched h = sym (ap (λ q. q.recipe) (quote_refused head pool directory index recipe job h))

  -- and so does a take, which leaves pool, directory, index and head where it is refused on any ground (refused_leaves)
  pub take_untouched : accepted (admission_ground head pool directory index recipe job) ≡ false
      → (taken head pool directory index recipe job).recipe ≡ recipe
  take_untouched h = ap (λ q. q.recipe) (same_quotation head pool directory index recipe job) ∙ quote_untouched h

  -- the chunks before the first that is refused; all, where none is
  abbrev earlier : List (List ℕ)
  earlier = (job_walk head pool directory recipe job).passed

  -- where a chunk is refused, a quote leaves the recipe's places from the refused chunk's on
  pub quote_rest : drop (length earlier) (quoted head pool directory index recipe job).recipe ≡ drop (length earlier) recipe
  quote_rest = by_ground (accepted (admission_ground head pool directory index recipe job)) refl
    where
      ns : List ℕ
      ns = numbers (contents pool directory head.chunks.0) earlier

      count : length ns ≡ length earlier
      count = length_numbers (contents pool directory head.chunks.0) earlier

      by_ground : (t : Bool) → accepted (admission_ground head pool directory index recipe job) ≡ t
          → drop (length earlier) (quoted head pool directory index recipe job).recipe ≡ drop (length earlier) recipe
      by_ground true none =
          rw (quote_walks head pool directory index recipe job none)
          (drop_at ns (drop (length ns) recipe) (length earlier) count ∙ ap (λ n. drop n recipe) count)
      by_ground false h = ap (drop (length earlier)) (quote_untouched h)

  -- and so does a take
  pub take_rest : drop (length earlier) (taken head pool directory index recipe job).recipe ≡ drop (length earlier) recipe
  take_rest = ap (λ q. drop (length earlier) q.recipe) (same_quotation head pool directory index recipe job) ∙ quote_rest

  -- a take and its quote are accepted or refused alike
  alike : accepted (quoted head pool directory index recipe job).answer.refusal
      ≡ accepted (taken head pool directory index recipe job).answer.quoted.refusal
  alike = sym (ap accepted (same_refusal head pool directory index recipe job))

  -- "A take refused by 6 to 8 now leaves pool and directory untouched", "a refused one leaves the index": so does one refused on
  -- any ground, and the head stays
  pub refused_leaves : accepted (taken head pool directory index recipe job).answer.quoted.refusal ≡ false
      → Untouched head pool directory index (taken head pool directory index recipe job)
  refused_leaves h = untouched head pool directory index recipe job (alike ∙ h)

  -- an accepted take writes only the bytes, the entries and the links of the new chunks, the heads of their chains, and the
  -- numbers of its recipe
  pub accepted_leaves : accepted (taken head pool directory index recipe job).answer.quoted.refusal ≡ true
      → LeftAlone head pool directory index recipe (taken head pool directory index recipe job)
  accepted_leaves accepts =
      let h = alike ∙ accepts in
      let left = left_alone head pool directory index (new_of head pool directory job)
      (bytes_room head pool directory index recipe job h) (entries_room head pool directory index recipe job h) in
      let b = begun (passed head pool directory index recipe job h) in
      let all = ap length (surveyed.all_passed head pool directory recipe job b (whole head pool directory index recipe job h)) in
      let counted = all ∙ sym (asked head pool directory index recipe job h).counted in
      rw (stores_new head pool directory index recipe job h)
      (record {
        pool_before = left.bytes_before;
        pool_after = left.bytes_after;
        directory_before = left.numbers_before;
        directory_after = left.numbers_after;
        links_before = left.links_before;
        links_after = left.links_after;
        recipe_after = subst (λ n. drop n (quoted head pool directory index recipe job).recipe ≡ drop n recipe) counted quote_rest;
      })
