-- `survey::Lent::survey_chunk` meets its contract: each answer is that of its step.
use Prim.Native.Nat.{ℕ, ◌/◌, ◌^◌, ◌≤◌, ◌<◌}
use native.Mathlib.Omega.{arith}
use native.Mathlib.Nat.{le_of_eq}
use lib.ListN.{length, take}
use lib.Seq.{take-length}
use mathlib.Core.List.{List}
use mathlib.Core.Path.{◌≡◌, ap, ◌∙◌}
use borrow.Author.Tests.{ltb-true, ltb-false, leb-true, leb-false}
use Rattle.std.proofs.Common.{rules}
use Rattle.std.specs.Prelude.{Err, Option, Some, None, MatchOption}
use Rattle.std.proofs.lemmas.Option.{MatchOption-at_some, MatchOption-at_none}
use Rattle.refusal.specs.declared.Refusal.TheVariants.{RecipeFull, DirectoryFull, PoolFull}
use Rattle.refusal.proofs.laws.Tested.{refuses, allows}
use Rattle.gear.specs.Gear.{sum}
use Rattle.gear.proofs.laws.Sums.{chain_sum}
use Rattle.marks.specs.Marks.{own_chain, last_of, firsts}
use Rattle.marks.proofs.laws.Chains.{own_sum}
use Rattle.marks.proofs.laws.Finding.{head_small}
use Rattle.survey.specs.internal.Snapshot.{snapshot}
use Rattle.survey.proofs.laws.Steps.{recipe_full, found, repeats, directory_full, pool_full, appears}
use Rattle.survey.proofs.Lent.survey_chunk.Goals as goal

-- the chain of a chunk by its sum
own_of : {gear : ℕ} (chunk : List ℕ) → gear ≡ sum (take (length chunk) chunk) → gear / 2 ^ 20 ≡ own_chain chunk
own_of chunk e = ap (λ n. n / 2 ^ 20) (e ∙ ap sum (take-length chunk)) ∙ own_sum chunk

-- what `find` told, where it found a place and where it did not
module _ {o : Option ℕ} {used first : ℕ} (told : MatchOption o (used ≡ first) (λ place. (place ≡ first) × (place < used))) where
  place_found : {place : ℕ} → o ≡ Some place → (place ≡ first) × (place < used)
  place_found e = MatchOption-at_some _ _ _ e told

  none_found : o ≡ None → used ≤ first
  none_found e = le_of_eq (MatchOption-at_none _ _ e told)

pub returns-in_err-unless-clause-outcome : goal.returns-in_err-unless-clause-outcome
returns-in_err-unless-clause-outcome c =
    let full = refuses _ _ c.unless.ensures c.in_err-unless.was in
    let told : c.from_residual.result ≡ Err RecipeFull = search (rules, full.1) in
    rw told (recipe_full _ _ _ _ _ c.args.places.now.heads _ (ltb-false _ _ full.0)).0

pub returns-in_err-unless-clause-heads : goal.returns-in_err-unless-clause-heads
returns-in_err-unless-clause-heads c = (recipe_full _ _ _ _ _ _ _ (ltb-false _ _ (refuses _ _ c.unless.ensures c.in_err-unless.was).0)).1

pub search-number-requires-clause-own_value : goal.search-number-requires-clause-own_value
search-number-requires-clause-own_value c =
    let whole = c.sum_to-sum.ensures ∙ ap sum (take-length c.args.chunk.now) in
    c.chain_of.ensures.chain ∙ ap (λ n. n / 2 ^ 22) whole ∙ chain_sum c.args.chunk.now

pub returns-then-number-stored-clause-outcome : goal.returns-then-number-stored-clause-outcome
returns-then-number-stored-clause-outcome c =
    let room = ltb-true _ _ (allows _ _ c.unless.ensures c.in_ok-unless.was) in
    let number = c.search-number.ensures in
    simp (c.with_repeated.ensures, c.stored.ensures, number)
    (found _ _ _ _ _ c.args.places.now.heads _ room (rw number at c.if-number-stored.true)).0

pub returns-then-number-stored-clause-heads : goal.returns-then-number-stored-clause-heads
returns-then-number-stored-clause-heads c =
    let room = ltb-true _ _ (allows _ _ c.unless.ensures c.in_ok-unless.was) in
    let number = c.search-number.ensures in
    (found _ _ _ _ _ _ _ room (rw number at c.if-number-stored.true)).1

pub find-requires-clause-chain_value : goal.find-requires-clause-chain_value
find-requires-clause-chain_value c =
    c.own_chain-own.ensures.chain ∙ own_of c.args.chunk.now c.sum_to-sum.ensures

pub returns-in-Some-clause-outcome : goal.returns-in-Some-clause-outcome
returns-in-Some-clause-outcome c =
    let room = ltb-true _ _ (allows _ _ c.unless.ensures c.in_ok-unless.was) in
    let number = c.search-number.ensures in
    let place = place_found c.find.ensures {place = c.in-Some.place} (search rules) in
    simp (c.with_repeated-in-Some.ensures, c.repeat.ensures, place.0)
    (repeats _ _ _ _ _ c.args.places.now.heads _ room (rw number at c.if-number-stored.false) (rw place.0 at place.1)).0

pub returns-in-Some-clause-heads : goal.returns-in-Some-clause-heads
returns-in-Some-clause-heads c =
    let room = ltb-true _ _ (allows _ _ c.unless.ensures c.in_ok-unless.was) in
    let number = c.search-number.ensures in
    let place = place_found c.find.ensures {place = c.in-Some.place} (search rules) in
    (repeats _ _ _ _ _ _ _ room (rw number at c.if-number-stored.false) (rw place.0 at place.1)).1

pub returns-in_err-unless-2-clause-outcome : goal.returns-in_err-unless-2-clause-outcome
returns-in_err-unless-2-clause-outcome c =
    let room = ltb-true _ _ (allows _ _ c.unless.ensures c.in_ok-unless.was) in
    let number = c.search-number.ensures in
    let none = none_found c.find.ensures (search rules) in
    let full = refuses _ _ c.unless-2.ensures c.in_err-unless-2.was in
    let told : c.from_residual-in_err-unless-2.result ≡ Err DirectoryFull = search (rules, full.1) in
    rw told (directory_full _ _ _ _ _ c.args.places.now.heads _ room (rw number at c.if-number-stored.false) none
    (rw c.entries-entries.ensures at (ltb-false _ _ full.0))).0

pub returns-in_err-unless-2-clause-heads : goal.returns-in_err-unless-2-clause-heads
returns-in_err-unless-2-clause-heads c =
    let room = ltb-true _ _ (allows _ _ c.unless.ensures c.in_ok-unless.was) in
    let number = c.search-number.ensures in
    let none = none_found c.find.ensures (search rules) in
    let full = refuses _ _ c.unless-2.ensures c.in_err-unless-2.was in
    (directory_full _ _ _ _ _ _ _ room (rw number at c.if-number-stored.false) none
    (rw c.entries-entries.ensures at (ltb-false _ _ full.0))).1

pub returns-in_err-unless-3-clause-outcome : goal.returns-in_err-unless-3-clause-outcome
returns-in_err-unless-3-clause-outcome c =
    let room = ltb-true _ _ (allows _ _ c.unless.ensures c.in_ok-unless.was) in
    let number = c.search-number.ensures in
    let none = none_found c.find.ensures (search rules) in
    let entry = ltb-true _ _ (allows _ _ c.unless-2.ensures c.in_ok-unless-2.was) in
    let full = refuses _ _ c.unless-3.ensures c.in_err-unless-3.was in
    let told : c.from_residual-in_err-unless-3.result ≡ Err PoolFull = search (rules, full.1) in
    rw told (pool_full _ _ _ _ (snapshot c.args.progress c.args.recipe.now) c.args.places.now.heads _ room (rw number at c.if-number-stored.false) none
    (rw c.entries-entries.ensures at entry) (omega (arith, leb-false _ _ full.0, c.requires.counted.filled))).0

pub returns-in_err-unless-3-clause-heads : goal.returns-in_err-unless-3-clause-heads
returns-in_err-unless-3-clause-heads c =
    let room = ltb-true _ _ (allows _ _ c.unless.ensures c.in_ok-unless.was) in
    let number = c.search-number.ensures in
    let none = none_found c.find.ensures (search rules) in
    let entry = ltb-true _ _ (allows _ _ c.unless-2.ensures c.in_ok-unless-2.was) in
    let full = refuses _ _ c.unless-3.ensures c.in_err-unless-3.was in
    (pool_full _ _ _ _ (snapshot c.args.progress c.args.recipe.now) _ _ room (rw number at c.if-number-stored.false) none
    (rw c.entries-entries.ensures at entry) (omega (arith, leb-false _ _ full.0, c.requires.counted.filled))).1

pub enter-requires-clause-earlier_bound : goal.enter-requires-clause-earlier_bound
enter-requires-clause-earlier_bound c =
    let m = c.requires.placed in
    head_small _ _ _ m.used m.linked.few _ _ m.own_heads c.own_chain-own.ensures.below

pub returns-clause-outcome : goal.returns-clause-outcome
returns-clause-outcome c =
    let room = ltb-true _ _ (allows _ _ c.unless.ensures c.in_ok-unless.was) in
    let number = c.search-number.ensures in
    let none = none_found c.find.ensures (search rules) in
    let owns = c.own_chain-own.ensures.chain ∙ own_of c.args.chunk.now c.sum_to-sum.ensures in
    let shown = firsts c.args.self.now.job.now 0 (take c.args.progress.recipe_length c.args.recipe.now) in
    let own = c.requires.placed.own_heads.each _ c.own_chain-own.ensures.below ∙ ap (λ k. last_of k shown) owns in
    let entry = ltb-true _ _ (allows _ _ c.unless-2.ensures c.in_ok-unless-2.was) in
    let fits = leb-true _ _ (allows _ _ c.unless-3.ensures c.in_ok-unless-3.was) in
    simp (c.with_new.ensures, c.enter.ensures.mark, own)
    (appears c.args.self.now.head _ _ _ (snapshot c.args.progress c.args.recipe.now) c.args.places.now.heads _ room (rw number at c.if-number-stored.false) none
    (rw c.entries-entries.ensures at entry) (omega (arith, fits, c.requires.counted.filled))).0

pub returns-clause-heads : goal.returns-clause-heads
returns-clause-heads c =
    let room = ltb-true _ _ (allows _ _ c.unless.ensures c.in_ok-unless.was) in
    let number = c.search-number.ensures in
    let none = none_found c.find.ensures (search rules) in
    let owns = c.own_chain-own.ensures.chain ∙ own_of c.args.chunk.now c.sum_to-sum.ensures in
    let entry = ltb-true _ _ (allows _ _ c.unless-2.ensures c.in_ok-unless-2.was) in
    let fits = leb-true _ _ (allows _ _ c.unless-3.ensures c.in_ok-unless-3.was) in
    rw (c.enter.ensures.heads, owns)
    (appears c.args.self.now.head _ _ _ (snapshot c.args.progress c.args.recipe.now) _ _ room (rw number at c.if-number-stored.false) none
    (rw c.entries-entries.ensures at entry) (omega (arith, fits, c.requires.counted.filled))).1
