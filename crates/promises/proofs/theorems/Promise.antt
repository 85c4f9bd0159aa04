-- Demand 3, of any list of quotes and takes from a fresh store.
use Prim.Native.Nat.{ℕ, zero, suc, ◌+◌, ◌-◌, ◌<◌}
use native.Mathlib.Omega.{arith}
use mathlib.Core.Path.{◌≡◌, refl, ap, sym, ◌∙◌}
use mathlib.Core.List.{List, [], ◌∷◌, ◌++◌, map, append_assoc}
use lib.ListN.{length, length-map}
use Rattle.chunker.specs.Chunks.{chunks, starting_after}
use Rattle.chunker.specs.KeptMaximum.{KeptMaximum}
use Rattle.chunker.proofs.laws.ground.Soundness.{window_bounds}
use Rattle.chunker.proofs.theorems.SharedEnding.{lines_up}
use Rattle.store.specs.Contents.{number, grown}
use Rattle.store.proofs.laws.contents.Growth.{numbers_grown}
use Rattle.admission.specs.Quote.{Quotation}
use Rattle.promises.specs.History.{Event, start, holds, before, TakenAt, AskedAt, AllBytes}
use Rattle.promises.specs.Fields.{Field}
use Rattle.promises.specs.Promise.{PromisedOf, numbers_after}
use Rattle.promises.proofs.laws.Events.{told_at, named_at, start_fits}
use Rattle.promises.proofs.theorems.SeveralFields.{several_fields}

-- the numbers of the chunks that start after a place
numbers_after_lem : (number : List ℕ → ℕ) (n : ℕ) (cs : List (List ℕ))
    → numbers_after n cs (map number cs) ≡ map number (starting_after n cs)
numbers_after_lem number n [] = refl
numbers_after_lem number zero (c ∷ cs) = refl
numbers_after_lem number (suc n) (c ∷ cs) = numbers_after_lem number (suc n - length c) cs

-- "It is a single claim about the whole list": of each job that is taken, each later quote or take of a revision "whether or not
-- the revision is ever taken", each division and each kept maximum; its ceiling is that of a single field
pub promise : (w : ℕ) (pool directory : List ℕ) (events : List Event) → AllBytes events → (i j : ℕ) → i < j
    → (beginning replaced changed ending : List ℕ) (old new : Quotation)
    → TakenAt (start w pool directory) events i (beginning ++ (replaced ++ ending)) old
    → AskedAt (start w pool directory) events j (beginning ++ (changed ++ ending)) new
    → (k : ℕ) → KeptMaximum w ending k → PromisedOf w beginning replaced changed ending k old new
promise w pool directory events bytes i j l beginning replaced changed ending old new taken asked k kept =
    let s = start w pool directory in
    let f = start_fits w pool directory in
    let old_job = beginning ++ (replaced ++ ending) in
    let new_job = beginning ++ (changed ++ ending) in
    let field : Field = record { replaced = replaced; changed = changed; kept = ending; place = k } in
    let charge = several_fields w pool directory events bytes i j l old new beginning (field ∷ []) taken asked (kept, tt) in
    let told = told_at s f events bytes j new_job new asked in
    let positive = (window_bounds w told.allowed).0 in
    let lined = lines_up w positive (beginning ++ replaced) (beginning ++ changed) ending k kept in
    let same_chunks = simp append_assoc at lined.same_chunks in
    let held = holds (before s events j) in
    let after = number (grown held (chunks w new_job)) in
    let named = named_at s f events bytes i old_job old taken j l in
    let old_recipe = named.numbers ∙ sym (numbers_grown held (chunks w new_job) (chunks w old_job) named.among) in
    let n = length (beginning ++ replaced) + (k + w) in
    let m = length (beginning ++ changed) + (k + w) in
    let old_numbers = ap (numbers_after n (chunks w old_job)) old_recipe ∙ numbers_after_lem after n (chunks w old_job) in
    let new_numbers = ap (numbers_after m (chunks w new_job)) told.tells.recipe ∙ numbers_after_lem after m (chunks w new_job) in
    record {
      ceiling = omega (arith, charge);
      lined_up = lined;
      same_numbers = old_numbers ∙ ap (map after) same_chunks ∙ sym new_numbers;
      equally_many = ap length old_numbers ∙ simp length-map;
    }
