-- A list of events with chunks on one chain of the index.
use Prim.Native.Nat.{ℕ}
use native.Mathlib.Omega.{arith}
use mathlib.Core.Path.{◌≡◌, refl, ap}
use mathlib.Core.List.{List, [], ◌∷◌}
use lib.IntN.{negsuc}
use lib.ListN.{replicate}
use Rattle.gear.specs.Gear.{next, entries_from, table, sum_from, chain}
use Rattle.index.specs.Index.{none, head_at, link_at, fresh_index, enter, enter_all}
use Rattle.promises.specs.History.{AllBytes}
use Rattle.promises.proofs.laws.Untested.{same_before}
use Rattle.promises.proofs.theorems.StarredJobs.{handed, store_after, counts, computed, counts_as}
use Rattle.std.specs.Prelude.{None}

-- with window 1 the chunks 07 00, 05 01 and 13 10
abbrev pub first_job : List ℕ
first_job = 7 ∷ 0 ∷ 5 ∷ 1 ∷ 19 ∷ 16 ∷ []

-- 13 10 again, and 16 14
abbrev pub second_job : List ℕ
second_job = 19 ∷ 16 ∷ 22 ∷ 20 ∷ []

-- all but 05 01 are of chain 207
pub chains_of : (chain (7 ∷ 0 ∷ []) ≡ 207) × (chain (19 ∷ 16 ∷ []) ≡ 207) × (chain (22 ∷ 20 ∷ []) ≡ 207)
    × (chain (5 ∷ 1 ∷ []) ≡ 371)
unfolding next entries_from table sum_from chain
chains_of = (refl, refl, refl, refl)

-- what the takes of both come to: only 16 14 is new in the second
pub both_told : (counts 1 [] first_job ≡ (None, 0 ∷ 1 ∷ 2 ∷ [], 6, 0, negsuc 71, 3, 0, 0))
    × (counts 1 (first_job ∷ []) second_job ≡ (None, 2 ∷ 3 ∷ [], 2, 2, negsuc 69, 2, 0, 0))
unfolding computed
both_told = (counts_as 1 [] first_job _ tt refl, counts_as 1 (first_job ∷ []) second_job _ (omega arith) refl)

-- the index after both
abbrev pub index : List ℕ
index = (store_after 1 (first_job ∷ second_job ∷ [])).index

-- "at the front of its chain": chain 207 meets 3, 2 and 0, the newest first, and the chain of 05 01 meets 1 alone
pub newest_first : (head_at index 207 ≡ 3) × (link_at index 3 ≡ 2) × (link_at index 2 ≡ 0) × (link_at index 0 ≡ none)
    × (head_at index 371 ≡ 1) × (link_at index 1 ≡ none)
unfolding computed next entries_from table sum_from chain fresh_index enter enter_all
newest_first =
    let events = handed first_job ∷ handed second_job ∷ [] in
    let bytes : AllBytes events = omega arith in
    let same = same_before 1 (replicate 32 0) (replicate 16 0) events bytes 2 in (
      ap (λ s. head_at s.index 207) same,
      ap (λ s. link_at s.index 3) same,
      ap (λ s. link_at s.index 2) same,
      ap (λ s. link_at s.index 0) same,
      ap (λ s. head_at s.index 371) same,
      ap (λ s. link_at s.index 1) same,
    )
