-- A search along a chain of a recipe's places, under way: no place that was passed shows the chunk.
use Prim.Native.Nat.{ℕ, zero, suc, ◌≤◌, ◌<◌}
use native.Mathlib.Omega.{arith}
use native.Mathlib.Decide.{dec_lt}
use mathlib.Core.Path.{◌≡◌, refl, sym, ap, ◌∙◌}
use mathlib.Core.Bool.{true, false, true≢false}
use mathlib.Core.List.{List, [], ◌∷◌}
use lib.ListN.{length, get_or, take}
use lib.Seq.{get_or-take, length-take-le, take_all}
use Rattle.store.specs.Contents.{number}
use Rattle.store.proofs.laws.contents.Sameness.{equal_same, same_other}
use Rattle.marks.specs.Marks.{no_place, of_chain, last_of, firsts, own_chains, own_chain}
use Rattle.marks.specs.internal.Places.{Heads}
use Rattle.marks.proofs.laws.Sizes.{length_firsts}
use Rattle.marks.proofs.laws.Chains.{of_own, Last, nowhere, place, last_from_lem, last_small}

-- the number of a chunk is the first place that shows it, or the count
pub number_at : (fs : List (List ℕ)) (chunk : List ℕ) (r : ℕ) → r ≤ length fs
    → ((q : ℕ) → q < r → get_or fs q [] ≡ chunk → ⊥) → (r < length fs → get_or fs r [] ≡ chunk) → r ≡ number fs chunk
unfolding number
number_at [] chunk r h others is = omega arith
number_at (f ∷ fs) chunk zero h others is = rw (equal_same f chunk (is (omega arith)))
number_at (f ∷ fs) chunk (suc r) h others is =
    rw (same_other f chunk (others 0 (omega arith)))
    (ap suc (number_at fs chunk r (omega arith) (λ q l. others (suc q) (omega arith)) (λ l. is (omega arith))))

-- the chunks that the places show
abbrev pub shown : List ℕ → List ℕ → ℕ → List (List ℕ)
shown job recipe used = firsts job 0 (take used recipe)

-- the place at hand is the last one of the chain before some bound, and no place from the bound on shows the chunk
pub record Finding (job recipe chunk : List ℕ) (used r : ℕ) : Type 0 where
  pub bound : ℕ
  pub within : bound ≤ used
  pub last : r ≡ last_of (own_chain chunk) (take bound (shown job recipe used))
  pub others : (q : ℕ) → bound ≤ q → q < used → get_or (shown job recipe used) q [] ≡ chunk → ⊥

module _ (job recipe : List ℕ) (used : ℕ) (inside : used ≤ length recipe) where
  -- as many as places
  pub shown_length : length (shown job recipe used) ≡ used
  shown_length = length_firsts job 0 (take used recipe) ∙ length-take-le used recipe inside

  -- the search starts at the head of the chunk's chain
  pub finding_starts : (chunk heads : List ℕ) (c : ℕ) → Heads job recipe heads used → c ≡ own_chain chunk → c < own_chains
      → Finding job recipe chunk used (get_or heads c 0)
  finding_starts chunk heads c h e l =
      record {
        bound = used;
        within = omega arith;
        last = h.each c l ∙ rw (e, take_all used (shown job recipe used) (omega (arith, shown_length)));
        others = λ q a b. absurd (omega arith);
      }

  -- and the head fits
  pub head_small : used ≤ no_place → (heads : List ℕ) (c : ℕ) → Heads job recipe heads used → c < own_chains
      → get_or heads c 0 ≤ no_place
  head_small few heads c h l =
      omega (arith, h.each c l, last_small c (shown job recipe used) (omega (arith, shown_length)))

-- what the search may still look at
abbrev pub before : {job recipe chunk : List ℕ} {used r : ℕ} → Finding job recipe chunk used r → List (List ℕ)
before {job} {recipe} {used = used} s = take s.bound (shown job recipe used)

module _ {job recipe chunk : List ℕ} {used r : ℕ} (inside : used ≤ length recipe) (s : Finding job recipe chunk used r) where
  pub before_length : length (before s) ≡ s.bound
  before_length =
      length-take-le s.bound (shown job recipe used)
      (omega (arith, shown_length job recipe used inside, s.within))

module _ {job recipe chunk : List ℕ} {used r : ℕ} (inside : used ≤ length recipe) (some : 1 ≤ length chunk)
    (s : Finding job recipe chunk used r) where
  -- a place before the bound that shows the chunk is of its chain
  pub chain_met : (q : ℕ) → q < s.bound → get_or (shown job recipe used) q [] ≡ chunk
      → of_chain (own_chain chunk) (get_or (before s) q []) ≡ true
  chain_met q l e =
      rw (get_or-take s.bound (shown job recipe used) q [] l, e) (of_own chunk (own_chain chunk) some refl)

  -- no place is left
  pub finding_none : used ≤ r → used ≡ number (shown job recipe used) chunk
  finding_none h = by_last (last_from_lem (own_chain chunk) 0 no_place (before s))
    where
      count : length (shown job recipe used) ≡ used
      count = shown_length job recipe used inside

      all : ((q : ℕ) → q < length (before s) → of_chain (own_chain chunk) (get_or (before s) q []) ≡ false)
          → (q : ℕ) → q < used → get_or (shown job recipe used) q [] ≡ chunk → ⊥
      all none q l e =
          elim (dec_lt q s.bound) [
            | yes b ↦ true≢false (sym (chain_met q b e) ∙ none q (omega (arith, before_length inside s)))
            | no b ↦ s.others q (omega arith) l e
          ]

      by_last : Last (own_chain chunk) 0 no_place (before s) (last_of (own_chain chunk) (before s))
          → used ≡ number (shown job recipe used) chunk
      by_last (nowhere e none) =
          number_at (shown job recipe used) chunk used (omega (arith, count)) (all none) (λ l. absurd (omega (arith, count)))
      by_last (place p e b o none) = absurd (omega (arith, s.last, before_length inside s, s.within))
