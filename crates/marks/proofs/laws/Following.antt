-- A search along a chain at a place: what the place shows, and where the search goes on.
use Prim.Native.Nat.{ℕ, suc, ◌+◌, ◌-◌, ◌≤◌, ◌<◌}
use native.Mathlib.Omega.{arith}
use native.Mathlib.Nat.{zero-add}
use native.Mathlib.Decide.{dec_lt}
use mathlib.Core.Path.{◌≡◌, refl, sym, ap, ◌∙◌}
use mathlib.Core.Bool.{Bool, true, false, cond, true≢false}
use mathlib.Core.List.{List, []}
use lib.Dec.{ltb}
use lib.ListN.{length, get_or, take, drop, length-drop}
use lib.Seq.{get_or-take, length-take-le}
use borrow.Author.Tests.{lt-ltb, ltb-true}
use Rattle.store.specs.Contents.{same, number}
use Rattle.store.proofs.laws.contents.Sameness.{same_equal, equal_same}
use Rattle.marks.specs.Marks.{code_of, size_of, first_base, no_place, of_chain, last_of, sizes, first_at, own_chain}
use Rattle.marks.specs.internal.Places.{Linked}
use Rattle.marks.proofs.laws.Sizes.{sizes_more, sizes_fewer, first_none, first_some, get_d_shown}
use Rattle.marks.proofs.laws.Chains.{of_chain_lem, Last, nowhere, place, last_from_lem}
use Rattle.marks.proofs.laws.Finding.{number_at, shown, Finding, shown_length, before, chain_met, before_length}

module _ {job recipe chunk : List ℕ} {used r : ℕ} (inside : used ≤ length recipe) (some : 1 ≤ length chunk)
    (linked : Linked job recipe used) (s : Finding job recipe chunk used r) (more : r < used) where
  -- the mark of the place, and where its chunk starts
  abbrev here : ℕ
  here = get_or recipe r 0

  abbrev from : ℕ
  from = sizes (take r recipe)

  -- the place is before the bound, shows a chunk of the chain, and is the last that does
  record Candidate : Type 0 where
    below : r < s.bound
    met : of_chain (own_chain chunk) (get_or (shown job recipe used) r []) ≡ true
    rest : (q : ℕ) → r < q → q < used → get_or (shown job recipe used) q [] ≡ chunk → ⊥

  candidate : Candidate
  candidate = by_last (last_from_lem (own_chain chunk) 0 no_place (before s))
    where
      at_place : (p : ℕ) → r ≡ p → p < s.bound → of_chain (own_chain chunk) (get_or (before s) p []) ≡ true
          → ((q : ℕ) → p < q → q < length (before s) → of_chain (own_chain chunk) (get_or (before s) q []) ≡ false) → Candidate
      at_place p e b o none =
          record {
            below = omega arith;
            met = rw e (rw (get_or-take s.bound (shown job recipe used) p [] b) at o);
            rest = λ q l u h. elim (dec_lt q s.bound) [
              | yes k ↦ let inner : q < length (before s) = omega (arith, before_length inside s) in
                  true≢false (sym (chain_met inside some s q k h) ∙ none q (omega arith) inner)
              | no k ↦ s.others q (omega arith) u h
            ];
          }

      by_last : Last (own_chain chunk) 0 no_place (before s) (last_of (own_chain chunk) (before s)) → Candidate
      by_last (nowhere e none) = absurd (omega (arith, s.last, linked.few))
      by_last (place p e b o none) =
          at_place p (s.last ∙ e ∙ zero-add p) (omega (arith, before_length inside s)) o none

  -- what the place shows
  here_shown : get_or (shown job recipe used) r [] ≡ first_at job from here
  here_shown = get_d_shown job recipe used r inside more

  -- its mark says a first appearance
  pub says_first : first_base ≤ code_of here
  says_first =
      elim (dec_lt (code_of here) first_base) [
        | yes l ↦ let none = ap length (here_shown ∙ first_none job from here l) in
            absurd (omega (arith, (of_chain_lem _ _ candidate.met).0, none))
        | no l ↦ omega arith
      ]

  shows : get_or (shown job recipe used) r [] ≡ take (size_of here) (drop from job)
  shows = here_shown ∙ first_some job from here says_first

  -- of a chunk that lies in the job
  pub finding_inside : from + size_of here ≤ length job
  finding_inside =
      let next = sizes_more recipe r (omega arith) in
      omega (arith, next, sizes_fewer recipe (r + 1) used (omega arith), linked.inside)

  shows_length : length (get_or (shown job recipe used) r []) ≡ size_of here
  shows_length =
      let left = length-drop from job in
      ap length shows ∙ length-take-le (size_of here) (drop from job) (omega (arith, finding_inside))

  -- of another length
  pub other_size : (size_of here ≡ length chunk → ⊥) → get_or (shown job recipe used) r [] ≡ chunk → ⊥
  other_size other e = other (sym shows_length ∙ ap length e)

  module _ (size : size_of here ≡ length chunk) where
    -- other bytes
    pub other_bytes : same (take (length chunk) (drop from job)) chunk ≡ false
        → get_or (shown job recipe used) r [] ≡ chunk → ⊥
    other_bytes other e =
        let is : take (length chunk) (drop from job) ≡ chunk = rw (← size) (sym shows ∙ e) in
        true≢false (sym (equal_same _ _ is) ∙ other)

    -- the chunk: no other place shows it
    pub finding_here : same (take (length chunk) (drop from job)) chunk ≡ true
        → r ≡ number (shown job recipe used) chunk
    finding_here e =
        let is : get_or (shown job recipe used) r [] ≡ chunk = shows ∙ rw size (same_equal _ _ e) in
        let count = shown_length job recipe used inside in
        number_at (shown job recipe used) chunk r (omega (arith, count))
        (λ q l k. linked.distinct q r l more says_first (k ∙ sym is)) (λ _. is)

  -- the search goes on at the place that the mark names
  pub finding_on : (get_or (shown job recipe used) r [] ≡ chunk → ⊥) → Finding job recipe chunk used (code_of here - first_base)
  finding_on other =
      let own = (of_chain_lem _ _ candidate.met).1 in
      let link = linked.links r more says_first in
      record {
        bound = r;
        within = omega arith;
        last = omega (arith, rw own at link);
        others = λ q a u e. elim (dec_lt r q) [
          | yes l ↦ candidate.rest q l u e
          | no l ↦ let same : r ≡ q = omega arith in
              other (ap (λ k. get_or (shown job recipe used) k []) same ∙ e)
        ];
      }

-- what is left of a search
abbrev pub left : ℕ → ℕ → ℕ
left used r = cond (ltb r used) (suc r) 0

-- it falls
pub finding_less : {job recipe chunk : List ℕ} {used r : ℕ} (inside : used ≤ length recipe) (some : 1 ≤ length chunk)
    (linked : Linked job recipe used) (s : Finding job recipe chunk used r) (more : r < used)
    → (get_or (shown job recipe used) r [] ≡ chunk → ⊥) → left used (code_of (get_or recipe r 0) - first_base) < left used r
unfolding finding_on
finding_less {job} {recipe} {chunk} {used} {r} inside some linked s more other =
    rw (lt-ltb r used more) (by_test (ltb (code_of (get_or recipe r 0) - first_base) used) refl)
  where
    by_test : (t : Bool) → ltb (code_of (get_or recipe r 0) - first_base) used ≡ t
        → cond t (suc (code_of (get_or recipe r 0) - first_base)) 0 < suc r
    by_test true e =
        let on = finding_on inside some linked s more other in
        let below : code_of (get_or recipe r 0) - first_base < r = (candidate inside some linked on (ltb-true _ _ e)).below in
        omega arith
    by_test false e = omega arith
