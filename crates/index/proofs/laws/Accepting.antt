-- The test accepts exactly the indexes whose chains meet every chunk just once.
use Prim.Native.Nat.{ℕ, zero, suc, ◌+◌, ◌≤◌, ◌<◌}
use native.Mathlib.Omega.{arith}
use native.Mathlib.Nat.{le_of_eq}
use mathlib.Core.Path.{◌≡◌, refl, ap, sym, ◌∙◌, fun_ext}
use mathlib.Core.Bool.{Bool, true, false, and-eq-true_iff}
use mathlib.Core.List.{List, []}
use lib.Dec.{eqb, ltb}
use lib.ListN.{length, get_or}
use borrow.Author.Tests.{eqb-true, eqb-false, eq-eqb, lt-ltb, le-ltb, ltb-true}
use Rattle.gear.specs.Gear.{chains}
use Rattle.index.specs.Index.{head_at, chain_at, Trail, once, times}
use Rattle.index.specs.Along.{belongs, along_all}
use Rattle.index.specs.Grounds.{meets}
use Rattle.gear.proofs.laws.Sums.{chain_below}
use Rattle.index.proofs.laws.Counting.{sum_to, sum_le, sum_tight, sum_add, sum_ones, length_times}
use Rattle.index.proofs.laws.Counting.{once_suc, once_le, once_pos}
use Rattle.index.proofs.laws.Trails.{Belong, trail_belong, along_trail, trail_along}

-- how many of the chunks are of a chain, and of the chains below it
abbrev pub due : List (List ℕ) → ℕ → ℕ
due held c = sum_to (λ k. once (eqb (chain_at held k) c)) (length held)

abbrev dues : List (List ℕ) → ℕ → ℕ
dues held c = sum_to (λ k. once (ltb (chain_at held k) c)) (length held)

-- a chain that is met: each of its numbers once, and no other
abbrev pub Met : List ℕ → List (List ℕ) → ℕ → Type 0
Met index held c =
    (ns : List ℕ) × Trail index (head_at index c) ns × ((n : ℕ) → times n ns ≡ once (belongs held c n))

-- every chain is met
abbrev pub AllMet : List ℕ → List (List ℕ) → Type 0
AllMet index held = (c : ℕ) → c < chains → Met index held c

module _ (held : List (List ℕ)) where
  pub belongs_below : (c k : ℕ) → belongs held c k ≡ true → (k < length held) × (chain_at held k ≡ c)
  unfolding belongs
  belongs_below c k h =
      let t = (and-eq-true_iff (ltb k (length held)) (eqb (chain_at held k) c)).0 h in
      (ltb-true k (length held) t.0, eqb-true (chain_at held k) c t.1)

  pub below_belongs : (c k : ℕ) → k < length held → belongs held c k ≡ eqb (chain_at held k) c
  unfolding belongs
  below_belongs c k l = rw (lt-ltb k (length held) l)

  dues_none : dues held 0 ≡ 0
  dues_none = omega (
    arith,
    sum_le (λ k. once (ltb (chain_at held k) 0)) (λ k. 0) (length held)
        (λ k l. rw (le-ltb (chain_at held k) 0 (omega arith)) (omega arith)),
    none_there (length held),
  )
    where
      none_there : (n : ℕ) → sum_to (λ k. 0) n ≡ 0
      none_there zero = refl
      none_there (suc n) = omega (arith, none_there n)

  dues_suc : (c : ℕ) → dues held (suc c) ≡ dues held c + due held c
  dues_suc c =
      ap (λ f. sum_to f (length held)) (fun_ext (λ k. once_suc (chain_at held k) c))
      ∙ sum_add (λ k. once (ltb (chain_at held k) c)) (λ k. once (eqb (chain_at held k) c)) (length held)

  dues_le : (c : ℕ) → dues held c ≤ length held
  dues_le c = omega (
    arith,
    sum_le (λ k. once (ltb (chain_at held k) c)) (λ k. 1) (length held)
        (λ k l. once_le (ltb (chain_at held k) c)),
    sum_ones (length held),
  )

  pub due_le : (c : ℕ) → due held c ≤ length held
  due_le c = omega (
    arith,
    sum_le (λ k. once (eqb (chain_at held k) c)) (λ k. 1) (length held)
        (λ k l. once_le (eqb (chain_at held k) c)),
    sum_ones (length held),
  )

  dues_all : dues held chains ≡ length held
  dues_all =
      ap (λ f. sum_to f (length held)) (fun_ext (λ k. ap once (lt-ltb _ chains (chain_below (get_or held k [])))))
      ∙ sum_ones (length held)

  module _ (c : ℕ) (ns : List ℕ) where
    -- numbers that stand at most once each, and only where they belong
    module _ (h : (n : ℕ) → times n ns ≤ once (belongs held c n)) where
      pub belonging : Belong held c ns
      belonging n l = once_pos (belongs held c n) (omega (arith, h n))

      by_times : length ns ≡ sum_to (λ k. times k ns) (length held)
      by_times = length_times (length held) ns (λ k l. (belongs_below c k (belonging k l)).0)

      at_most : (k : ℕ) → k < length held → times k ns ≤ once (eqb (chain_at held k) c)
      at_most k l = rw (ap once (below_belongs c k l)) at (h k)

      -- are at most the due ones
      pub length_due : length ns ≤ due held c
      length_due =
          omega (arith, by_times, sum_le (λ k. times k ns) (λ k. once (eqb (chain_at held k) c)) (length held) at_most)

      due_length : ((n : ℕ) → times n ns ≡ once (belongs held c n)) → due held c ≤ length ns
      due_length e =
          omega (
            arith,
            by_times,
            sum_le (λ k. once (eqb (chain_at held k) c)) (λ k. times k ns) (length held)
                (λ k l. le_of_eq (sym (e k ∙ ap once (below_belongs c k l)))),
          )

      -- and just these, if they are as many
      times_due : due held c ≤ length ns → (n : ℕ) → times n ns ≡ once (belongs held c n)
      times_due l n = step (belongs held c n) refl
        where
          step : (t : Bool) → belongs held c n ≡ t → times n ns ≡ once t
          step false e = omega (arith, rw e at (h n))
          step true e =
              let b = belongs_below c n e in
              sum_tight (λ k. times k ns) (λ k. once (eqb (chain_at held k) c)) (length held) at_most
              (omega (arith, by_times)) n b.0 ∙ ap once (eq-eqb (chain_at held n) c b.1)

  module _ (index : List ℕ) where
    -- along the chains below c, at most the due numbers are met; and where they are as many, each is met
    abbrev MetSoFar : ℕ → ℕ → Type 0
    MetSoFar c left =
        (suc (length held) ≤ suc left + dues held c)
        × (suc left + dues held c ≤ suc (length held) → (d : ℕ) → d < c → Met index held d)

    met_next : (c left : ℕ) (ns : List ℕ) → Trail index (head_at index c) ns → Belong held c ns
        → MetSoFar c (left + length ns) → MetSoFar (suc c) left
    met_next c left ns p q ih =
        (omega (arith, dues_suc c, length_due c ns few), λ l d m. step d m (eqb d c) refl l)
      where
        few : (n : ℕ) → times n ns ≤ once (belongs held c n)
        few = trail_belong index held c (head_at index c) ns p q

        step : (d : ℕ) → d < suc c → (t : Bool) → eqb d c ≡ t → suc left + dues held (suc c) ≤ suc (length held)
            → Met index held d
        step d m true e l =
            rw (eqb-true d c e) (ns, p, times_due c ns few (omega (arith, dues_suc c, length_due c ns few)))
        step d m false e l =
            ih.1 (omega (arith, dues_suc c, length_due c ns few)) d (omega (arith, eqb-false d c e))

    met_so_far : (c left : ℕ) → along_all index held c ≡ suc left → MetSoFar c left
    unfolding along_all
    met_so_far zero left h = (omega arith, (λ l d m. absurd (omega arith)))
    met_so_far (suc c) left h =
        let (ns, p, q, e) = along_trail index held c (along_all index held c) left (head_at index c) h in
        met_next c left ns p q (met_so_far c (left + length ns) (omega arith))

    pub meets_met : meets index held ≡ true → AllMet index held
    unfolding meets
    meets_met h =
        (met_so_far chains 0 (eqb-true (along_all index held chains) 1 h)).1 (omega (arith, dues_all))

    -- and along such an index each chain is gone to its end
    full_so_far : AllMet index held → (c : ℕ) → c ≤ chains → along_all index held c + dues held c ≡ suc (length held)
    unfolding along_all
    full_so_far m zero l = omega (arith, dues_none)
    full_so_far m (suc c) l =
        let (ns, p, q) = m c l in
        let few : (n : ℕ) → times n ns ≤ once (belongs held c n) = λ n. le_of_eq (q n) in
        let most = length_due c ns few in
        let least = due_length c ns few q in
        let before = full_so_far m c (omega arith) in
        let room : length ns < along_all index held c = omega (arith, dues_suc c, dues_le (suc c)) in
        omega (arith, dues_suc c, trail_along index held c (along_all index held c) (head_at index c) ns p (belonging c ns few) room)

    pub met_meets : AllMet index held → meets index held ≡ true
    unfolding meets
    met_meets m = eq-eqb (along_all index held chains) 1 (omega (arith, full_so_far m chains (omega arith), dues_all))
