-- The search by an index that meets every chunk gives the number that the plain search gives.
use Prim.Native.Nat.{ℕ, zero, suc, ◌+◌, ◌≤◌, ◌<◌, min}
use native.Mathlib.Omega.{arith}
use native.Mathlib.Nat.{le_of_eq}
use mathlib.Core.Path.{◌≡◌, refl, ap, ◌∙◌}
use mathlib.Core.Bool.{Bool, true, false, cond}
use mathlib.Core.List.{List, [], ◌∷◌}
use lib.Dec.{eqb, ltb}
use lib.ListN.{length, get_or}
use borrow.Author.Tests.{eqb-true, eq-eqb, lt-ltb, ltb-true}
use Rattle.store.specs.Contents.{same, number, has}
use Rattle.gear.specs.Gear.{chain}
use Rattle.index.specs.Index.{head_at, link_at, chain_at, Trail, once, times}
use Rattle.index.specs.Along.{belongs, seek, number_found}
use Rattle.gear.proofs.laws.Sums.{chain_below}
use Rattle.store.proofs.laws.contents.Sameness.{equal_same}
use Rattle.store.proofs.laws.contents.Numbering.{number_below, number_next, chunk_at_number}
use Rattle.index.proofs.laws.Counting.{times_first}
use Rattle.index.proofs.laws.Accepting.{AllMet, belongs_below, below_belongs, belonging, length_due, due_le}

-- a chunk's number is the lowest at which it stands
pub number_least : (held : List (List ℕ)) (c : List ℕ) (k : ℕ) → k < length held → same (get_or held k []) c ≡ true
    → number held c ≤ k
unfolding number
number_least [] c k l h = absurd (omega arith)
number_least (d ∷ ds) c zero l h = rw h (omega arith)
number_least (d ∷ ds) c (suc k) l h = step (same d c) (number_least ds c k (omega arith) h)
  where
    step : (t : Bool) → number ds c ≤ k → cond t 0 (suc (number ds c)) ≤ suc k
    step true ih = omega arith
    step false ih = omega arith

module _ (index : List ℕ) (held : List (List ℕ)) (c : List ℕ) where
  -- what the search keeps after a number
  abbrev kept : ℕ → ℕ → ℕ
  kept at best = cond (same (get_or held at []) c) (min best at) best

  kept_le : (at best : ℕ) → kept at best ≤ best
  kept_le at best = elim (same (get_or held at []) c) as (λ t. cond t (min best at) best ≤ best) [
    | true ↦ omega arith
    | false ↦ omega arith
  ]

  -- it never passes below the number, whatever the index holds
  seek_low : (b at best : ℕ) → number held c ≤ best → number held c ≤ seek index held c b at best
  unfolding seek
  seek_low zero at best h = h
  seek_low (suc b) at best h =
      step (ltb at (length held)) refl (same (get_or held at []) c) refl (seek_low b (link_at index at))
    where
      step : (t : Bool) → ltb at (length held) ≡ t → (u : Bool) → same (get_or held at []) c ≡ u
          → ((new : ℕ) → number held c ≤ new → number held c ≤ seek index held c b (link_at index at) new)
          → number held c ≤ cond t (seek index held c b (link_at index at) (cond u (min best at) best)) best
      step false e u f ih = h
      step true e false f ih = ih best h
      step true e true f ih =
          ih (min best at) (omega (arith, number_least held c at (ltb-true at (length held) e) f))

  -- and never rises
  seek_high : (b at best : ℕ) → seek index held c b at best ≤ best
  unfolding seek
  seek_high zero at best = omega arith
  seek_high (suc b) at best = step (ltb at (length held)) (seek_high b (link_at index at) (kept at best))
    where
      step : (t : Bool) → seek index held c b (link_at index at) (kept at best) ≤ kept at best
          → cond t (seek index held c b (link_at index at) (kept at best)) best ≤ best
      step true ih = omega (arith, kept_le at best)
      step false ih = omega arith

  -- on a trail it comes down to each number of the chunk
  seek_met : (b at best : ℕ) (ns : List ℕ) → Trail index at ns → ((n : ℕ) → 0 < times n ns → n < length held)
      → length ns ≤ b → (m : ℕ) → 0 < times m ns → same (get_or held m []) c ≡ true → seek index held c b at best ≤ m
  unfolding seek
  seek_met b at best [] p q l m h s = absurd (omega arith)
  seek_met zero at best (n ∷ ns) p q l m h s = absurd (omega arith)
  seek_met (suc b) at best (n ∷ ns) p q l m h s =
      rw (p.0, lt-ltb n (length held) (q n (times_first n ns)))
      (step (eqb n m) refl h
      (λ k. seek_met b (link_at index n) (kept n best) ns p.2 (λ j i. q j (omega arith)) (omega arith) m k s))
    where
      step : (t : Bool) → eqb n m ≡ t → 0 < once t + times m ns
          → (0 < times m ns → seek index held c b (link_at index n) (kept n best) ≤ m)
          → seek index held c b (link_at index n) (kept n best) ≤ m
      step true e h ih =
          let k : kept n best ≤ m = rw (eqb-true n m e, s) (omega arith) in
          omega (arith, seek_high b (link_at index n) (kept n best))
      step false e h ih = ih (omega arith)

  -- "search by any accepted index gives the plain search's answer, the lowest number or none"
  pub search_number : AllMet index held → number_found index held c ≡ number held c
  unfolding number_found
  search_number all = step (has held c) refl
    where
      n : ℕ
      n = length held

      step : (t : Bool) → has held c ≡ t → seek index held c n (head_at index (chain c)) n ≡ number held c
      step false h =
          let e = number_next held c h in
          omega (arith, seek_high n (head_at index (chain c)) n, seek_low n (head_at index (chain c)) n (omega arith))
      step true h =
          let (ns, p, q) = all (chain c) (chain_below c) in
          let few : (k : ℕ) → times k ns ≤ once (belongs held (chain c) k) = λ k. le_of_eq (q k) in
          let m = number held c in
          let l = number_below held c h in
          let here = chunk_at_number held c h in
          let met : times m ns ≡ 1 =
          q m ∙ ap once (below_belongs held (chain c) m l ∙ eq-eqb (chain_at held m) (chain c) (ap chain here)) in
          let short = length_due held (chain c) ns few in
          let below : (k : ℕ) → 0 < times k ns → k < n =
          λ k i. (belongs_below held (chain c) k (belonging held (chain c) ns few k i)).0 in
          omega (
            arith,
            seek_low n (head_at index (chain c)) n (omega arith),
            seek_met n (head_at index (chain c)) n ns p below (omega (arith, due_le held (chain c))) m (omega arith)
                (equal_same (get_or held m []) c here),
          )
