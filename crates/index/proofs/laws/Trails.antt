-- Trails: from one place there is one, and no number stands on it twice; and the steps along a chain.
use Prim.Native.Nat.{ℕ, zero, suc, ◌+◌, ◌-◌, ◌≤◌, ◌<◌}
use native.Mathlib.Omega.{arith}
use mathlib.Core.Path.{◌≡◌, refl, ap, sym, ◌∙◌}
use mathlib.Core.Bool.{Bool, true, false, cond, true≢false}
use mathlib.Core.List.{List, [], ◌∷◌}
use lib.Dec.{eqb}
use lib.ListN.{length}
use borrow.Author.Tests.{eqb-true, eqb-false, eq-eqb, ne_eqb}
use Rattle.index.specs.Index.{none, link_at, Trail, once, times}
use Rattle.index.specs.Along.{belongs, along}
use Rattle.index.proofs.laws.Counting.{times_first}

-- the numbers of a list are those of chunks of the chain
abbrev pub Belong : List (List ℕ) → ℕ → List ℕ → Type 0
Belong held c ns = (n : ℕ) → 0 < times n ns → belongs held c n ≡ true

module _ (index : List ℕ) where
  -- the links leave no choice
  trail_length : (at : ℕ) (ms ns : List ℕ) → Trail index at ms → Trail index at ns → length ms ≡ length ns
  trail_length at [] [] p q = refl
  trail_length at [] (n ∷ ns) p q = absurd (q.1 (sym q.0 ∙ p))
  trail_length at (m ∷ ms) [] p q = absurd (p.1 (sym p.0 ∙ q))
  trail_length at (m ∷ ms) (n ∷ ns) p q =
      ap suc (trail_length (link_at index m) ms ns p.2 (rw (sym q.0 ∙ p.0) at q.2))

  -- from a number that stands on a trail on, the rest is a trail, and no longer
  trail_rest : (at : ℕ) (ns : List ℕ) → Trail index at ns → (n : ℕ) → 0 < times n ns
      → (ms : List ℕ) × Trail index n ms × (length ms ≤ length ns)
  trail_rest at [] p n h = absurd (omega arith)
  trail_rest at (m ∷ ns) p n h = step (eqb m n) refl h (trail_rest (link_at index m) ns p.2 n)
    where
      step : (t : Bool) → eqb m n ≡ t → 0 < once t + times n ns
          → (0 < times n ns → (ms : List ℕ) × Trail index n ms × (length ms ≤ length ns))
          → (ms : List ℕ) × Trail index n ms × (length ms ≤ suc (length ns))
      step true e h ih = (m ∷ ns, (sym (eqb-true m n e), p.1, p.2), omega arith)
      step false e h ih = let (ms, q, l) = ih (omega arith) in (ms, q, omega arith)

  -- so a number stands on a trail at most once: a ring never ends
  pub trail_once : (at : ℕ) (ns : List ℕ) → Trail index at ns → (n : ℕ) → times n ns ≤ 1
  trail_once at [] p n = omega arith
  trail_once at (m ∷ ns) p n = step (eqb m n) refl (trail_once (link_at index m) ns p.2 n)
    where
      step : (t : Bool) → eqb m n ≡ t → times n ns ≤ 1 → once t + times n ns ≤ 1
      step false e ih = omega arith
      step true e ih = again (times n ns) refl
        where
          again : (k : ℕ) → times n ns ≡ k → 1 + k ≤ 1
          again zero z = omega arith
          again (suc k) z =
              let (ms, q, l) = trail_rest (link_at index m) ns p.2 n (omega arith) in
              absurd (omega (arith, trail_length n ms (m ∷ ns) q (sym (eqb-true m n e), p.1, p.2)))

  module _ (held : List (List ℕ)) (c : ℕ) where
    belong_first : (m : ℕ) (ns : List ℕ) → belongs held c m ≡ true → Belong held c ns → Belong held c (m ∷ ns)
    belong_first m ns f h n = step (eqb m n) refl
      where
        step : (t : Bool) → eqb m n ≡ t → 0 < once t + times n ns → belongs held c n ≡ true
        step true e l = rw (← (eqb-true m n e)) f
        step false e l = h n (omega arith)

    -- such numbers stand on a trail at most once, and no others do
    pub trail_belong : (at : ℕ) (ns : List ℕ) → Trail index at ns → Belong held c ns → (n : ℕ) → times n ns ≤ once (belongs held c n)
    trail_belong at ns p q n = step (belongs held c n) refl (times n ns) refl
      where
        step : (t : Bool) → belongs held c n ≡ t → (k : ℕ) → times n ns ≡ k → k ≤ once t
        step true f k e = omega (arith, trail_once at ns p n)
        step false f zero e = omega arith
        step false f (suc k) e = absurd (true≢false (sym (q n (omega arith)) ∙ f))

    -- steps that are not refused have gone along a trail
    pub along_trail : (b left at : ℕ) → along index held c b at ≡ suc left
        → (ns : List ℕ) × Trail index at ns × Belong held c ns × (b ≡ suc left + length ns)
    unfolding along
    along_trail zero left at h = absurd (omega arith)
    along_trail (suc b) left at h =
        step (eqb at none) refl (belongs held c at) refl h (along_trail b left (link_at index at))
      where
        step : (t : Bool) → eqb at none ≡ t → (u : Bool) → belongs held c at ≡ u
            → cond t (suc b) (cond u (along index held c b (link_at index at)) 0) ≡ suc left
            → (along index held c b (link_at index at) ≡ suc left
            → (ns : List ℕ) × Trail index (link_at index at) ns × Belong held c ns × (b ≡ suc left + length ns))
            → (ns : List ℕ) × Trail index at ns × Belong held c ns × (suc b ≡ suc left + length ns)
        step true e u f h ih = ([], eqb-true at none e, (λ n l. absurd (omega arith)), omega arith)
        step false e false f h ih = absurd (omega arith)
        step false e true f h ih =
            let (ns, p, q, l) = ih h in
            (at ∷ ns, (refl, eqb-false at none e, p), belong_first at ns f q, omega arith)

    -- and a trail is gone along to its end where the budget is more than its length
    pub trail_along : (b at : ℕ) (ns : List ℕ) → Trail index at ns → Belong held c ns → length ns < b
        → along index held c b at ≡ b - length ns
    unfolding along
    trail_along zero at ns p q l = absurd (omega arith)
    trail_along (suc b) at [] p q l = rw (eq-eqb at none p) (omega arith)
    trail_along (suc b) at (n ∷ ns) p q l =
        rw (p.0, ne_eqb n none p.1, q n (times_first n ns))
        (omega (arith, trail_along b (link_at index n) ns p.2 (λ k h. q k (omega arith)) (omega arith)))
