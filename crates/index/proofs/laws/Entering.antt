-- Chunks that are entered at the front of their chains leave an index that meets every chunk.
use Prim.Native.Nat.{ℕ, suc, ◌+◌, ◌≤◌, ◌<◌}
use native.Mathlib.Omega.{arith}
use native.Mathlib.Nat.{le_of_eq}
use mathlib.Core.Path.{◌≡◌, refl, ap, sym, ◌∙◌}
use mathlib.Core.Logic.{◌⊎◌, inl, inr, ⊎_elim}
use mathlib.Core.Bool.{Bool, true, false, ◌&&◌}
use mathlib.Core.List.{List, [], ◌∷◌, ◌++◌, append_assoc, append-nil}
use lib.Dec.{eqb, ltb}
use lib.ListN.{length, get_or, set, length-set, length-append, get_or-replicate, get_or-append}
use lib.Seq.{get_or-set_same, get_or-set_other, get_or-append_seam}
use borrow.Author.Tests.{eqb-true, eqb-false, eq-eqb, lt-ltb, le-ltb, ltb-true, ltb-false}
use Rattle.gear.specs.Gear.{chains, chain}
use Rattle.index.specs.Index.{none, head_at, link_at, chain_at, Trail, once, times, fresh_index, enter, enter_all}
use Rattle.index.specs.Along.{belongs}
use Rattle.gear.proofs.laws.Sums.{chain_below}
use Rattle.index.proofs.laws.Accepting.{AllMet, belongs_below, belonging}

-- heads that are all none meet no chunk
pub none_met : (index : List ℕ) → ((c : ℕ) → c < chains → head_at index c ≡ none) → AllMet index []
unfolding belongs
none_met index h c l = ([], h c l, λ n. rw (le-ltb n 0 (omega arith)))

pub fresh_met : (entries : ℕ) → AllMet (fresh_index entries) []
unfolding fresh_index
fresh_met entries = none_met (fresh_index entries) (λ c l. get_or-replicate (chains + entries) c none 0 (omega arith))

module _ (index : List ℕ) (n : ℕ) (c : List ℕ) where
  pub length_enter : length (enter index n c) ≡ length index
  unfolding enter
  length_enter = simp length-set

  module _ (room : chains + n < length index) where
    head_own : head_at (enter index n c) (chain c) ≡ n
    unfolding enter
    head_own =
        get_or-set_same (set index (chains + n) (head_at index (chain c))) (chain c) n 0
        (rw length-set (omega (arith, chain_below c)))

    head_other : (d : ℕ) → d < chains → (d ≡ chain c → ⊥) → head_at (enter index n c) d ≡ head_at index d
    unfolding enter
    head_other d l h =
        get_or-set_other (set index (chains + n) (head_at index (chain c))) (chain c) d n 0 h
        ∙ get_or-set_other index (chains + n) d (head_at index (chain c)) 0 (λ e. omega arith)

    pub link_new : link_at (enter index n c) n ≡ head_at index (chain c)
    unfolding enter
    link_new =
        get_or-set_other (set index (chains + n) (head_at index (chain c))) (chain c) (chains + n) n 0
        (λ e. omega (arith, chain_below c))
        ∙ get_or-set_same index (chains + n) (head_at index (chain c)) 0 room

    pub link_old : (k : ℕ) → (k ≡ n → ⊥) → link_at (enter index n c) k ≡ link_at index k
    unfolding enter
    link_old k h =
        get_or-set_other (set index (chains + n) (head_at index (chain c))) (chain c) (chains + k) n 0
        (λ e. omega (arith, chain_below c))
        ∙ get_or-set_other index (chains + n) (chains + k) (head_at index (chain c)) 0 (λ e. h (omega arith))

    -- a trail without the number stays
    trail_enter : (at : ℕ) (ns : List ℕ) → Trail index at ns → ((k : ℕ) → 0 < times k ns → k < n)
        → Trail (enter index n c) at ns
    trail_enter at [] p q = p
    trail_enter at (m ∷ ns) p q =
        let l : m < n = q m (rw (eq-eqb m m refl) (omega arith)) in (
          p.0,
          p.1,
          rw (link_old m (λ e. omega arith))
              (trail_enter (link_at index m) ns p.2 (λ k h. q k (omega arith))),
        )

-- the added chunk's number belongs to its chain
belongs_added : (held : List (List ℕ)) (c : List ℕ) (d k : ℕ)
    → once (belongs (held ++ (c ∷ [])) d k) ≡ once (eqb (chain c) d && eqb (length held) k) + once (belongs held d k)
unfolding belongs
belongs_added held c d k = step (eqb (length held) k) refl (ltb k (length held)) refl
  where
    longer : length (held ++ (c ∷ [])) ≡ suc (length held)
    longer = length-append held (c ∷ []) ∙ omega arith

    on : (x : Bool) → once x ≡ once (x && true) + 0
    on true = omega arith
    on false = omega arith

    off : (x : Bool) (m : ℕ) → m ≡ once (x && false) + m
    off true m = omega arith
    off false m = omega arith

    step : (t : Bool) → eqb (length held) k ≡ t → (u : Bool) → ltb k (length held) ≡ u
        → once (ltb k (length (held ++ (c ∷ []))) && eqb (chain_at (held ++ (c ∷ [])) k) d)
        ≡ once (eqb (chain c) d && t) + once (u && eqb (chain_at held k) d)
    step true e true l = absurd (omega (arith, eqb-true (length held) k e, ltb-true k (length held) l))
    step true e false l =
        rw (
          longer,
          ← (eqb-true (length held) k e),
          lt-ltb (length held) (suc (length held)) (omega arith),
          get_or-append_seam held c [] [],
        ) (on (eqb (chain c) d))
    step false e true l =
        let b = ltb-true k (length held) l in
        rw (longer, lt-ltb k (suc (length held)) (omega arith), get_or-append held (c ∷ []) [] k b)
        (off (eqb (chain c) d) (once (eqb (chain_at held k) d)))
    step false e false l =
        rw (
          longer,
          le-ltb k (suc (length held)) (omega (arith, ltb-false k (length held) l, eqb-false (length held) k e)),
        )
        (off (eqb (chain c) d) 0)

-- "enters each new piece at the front of its chain"
pub enter_met : (index : List ℕ) (held : List (List ℕ)) (c : List ℕ) → chains + length held < length index
    → length held < none → AllMet index held → AllMet (enter index (length held) c) (held ++ (c ∷ []))
enter_met index held c room few met d l = step (eqb (chain c) d) refl
  where
    n : ℕ
    n = length held

    ns : List ℕ
    ns = (met d l).0

    below : (k : ℕ) → 0 < times k ns → k < n
    below k h = (belongs_below held d k (belonging held d ns (λ j. le_of_eq ((met d l).2 j)) k h)).0

    kept : Trail (enter index n c) (head_at index d) ns
    kept = trail_enter index n c room (head_at index d) ns (met d l).1 below

    step : (t : Bool) → eqb (chain c) d ≡ t
        → (ms : List ℕ) × Trail (enter index n c) (head_at (enter index n c) d) ms
        × ((k : ℕ) → times k ms ≡ once (belongs (held ++ (c ∷ [])) d k))
    step true e =
        let own = eqb-true (chain c) d e in (
          n ∷ ns,
          (rw (← own) (head_own index n c room), (λ z. omega arith), rw (link_new index n c room, own) kept),
          λ k. rw (belongs_added held c d k, e, (met d l).2 k),
        )
    step false e = (
      ns,
      rw (head_other index n c room d l (λ z. eqb-false (chain c) d e (sym z))) kept,
      λ k. rw (belongs_added held c d k, e) ((met d l).2 k ∙ omega arith),
    )

-- a number that is set at the front of a chunk's chain is entered
pub entered_at : (index : List ℕ) (n d : ℕ) (c : List ℕ) → d ≡ chain c
    → set (set index (chains + n) (head_at index d)) d n ≡ enter index n c
unfolding enter
entered_at index n d c e = rw e

-- chunks that are entered in their order
pub enter_all_length : (index : List ℕ) (n : ℕ) (cs : List (List ℕ)) → length (enter_all index n cs) ≡ length index
unfolding enter_all
enter_all_length index n [] = refl
enter_all_length index n (c ∷ cs) = enter_all_length (enter index n c) (suc n) cs ∙ length_enter index n c

-- are met
pub enter_all_met : (index : List ℕ) (held cs : List (List ℕ)) → chains + (length held + length cs) ≤ length index
    → length held + length cs ≤ none → AllMet index held → AllMet (enter_all index (length held) cs) (held ++ cs)
unfolding enter_all
enter_all_met index held [] room few met = rw (append-nil held) met
enter_all_met index held (c ∷ cs) room few met =
    let longer : length (held ++ (c ∷ [])) ≡ suc (length held) = length-append held (c ∷ []) ∙ omega arith in
    let first = enter_met index held c (omega arith) (omega arith) met in
    let rest = enter_all_met (enter index (length held) c) (held ++ (c ∷ [])) cs
    (rw (length_enter index (length held) c) (omega arith)) (omega arith) first in
    rw (longer, append_assoc held (c ∷ []) cs) at rest

-- entered one list after the other
pub enter_all_append : (index : List ℕ) (n : ℕ) (cs ds : List (List ℕ))
    → enter_all index n (cs ++ ds) ≡ enter_all (enter_all index n cs) (n + length cs) ds
unfolding enter_all
enter_all_append index n [] ds = ap (λ m. enter_all index m ds) (omega arith)
enter_all_append index n (c ∷ cs) ds =
    enter_all_append (enter index n c) (suc n) cs ds
    ∙ ap (λ m. enter_all (enter_all (enter index n c) (suc n) cs) m ds) (omega arith)

-- one more chunk
pub enter_all_last : (index : List ℕ) (n : ℕ) (cs : List (List ℕ)) (c : List ℕ)
    → enter_all index n (cs ++ (c ∷ [])) ≡ enter (enter_all index n cs) (n + length cs) c
unfolding enter_all
enter_all_last index n cs c = enter_all_append index n cs (c ∷ [])

-- of the links only those of the entered numbers change
enter_kept : (index : List ℕ) (n : ℕ) (c : List ℕ) (i : ℕ) → chains ≤ i → (i ≡ chains + n → ⊥)
    → get_or (enter index n c) i 0 ≡ get_or index i 0
unfolding enter
enter_kept index n c i l other =
    get_or-set_other (set index (chains + n) (head_at index (chain c))) (chain c) i n 0
    (λ e. omega (arith, chain_below c))
    ∙ get_or-set_other index (chains + n) i (head_at index (chain c)) 0 other

pub enter_all_kept : (index : List ℕ) (n : ℕ) (cs : List (List ℕ)) (i : ℕ) → chains ≤ i
    → (i < chains + n) ⊎ (chains + n + length cs ≤ i) → get_or (enter_all index n cs) i 0 ≡ get_or index i 0
unfolding enter_all
enter_all_kept index n [] i l outside = refl
enter_all_kept index n (c ∷ cs) i l outside =
    enter_all_kept (enter index n c) (suc n) cs i l
    (⊎_elim (λ b. inl (omega arith)) (λ b. inr (omega arith)) outside)
    ∙ enter_kept index n c i l (λ e. ⊎_elim (λ b. omega arith) (λ b. omega arith) outside)
