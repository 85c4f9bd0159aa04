-- The pass in order accepts only indexes that meet every chunk, and each that is built by entering chunks in order.
use Prim.Native.Nat.{ℕ, zero, suc, ◌+◌, ◌≤◌, ◌<◌}
use native.Mathlib.Omega.{arith}
use native.Mathlib.Nat.{zero-add}
use mathlib.Core.Path.{◌≡◌, refl, ap, sym, ◌∙◌}
use mathlib.Core.Bool.{true, and-eq-true_iff}
use mathlib.Core.List.{List, [], ◌∷◌, ◌++◌, map, append_assoc, append-nil}
use lib.Dec.{eqb}
use lib.ListN.{length, get_or, set, take, drop, replicate, length-set, length-append, length-drop, length-replicate, length-map}
use lib.ListN.{get_or-replicate, get_or-append, take-append-drop, replicate-append-replicate}
use lib.Seq.{set-get_or, set-append_left, take_at, take-set-lt, take-set-le, get_or-take, get_or-drop, get_or-append-add}
use borrow.Author.Tests.{eqb-true, eq-eqb, ne_eqb}
use Rattle.gear.specs.Gear.{chains, chain}
use Rattle.gear.proofs.laws.Sums.{chain_below}
use Rattle.store.proofs.laws.contents.Sameness.{same_equal, equal_same}
use Rattle.index.specs.Index.{none, head_at, link_at, fresh_index, enter, enter_all}
use Rattle.index.specs.Ordered.{no_number, as_link, passes, ordered}
use Rattle.index.proofs.laws.Accepting.{AllMet}
use Rattle.index.proofs.laws.Entering.{none_met, enter_met, link_new, link_old, length_enter}

-- a number as the index has it
pub number_link : (n : ℕ) → n < no_number → as_link n ≡ n
unfolding as_link
number_link n l = rw (ne_eqb n no_number (λ e. omega arith))

-- no number as the index has it
pub no_number_link : as_link no_number ≡ none
unfolding as_link
no_number_link = refl

-- heads as the index has them
pub links_at : (heads : List ℕ) (i : ℕ) → i < length heads → get_or (map as_link heads) i 0 ≡ as_link (get_or heads i 0)
links_at (h ∷ heads) zero l = refl
links_at (h ∷ heads) (suc i) l = links_at heads i (omega arith)
links_at [] i l = absurd (omega arith)

links_set : (heads : List ℕ) (i n : ℕ) → n < no_number → map as_link (set heads i n) ≡ set (map as_link heads) i n
links_set [] i n l = refl
links_set (h ∷ heads) zero n l = ap (λ k. k ∷ map as_link heads) (number_link n l)
links_set (h ∷ heads) (suc i) n l = ap (λ k. as_link h ∷ k) (links_set heads i n l)

links_none : (n : ℕ) → map as_link (replicate n no_number) ≡ replicate n none
links_none zero = refl
links_none (suc n) = rw (no_number_link, links_none n)

none_at : (n : ℕ) (rest : List ℕ) (c : ℕ) → c < n → get_or (map as_link (replicate n no_number) ++ rest) c 0 ≡ none
none_at n rest c l =
    rw (links_none n)
    (get_or-append (replicate n none) rest 0 c (rw (length-replicate n none) l) ∙ get_or-replicate n c none 0 l)

-- the heads so far with the index's links are an index of the chunks so far
module _ (index : List ℕ) where
  abbrev under : List ℕ → List ℕ
  under heads = map as_link heads ++ drop chains index

  under_link : (heads : List ℕ) → length heads ≡ chains → (n : ℕ) → link_at (under heads) n ≡ link_at index n
  under_link heads e n =
      let l : length (map as_link heads) ≡ chains = length-map heads as_link ∙ e in
      rw (← l) (get_or-append-add (map as_link heads) (drop chains index) n 0)
      ∙ get_or-drop chains index n 0

  under_enter : (heads : List ℕ) (n : ℕ) (c : List ℕ) → length heads ≡ chains → n < no_number
      → link_at index n ≡ as_link (get_or heads (chain c) 0) → enter (under heads) n c ≡ under (set heads (chain c) n)
  unfolding enter
  under_enter heads n c e few h =
      let l : chain c < length heads = omega (arith, chain_below c) in
      let m : chain c < length (map as_link heads) = rw (length-map heads as_link) l in
      let same_head = get_or-append (map as_link heads) (drop chains index) 0 (chain c) m in
      rw (same_head, links_at heads (chain c) l, ← h, ← (under_link heads e n), set-get_or, links_set heads (chain c) n few)
      (set-append_left (map as_link heads) (drop chains index) (chain c) n m)

  pass_met : (cs done : List (List ℕ)) (heads : List ℕ) → length heads ≡ chains
      → chains + (length done + length cs) ≤ length index → length done + length cs ≤ no_number
      → AllMet (under heads) done → passes index (length done) heads cs ≡ true → AllMet index (done ++ cs)
  unfolding passes
  pass_met [] done heads e room few met h =
      rw (append-nil done, ← (take-append-drop chains index), ← (same_equal (map as_link heads) (take chains index) h)) met
  pass_met (c ∷ cs) done heads e room few met h =
      let n = length done in
      let t = (and-eq-true_iff (eqb (link_at index n) (as_link (get_or heads (chain c) 0)))
      (passes index (suc n) (set heads (chain c) n) cs)).0 h in
      let link = eqb-true (link_at index n) (as_link (get_or heads (chain c) 0)) t.0 in
      let long : chains + n < length (under heads) = simp (length-append, length-drop, length-map) (omega arith) in
      let longer : length (done ++ (c ∷ [])) ≡ suc n = length-append done (c ∷ []) ∙ omega arith in
      let next = rw (under_enter heads n c e (omega arith) link)
      at (enter_met (under heads) done c long (omega arith) met) in
      let rest = pass_met cs (done ++ (c ∷ [])) (set heads (chain c) n) (length-set heads (chain c) n ∙ e)
      (omega arith) (omega arith) next (rw longer t.1) in
      rw (append_assoc done (c ∷ []) cs) at rest

  pub ordered_met : (held : List (List ℕ)) → chains + length held ≤ length index → length held ≤ no_number
      → ordered index held ≡ true → AllMet index held
  unfolding ordered
  ordered_met held room few h =
      pass_met held [] (replicate chains no_number) (length-replicate chains no_number) (omega arith) (omega arith)
      (none_met (under (replicate chains no_number)) (none_at chains (drop chains index))) h

heads_enter : (index : List ℕ) (n : ℕ) (c : List ℕ) → take chains (enter index n c) ≡ set (take chains index) (chain c) n
unfolding enter
heads_enter index n c =
    take-set-lt chains (set index (chains + n) (head_at index (chain c))) (chain c) n (chain_below c)
    ∙ ap (λ l. set l (chain c) n) (take-set-le chains index (chains + n) (head_at index (chain c)) (omega arith))

-- an entered chunk comes last in order
pass_enter : (index : List ℕ) (c : List ℕ) (last : ℕ) → chains + last < length index → last < no_number
    → (cs : List (List ℕ)) (n : ℕ) (heads : List ℕ) → length heads ≡ chains → n + length cs ≡ last
    → passes index n heads cs ≡ true → passes (enter index last c) n heads (cs ++ (c ∷ [])) ≡ true
unfolding passes
pass_enter index c last room few [] n heads long e h =
    let q : n ≡ last = omega arith in
    let same_heads_lem = same_equal (map as_link heads) (take chains index) h in
    let front : as_link (get_or heads (chain c) 0) ≡ head_at index (chain c) =
    sym (links_at heads (chain c) (omega (arith, chain_below c))) ∙ ap (λ l. get_or l (chain c) 0) same_heads_lem
    ∙ get_or-take chains index (chain c) 0 (chain_below c) in
    rw (
      q,
      link_new index last c room,
      front,
      eq-eqb (head_at index (chain c)) (head_at index (chain c)) refl,
      heads_enter index last c,
      links_set heads (chain c) last few,
      same_heads_lem,
    )
    (equal_same (set (take chains index) (chain c) last) (set (take chains index) (chain c) last) refl)
pass_enter index c last room few (d ∷ cs) n heads long e h =
    let t = (and-eq-true_iff (eqb (link_at index n) (as_link (get_or heads (chain d) 0)))
    (passes index (suc n) (set heads (chain d) n) cs)).0 h in
    rw (link_old index last c room n (λ z. omega arith), t.0)
    (pass_enter index c last room few cs (suc n) (set heads (chain d) n) (length-set heads (chain d) n ∙ long)
    (omega arith) t.1)

enter_ordered : (index : List ℕ) (held : List (List ℕ)) (c : List ℕ) → chains + length held < length index
    → length held < no_number → ordered index held ≡ true → ordered (enter index (length held) c) (held ++ (c ∷ [])) ≡ true
unfolding ordered
enter_ordered index held c room few h =
    pass_enter index c (length held) room few held 0 (replicate chains no_number) (length-replicate chains no_number)
    (zero-add (length held)) h

pub fresh_ordered : (entries : ℕ) → ordered (fresh_index entries) [] ≡ true
unfolding ordered passes fresh_index
fresh_ordered entries =
    equal_same (map as_link (replicate chains no_number)) (take chains (replicate (chains + entries) none))
    (links_none chains ∙ sym (rw (← (replicate-append-replicate chains entries none))
    (take_at (replicate chains none) (replicate entries none) chains (length-replicate chains none))))

-- every index that is built by entering chunks in order from a fresh one passes
pub enter_all_ordered : (index : List ℕ) (held cs : List (List ℕ)) → chains + (length held + length cs) ≤ length index
    → length held + length cs ≤ no_number → ordered index held ≡ true
    → ordered (enter_all index (length held) cs) (held ++ cs) ≡ true
unfolding enter_all
enter_all_ordered index held [] room few h = rw (append-nil held) h
enter_all_ordered index held (c ∷ cs) room few h =
    let longer : length (held ++ (c ∷ [])) ≡ suc (length held) = length-append held (c ∷ []) ∙ omega arith in
    let rest = enter_all_ordered (enter index (length held) c) (held ++ (c ∷ [])) cs
    (rw (length_enter index (length held) c) (omega arith)) (omega arith)
    (enter_ordered index held c (omega arith) (omega arith) h) in
    rw (longer, append_assoc held (c ∷ []) cs) at rest
