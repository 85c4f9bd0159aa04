-- What a survey keeps of its own, the heads of chains and the starts of chunks, with one chunk more.
use Prim.Native.Nat.{ℕ, ◌+◌, ◌*◌, ◌/◌, ◌%◌, ◌≤◌, ◌<◌}
use native.Mathlib.Omega.{arith}
use native.Mathlib.Nat.{zero-add}
use native.Mathlib.Decide.{dec_lt}
use mathlib.Core.Path.{◌≡◌, refl, sym, ap, ◌∙◌}
use mathlib.Core.Bool.{Bool, true, false, cond, ◌||◌, true≢false}
use mathlib.Core.List.{List, [], ◌∷◌, ◌++◌, append_assoc}
use lib.Dec.{eqb}
use lib.ListN.{length, get_or, take, set, replicate, length-append, get_or-replicate}
use lib.Seq.{take_at, take-append-le, get_or-set_same, get_or-set_other}
use borrow.Author.Tests.{eq-eqb, eqb-true}
use Rattle.chunker.specs.Chunks.{total}
use Rattle.store.specs.Contents.{has}
use Rattle.marks.specs.Marks.{no_place, appearing, of_chain, last_from, last_of, mark, marks, sizes, firsts, own_chains, own_chain}
use Rattle.marks.specs.internal.Places.{start_stride, Heads, Starts}
use Rattle.marks.proofs.laws.Sizes.{firsts_append}
use Rattle.marks.proofs.laws.Chains.{of_own, of_chain_lem, of_none, last_append}
use Rattle.marks.proofs.laws.Appearances.{length_appearing}
use Rattle.marks.proofs.laws.Marking.{length_marks, marks_last, Places, next_start, next_marked}
use Rattle.marks.proofs.laws.Appearing.{first_shown, firsts_marks, sizes_marks, recipe_firsts, recipe_sizes}

-- of no chunk yet
pub heads_none : (job recipe : List ℕ) → Heads job recipe (replicate own_chains no_place) 0
unfolding firsts last_from
heads_none job recipe = record { each = λ c l. get_or-replicate own_chains c no_place 0 l }

pub starts_none : (recipe starts : List ℕ) → Starts recipe starts 0
starts_none recipe starts = record { each = λ k l. absurd (omega arith) }

-- the head of a chain is the place that the mark of its next new chunk names
pub head_is : (w : ℕ) (job : List ℕ) (held ds rest : List (List ℕ)) → Places w job held [] ds rest
    → (more heads : List ℕ) → Heads job (marks held [] ds ++ more) heads (length ds)
    → (k : ℕ) → k < own_chains → get_or heads k 0 ≡ last_of k (appearing held [] ds)
head_is w job held ds rest p more heads h k l =
    h.each k l ∙ ap (last_of k) (recipe_firsts w job held ds rest p more)

-- the starts with that of the chunk at a place, where the place is one of every 64
abbrev pub starts_with : List ℕ → ℕ → ℕ → List ℕ
starts_with starts place at = cond (eqb (place % start_stride) 0) (set starts (place / start_stride) at) starts

module _ (starts : List ℕ) (place at : ℕ) where
  -- those before stay
  start_kept : (k : ℕ) → k * start_stride < place → get_or (starts_with starts place at) k 0 ≡ get_or starts k 0
  start_kept k l = by_test (eqb (place % start_stride) 0) refl
    where
      by_test : (t : Bool) → eqb (place % start_stride) 0 ≡ t
          → get_or (cond t (set starts (place / start_stride) at) starts) k 0 ≡ get_or starts k 0
      by_test true e =
          let even = eqb-true (place % start_stride) 0 e in
          get_or-set_other starts (place / start_stride) k at 0 (λ (same : k ≡ place / start_stride). omega arith)
      by_test false e = refl

  -- that of the place is there
  start_here : (k : ℕ) → k * start_stride ≡ place → k < length starts → get_or (starts_with starts place at) k 0 ≡ at
  start_here k e l =
      let even : place % start_stride ≡ 0 = omega arith in
      let here : place / start_stride ≡ k = omega arith in
      rw (eq-eqb (place % start_stride) 0 even, here) (get_or-set_same starts k at 0 l)

-- the search, for which the next place's start is noted already
pub starts_noted : (recipe starts : List ℕ) (n at : ℕ) → Starts recipe starts n → Starts recipe (starts_with starts n at) n
starts_noted recipe starts n at s = record { each = λ k l. start_kept starts n at k l ∙ s.each k l }

module _ (w : ℕ) (job : List ℕ) (held ds : List (List ℕ)) (c : List ℕ) (rest : List (List ℕ))
    (p : Places w job held [] ds (c ∷ rest)) (more more' : List ℕ) where
  -- the recipes before and after
  abbrev before : List ℕ
  before = marks held [] ds ++ more

  abbrev after : List ℕ
  after = marks held [] (ds ++ (c ∷ [])) ++ more'

  -- one place more
  count : length (ds ++ (c ∷ [])) ≡ length ds + 1
  count = length-append ds (c ∷ [])

  after_is : after ≡ marks held [] ds ++ (mark held ds c ∷ more')
  after_is = rw (marks_last held [] ds c) (append_assoc (marks held [] ds) (mark held ds c ∷ []) more')

  -- the first places say the same
  same_firsts : (n : ℕ) → n ≤ length ds → take n after ≡ take n before
  same_firsts n l =
      let size = length_marks held [] ds in
      rw after_is
      (take-append-le n (marks held [] ds) (mark held ds c ∷ more') (omega arith)
      ∙ sym (take-append-le n (marks held [] ds) more (omega arith)))

  module _ (starts : List ℕ) (long : length starts ≡ 1024) (s : Starts before starts (length ds)) where
    pub starts_more : Starts after (starts_with starts (length ds) (total ds)) (length (ds ++ (c ∷ [])))
    starts_more = record { each = λ k l. each k (omega (arith, count)) }
      where
        each : (k : ℕ) → k * start_stride ≤ length ds
            → get_or (starts_with starts (length ds) (total ds)) k 0 ≡ sizes (take (k * start_stride) after)
        each k l =
            rw (same_firsts (k * start_stride) l)
            (elim (dec_lt (k * start_stride) (length ds)) [
              | yes h ↦ start_kept starts (length ds) (total ds) k h ∙ s.each k h
              | no h ↦ let here : k * start_stride ≡ length ds = omega arith in
                  start_here starts (length ds) (total ds) k here (omega (arith, p.short))
                  ∙ rw here (sym (recipe_sizes w job held ds (c ∷ rest) p more))
            ])

  -- the chunks that the places show
  after_firsts : firsts job 0 (take (length (ds ++ (c ∷ []))) after)
      ≡ appearing held [] ds ++ (cond (has held c || has ds c) [] c ∷ [])
  unfolding firsts
  after_firsts =
      let shown : take (length (ds ++ (c ∷ []))) after ≡ marks held [] ds ++ (mark held ds c ∷ []) =
      take_at (marks held [] (ds ++ (c ∷ []))) more' (length (ds ++ (c ∷ []))) (length_marks held [] (ds ++ (c ∷ [])))
      ∙ marks_last held [] ds c in
      rw (
        shown,
        firsts_append job 0 (marks held [] ds) (mark held ds c ∷ []),
        firsts_marks [] ds (c ∷ rest) p,
        sizes_marks [] ds (c ∷ rest) p,
        zero-add (total ds),
      )
      (ap (λ (f : List ℕ). appearing held [] ds ++ (f ∷ [])) (first_shown (next_start p) (next_marked p)))

  module _ (heads : List ℕ) (h : Heads job before heads (length ds)) where
    -- the head of a chain before
    head_before : (k : ℕ) → k < own_chains → get_or heads k 0 ≡ last_of k (appearing held [] ds)
    head_before = head_is w job held ds (c ∷ rest) p more heads h

    -- and after
    last_after : (k : ℕ) → last_of k (firsts job 0 (take (length (ds ++ (c ∷ []))) after))
        ≡ cond (of_chain k (cond (has held c || has ds c) [] c)) (length ds) (last_of k (appearing held [] ds))
    last_after k =
        ap (last_of k) after_firsts ∙ last_append k (appearing held [] ds) _ ∙ rw (length_appearing held [] ds)

    -- a chunk that is known changes no head
    pub heads_known : (has held c || has ds c) ≡ true → Heads job after heads (length (ds ++ (c ∷ [])))
    heads_known known =
        record { each = λ k l. head_before k l ∙ sym (last_after k ∙ rw (known, of_none k)) }

    -- a new one becomes that of its chain
    pub heads_new : length heads ≡ own_chains → (has held c || has ds c) ≡ false
        → Heads job after (set heads (own_chain c) (length ds)) (length (ds ++ (c ∷ [])))
    heads_new long new =
        record { each = λ k l. each k l (of_chain k c) refl }
      where
        each : (k : ℕ) → k < own_chains → (t : Bool) → of_chain k c ≡ t
            → get_or (set heads (own_chain c) (length ds)) k 0 ≡ last_of k (firsts job 0 (take (length (ds ++ (c ∷ []))) after))
        each k l true e =
            let own : own_chain c ≡ k = (of_chain_lem c k e).1 in
            let here : get_or (set heads (own_chain c) (length ds)) k 0 ≡ length ds =
            rw own (get_or-set_same heads k (length ds) 0 (omega arith)) in
            here ∙ sym (last_after k ∙ rw (new, e))
        each k l false e =
            get_or-set_other heads (own_chain c) k (length ds) 0
            (λ (same : k ≡ own_chain c). true≢false (sym (of_own c k (next_start p).some (sym same)) ∙ e))
            ∙ head_before k l ∙ sym (last_after k ∙ rw (new, e))
