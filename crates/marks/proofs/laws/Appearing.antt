-- What the marks of a job's first chunks say: which of them appear for the first time, where they start, and what the
-- functions may assume of them.
use Prim.Native.Nat.{ℕ, ◌+◌, ◌-◌, ◌≤◌, ◌<◌}
use native.Mathlib.Omega.{arith}
use native.Mathlib.Nat.{zero-add}
use mathlib.Core.Path.{◌≡◌, refl, sym, ap, ap₂, ◌∙◌}
use mathlib.Core.Bool.{false, cond, ◌||◌, true≢false}
use mathlib.Core.List.{List, [], ◌∷◌, ◌++◌}
use lib.ListN.{length, get_or, take, get_or-append}
use lib.Seq.{take_at, get_or-take}
use Rattle.chunker.specs.Chunks.{total}
use Rattle.store.specs.Contents.{number, has}
use Rattle.store.proofs.laws.contents.Additions.{total_append}
use Rattle.marks.specs.Marks.{code_of, size_of, repeat_base, first_base, first_code, appearing, last_of, mark, marks, own_chain}
use Rattle.marks.specs.Marks.{sizes, first_at, firsts}
use Rattle.marks.specs.internal.Places.{Linked, NamesEarlier}
use Rattle.marks.proofs.laws.Positions.{StartsAt, total_within}
use Rattle.marks.proofs.laws.Sizes.{first_none, first_some}
use Rattle.marks.proofs.laws.Appearances.{appearing_here, appearing_before, appearing_among, number_appearing}
use Rattle.marks.proofs.laws.Marking.{length_marks, Marked, stored, repeats, appears, size_marked}
use Rattle.marks.proofs.laws.Marking.{Places, places_on, place_start, place_marked, Place, place_at}

-- a mark shows its chunk where the chunk appears for the first time
pub first_shown : {job : List ℕ} {held earlier : List (List ℕ)} {c : List ℕ} {m : ℕ} → StartsAt job (total earlier) c
    → Marked held earlier c m → first_at job (total earlier) m ≡ cond (has held c || has earlier c) [] c
first_shown {job} {held} {earlier} {c} {m} s (stored h e l z) = rw (first_none job (total earlier) m (omega arith), h)
first_shown {job} {held} {earlier} {c} {m} s (repeats h k e b l z) = rw (first_none job (total earlier) m l, h, k)
first_shown {job} {held} {earlier} {c} {m} s (appears h k l e z) =
    rw (first_some job (total earlier) m l, h, k, z) s.is

-- so marks in a row show the chunks that do
pub firsts_marks : {w : ℕ} {job : List ℕ} {held : List (List ℕ)} (earlier ds rest : List (List ℕ))
    → Places w job held earlier ds rest → firsts job (total earlier) (marks held earlier ds) ≡ appearing held earlier ds
unfolding marks firsts appearing
firsts_marks earlier [] rest p = refl
firsts_marks {w} {job} {held} earlier (d ∷ ds) rest p =
    let at : total earlier + size_of (mark held earlier d) ≡ total (earlier ++ (d ∷ [])) =
    omega (arith, total_append earlier (d ∷ []), size_marked (place_marked p)) in
    ap₂ (λ (f : List ℕ) (fs : List (List ℕ)). f ∷ fs) (first_shown (place_start p) (place_marked p))
    (rw at (firsts_marks (earlier ++ (d ∷ [])) ds rest (places_on p)))

-- and their bytes are the chunks'
pub sizes_marks : {w : ℕ} {job : List ℕ} {held : List (List ℕ)} (earlier ds rest : List (List ℕ))
    → Places w job held earlier ds rest → sizes (marks held earlier ds) ≡ total ds
unfolding marks sizes
sizes_marks earlier [] rest p = refl
sizes_marks earlier (d ∷ ds) rest p =
    omega (arith, size_marked (place_marked p), sizes_marks (earlier ++ (d ∷ [])) ds rest (places_on p))

-- the first place that shows a chunk which the store lacks is the first that has it
pub number_firsts : (w : ℕ) (job : List ℕ) (held : List (List ℕ)) (c : List ℕ) → 1 ≤ length c → has held c ≡ false
    → (earlier ds rest : List (List ℕ)) → Places w job held earlier ds rest → has earlier c ≡ false
    → number (firsts job (total earlier) (marks held earlier ds)) c ≡ number ds c
number_firsts w job held c some new earlier ds rest p none =
    ap (λ fs. number fs c) (firsts_marks earlier ds rest p) ∙ number_appearing held c some new earlier ds none

-- a chunk whose mark says a first appearance is new, and the mark names the last place of its chain
pub record New (held before : List (List ℕ)) (c : List ℕ) (m : ℕ) : Type 0 where
  pub lacks : has held c ≡ false
  pub none : has before c ≡ false
  pub link : code_of m ≡ first_code (last_of (own_chain c) (appearing held [] before))

pub first_marked : {held before : List (List ℕ)} {c : List ℕ} {m : ℕ} → Marked held before c m → first_base ≤ code_of m
    → New held before c m
first_marked (stored h e l s) f = absurd (omega arith)
first_marked (repeats h k e b l s) f = absurd (omega arith)
first_marked (appears h k l e s) f = record { lacks = h; none = k; link = e }

-- a mark of a repeated chunk names an earlier place
repeat_marked : {held before : List (List ℕ)} {c : List ℕ} {m : ℕ} → Marked held before c m → repeat_base ≤ code_of m
    → code_of m < first_base → code_of m - repeat_base < length before
repeat_marked (stored h e l s) r f = absurd (omega arith)
repeat_marked (repeats h k e b l s) r f = omega arith
repeat_marked (appears h k l e s) r f = absurd (omega arith)

module _ (w : ℕ) (job : List ℕ) (held ds rest : List (List ℕ)) (p : Places w job held [] ds rest) (more : List ℕ) where
  -- the recipe's first places
  pub first_places : take (length ds) (marks held [] ds ++ more) ≡ marks held [] ds
  first_places = take_at (marks held [] ds) more (length ds) (length_marks held [] ds)

  -- the chunks that they show
  pub recipe_firsts : firsts job 0 (take (length ds) (marks held [] ds ++ more)) ≡ appearing held [] ds
  recipe_firsts = rw first_places (firsts_marks [] ds rest p)

  -- the bytes of their chunks
  pub recipe_sizes : sizes (take (length ds) (marks held [] ds ++ more)) ≡ total ds
  recipe_sizes = rw first_places (sizes_marks [] ds rest p)

  -- the place q of the recipe
  pub recipe_place : (q : ℕ) → q < length ds → Place w job held (total ds) (get_or (marks held [] ds ++ more) q 0) q
  recipe_place q l =
      let inside : q < length (marks held [] ds) = rw (length_marks held [] ds) l in
      rw (get_or-append (marks held [] ds) more 0 q inside)
      (rw (zero-add q) at (place_at w job held [] ds rest p q l))

  -- a place whose mark says a first appearance
  record FirstPlace (q : ℕ) : Type 0 where
    chunk : List ℕ
    before : List (List ℕ)
    some : 1 ≤ length chunk
    is : New held before chunk (get_or (marks held [] ds ++ more) q 0)
    here : get_or (appearing held [] ds) q [] ≡ chunk
    earlier : take q (appearing held [] ds) ≡ appearing held [] before

  first_place : (q : ℕ) → q < length ds → first_base ≤ code_of (get_or (marks held [] ds ++ more) q 0) → FirstPlace q
  first_place q l f =
      let r = recipe_place q l in
      let is = first_marked r.marked f in
      let split : ds ++ rest ≡ r.before ++ (r.chunk ∷ r.after) = sym p.whole ∙ r.split in
      record {
        chunk = r.chunk;
        before = r.before;
        some = r.starts.some;
        is = is;
        here =
            appearing_here held ds rest r.before r.after r.chunk split q r.at l ∙ rw (is.lacks, is.none);
        earlier = appearing_before held ds rest r.before r.after r.chunk split q r.at l;
      }

  -- the search
  pub linked : Linked job (marks held [] ds ++ more) (length ds)
  linked =
      record {
        links = λ q l f. let r = first_place q l f in rw (recipe_firsts, r.here, r.earlier) r.is.link;
        distinct = λ k q a l f e.
            let r = first_place q l f in
            let both : get_or (appearing held [] ds) k [] ≡ get_or (appearing held [] ds) q [] = rw recipe_firsts at e in
            let first = get_or-take q (appearing held [] ds) k [] a ∙ both ∙ r.here in
            let again = appearing_among held r.chunk r.some [] r.before k (rw r.earlier at first) in
            true≢false (sym again ∙ r.is.none);
        inside = omega (arith, recipe_sizes, total_within w p.allowed ds job rest p.whole);
        few = p.short;
      }

  -- the last pass
  pub names_earlier_lem : NamesEarlier (marks held [] ds ++ more) (length ds)
  names_earlier_lem =
      record {
        each = λ q l h k. let r = recipe_place q l in omega (arith, repeat_marked r.marked h k, r.at);
      }
