-- The pass that turns marks into numbers, under way: the places before the one at hand have their numbers.
use Prim.Native.Nat.{ℕ, suc, ◌+◌, ◌-◌, ◌≤◌, ◌<◌, ◌^◌}
use native.Mathlib.Omega.{arith}
use native.Mathlib.Nat.{add-zero, sub-zero}
use native.Mathlib.Numerals.{add-one}
use mathlib.Core.Path.{◌≡◌, refl, ap, sym, ◌∙◌}
use mathlib.Core.Bool.{true, cond}
use mathlib.Core.List.{List, [], ◌∷◌, ◌++◌}
use lib.Dec.{ltb}
use lib.ListN.{length, get_or, take, drop, set, length-set, take-append-drop}
use lib.Seq.{take-suc-set, drop-set-lt, drop-drop, drop-cons, append_snoc, get_or-take, get_or-drop, length-take-le}
use borrow.Author.Tests.{lt-ltb, le-ltb}
use Rattle.marks.specs.Marks.{code_of, repeat_base, first_base, settled_mark, settled}
use Rattle.marks.specs.internal.Places.{NamesEarlier}

-- what is still to do at a place gives what was asked at the start
pub record Settling (recipe₀ : List ℕ) (used chunks : ℕ) (recipe : List ℕ) (next place : ℕ) : Type 0 where
  pub within : place ≤ used
  pub inside : used ≤ length recipe₀
  pub room : next + (used - place) < 2 ^ 32
  pub kept : length recipe ≡ length recipe₀
  pub rest : drop place recipe ≡ drop place recipe₀
  pub names : NamesEarlier recipe₀ used
  pub gives : take place recipe
      ++ (settled next (take place recipe) (take (used - place) (drop place recipe)) ++ drop used recipe)
      ≡ settled chunks [] (take used recipe₀) ++ drop used recipe₀

-- the marks of the first places name earlier ones too
pub names_first : {recipe : List ℕ} {n : ℕ} → n ≤ length recipe → NamesEarlier recipe n
    → NamesEarlier (take n recipe) (length (take n recipe))
names_first {recipe} {n} inside names = record { each = λ q l. each q (rw (length-take-le n recipe inside) at l) }
  where
    each : (q : ℕ) → q < n → repeat_base ≤ code_of (get_or (take n recipe) q 0) → code_of (get_or (take n recipe) q 0) < first_base
        → code_of (get_or (take n recipe) q 0) - repeat_base < q
    each q l = rw (get_or-take n recipe q 0 l) (names.each q l)

-- nothing is done yet
pub settling_none : (recipe : List ℕ) (used chunks : ℕ) → used ≤ length recipe → chunks + used < 2 ^ 32
    → NamesEarlier recipe used → Settling recipe used chunks recipe chunks 0
settling_none recipe used chunks h room names =
    record {
      within = omega arith;
      inside = h;
      room = omega arith;
      kept = refl;
      rest = refl;
      names = names;
      gives = rw sub-zero;
    }

-- the next of marks in a row
settled_next : (next : ℕ) (done : List ℕ) (m : ℕ) (ms : List ℕ) → settled next done (m ∷ ms)
    ≡ settled_mark next done m
    ∷ settled (cond (ltb (code_of m) first_base) next (next + 1)) (done ++ (settled_mark next done m ∷ [])) ms
unfolding settled
settled_next next done m ms = refl

-- no mark is left
settled_none : (next : ℕ) (done : List ℕ) → settled next done [] ≡ []
unfolding settled
settled_none next done = refl

-- the number of the next mark moves to those that are done
number_moves : (next : ℕ) (done : List ℕ) (m : ℕ) (ms after : List ℕ) (v n : ℕ) → v ≡ settled_mark next done m
    → n ≡ cond (ltb (code_of m) first_base) next (next + 1)
    → done ++ (v ∷ []) ++ (settled n (done ++ (v ∷ [])) ms ++ after) ≡ done ++ (settled next done (m ∷ ms) ++ after)
number_moves next done m ms after v n e f = rw (settled_next next done m ms, ← e, ← f) (append_snoc done v _)

module _ {recipe₀ recipe : List ℕ} {used chunks next place : ℕ} (s : Settling recipe₀ used chunks recipe next place) where
  -- all places are done
  pub settling_all : used ≤ place → recipe ≡ settled chunks [] (take used recipe₀) ++ drop used recipe₀
  settling_all h =
      let none : used - place ≡ 0 = omega arith in
      let here : used ≡ place = omega (arith, s.within) in
      let whole : take place recipe ++ drop used recipe ≡ recipe = rw here (take-append-drop place recipe) in
      sym whole ∙ rw (none, settled_none) at s.gives

  module _ (more : place < used) where
    -- the place lies in the recipe
    pub place_inside : place < length recipe
    place_inside = omega (arith, s.inside, s.kept)

    -- its mark is that of the start
    mark_kept : get_or recipe place 0 ≡ get_or recipe₀ place 0
    mark_kept =
        sym (rw add-zero at (get_or-drop place recipe 0 0)) ∙ ap (λ xs. get_or xs 0 0) s.rest
        ∙ rw add-zero at (get_or-drop place recipe₀ 0 0)

    -- the place gets its number
    settling_more : (v n : ℕ) → v ≡ settled_mark next (take place recipe) (get_or recipe place 0)
        → n ≡ cond (ltb (code_of (get_or recipe place 0)) first_base) next (next + 1) → n ≤ next + 1
        → Settling recipe₀ used chunks (set recipe place v) n (place + 1)
    settling_more v n e f l =
        let left : used - place ≡ suc (used - suc place) = omega arith in
        let first = drop-cons recipe place 0 place_inside in
        let later = take (used - suc place) (drop (suc place) recipe) in
        let moves = number_moves next (take place recipe) (get_or recipe place 0) later (drop used recipe) v n e f in
        let done = take-suc-set recipe place v place_inside in
        let same_later = drop-set-lt (suc place) recipe place v (omega arith) in
        let same_after = drop-set-lt used recipe place v more in
        record {
          within = omega arith;
          inside = s.inside;
          room = omega (arith, s.room);
          kept = length-set recipe place v ∙ s.kept;
          rest = drop-set-lt (place + 1) recipe place v (omega arith) ∙ sym (drop-drop 1 place recipe)
              ∙ ap (drop 1) s.rest ∙ drop-drop 1 place recipe₀;
          names = s.names;
          gives = rw (add-one, done, same_later, same_after) (moves ∙ rw (left, first) at s.gives);
        }

    -- the code of its mark
    module _ (code : ℕ) (is : code ≡ code_of (get_or recipe place 0)) where
      -- a first appearance gets the next number
      pub settling_first : first_base ≤ code → Settling recipe₀ used chunks (set recipe place next) (next + 1) (place + 1)
      settling_first h =
          let tested = le-ltb (code_of (get_or recipe place 0)) first_base (omega arith) in
          settling_more next (next + 1)
          (rw (le-ltb (code_of (get_or recipe place 0)) repeat_base (omega arith), tested)) (rw tested) (omega arith)

      module _ (h : code < first_base) where
        -- the place that a mark names is before its own
        pub names_earlier_lem : repeat_base ≤ code → code - repeat_base < place
        names_earlier_lem g =
            omega (arith, mark_kept, s.names.each place more (omega (arith, mark_kept)) (omega (arith, mark_kept)))

        known : ltb (code_of (get_or recipe place 0)) first_base ≡ true
        known = lt-ltb (code_of (get_or recipe place 0)) first_base (omega arith)

        -- one that names an earlier place gets the number there
        pub settling_repeat : repeat_base ≤ code
            → Settling recipe₀ used chunks (set recipe place (get_or recipe (code - repeat_base) 0)) next (place + 1)
        settling_repeat g =
            settling_more _ next
            (rw (le-ltb (code_of (get_or recipe place 0)) repeat_base (omega arith), known, ← is)
            (sym (get_or-take place recipe _ 0 (names_earlier_lem g))))
            (rw known) (omega arith)

        -- one of a stored chunk gets the number that its code is
        pub settling_stored : code < repeat_base → Settling recipe₀ used chunks (set recipe place code) next (place + 1)
        settling_stored g =
            settling_more code next (rw (lt-ltb (code_of (get_or recipe place 0)) repeat_base (omega arith)) is) (rw known)
            (omega arith)
