-- The numbers that the marks of a job's chunks stand for.
use Prim.Native.Nat.{ℕ, zero, suc, ◌+◌, ◌-◌, ◌<◌}
use native.Mathlib.Omega.{arith}
use mathlib.Core.Path.{◌≡◌, refl, sym, ap, ◌∙◌}
use mathlib.Core.Bool.{true, false, cond}
use mathlib.Core.List.{List, [], ◌∷◌, ◌++◌, map}
use lib.Dec.{ltb}
use lib.ListN.{length, get_or, length-append}
use borrow.Author.Tests.{lt-ltb, le-ltb}
use Rattle.store.specs.Contents.{number, has, gain, grown, numbers}
use Rattle.store.proofs.laws.contents.Numbering.{number_next, chunk_at_number}
use Rattle.store.proofs.laws.contents.Growth.{has_grown, number_grown, grown_append}
use Rattle.store.proofs.laws.contents.Additions.{numbers_after, numbers_append}
use Rattle.marks.specs.Marks.{code_of, repeat_base, first_base, mark, marks, settled_mark, settled}
use Rattle.marks.proofs.laws.Marking.{Marked, stored, repeats, appears, Places, places_on, place_marked}

-- the number at a place is that of the chunk there
get_d_map : (f : List ℕ → ℕ) (cs : List (List ℕ)) (n : ℕ) → n < length cs → get_or (map f cs) n 0 ≡ f (get_or cs n [])
get_d_map f [] n l = absurd (omega arith)
get_d_map f (c ∷ cs) zero l = refl
get_d_map f (c ∷ cs) (suc n) l = get_d_map f cs n (omega arith)

-- what one mark comes to: the chunk's number, and the next new chunk's
record Settles (held earlier : List (List ℕ)) (c : List ℕ) (m : ℕ) : Type 0 where
  value : settled_mark (length (grown held earlier)) (numbers held earlier) m ≡ number (grown held earlier) c
  next : cond (ltb (code_of m) first_base) (length (grown held earlier)) (length (grown held earlier) + 1)
      ≡ length (gain (grown held earlier) c)

-- by the three things that it may say
settles : (held earlier : List (List ℕ)) (c : List ℕ) (m : ℕ) → Marked held earlier c m → Settles held earlier c m
unfolding gain
settles held earlier c m (stored h e l s) =
    let known : has (grown held earlier) c ≡ true = rw (has_grown held earlier c, h) in
    record {
      value = rw (lt-ltb (code_of m) repeat_base l) (e ∙ sym (number_grown held earlier c h));
      next = rw (lt-ltb (code_of m) first_base (omega arith), known);
    }
settles held earlier c m (repeats h k e b l s) =
    let known : has (grown held earlier) c ≡ true = rw (has_grown held earlier c, h, k) in
    let n = number earlier c in
    let place : code_of m - repeat_base ≡ n = omega arith in
    let after = number (grown held earlier) in
    let told : get_or (numbers held earlier) n 0 ≡ after c =
    ap (λ ns. get_or ns n 0) (numbers_after held earlier) ∙ get_d_map after earlier n b ∙ ap after (chunk_at_number earlier c k) in
    record {
      value = rw (le-ltb (code_of m) repeat_base (omega arith), lt-ltb (code_of m) first_base l, place) told;
      next = rw (lt-ltb (code_of m) first_base l, known);
    }
settles held earlier c m (appears h k l e s) =
    let new : has (grown held earlier) c ≡ false = rw (has_grown held earlier c, h, k) in
    record {
      value =
          rw (le-ltb (code_of m) repeat_base (omega arith), le-ltb (code_of m) first_base l)
          (sym (number_next (grown held earlier) c new));
      next = rw (le-ltb (code_of m) first_base l, new, length-append (grown held earlier) (c ∷ []));
    }

-- the store after one chunk more
grown_last : (held earlier : List (List ℕ)) (c : List ℕ)
    → grown held (earlier ++ (c ∷ [])) ≡ gain (grown held earlier) c
unfolding grown
grown_last held earlier c = grown_append held earlier (c ∷ [])

-- its numbers
numbers_last : (held earlier : List (List ℕ)) (c : List ℕ)
    → numbers held (earlier ++ (c ∷ [])) ≡ numbers held earlier ++ (number (grown held earlier) c ∷ [])
unfolding numbers
numbers_last held earlier c = numbers_append (c ∷ []) held earlier

-- marks in a row come to the numbers of their chunks
pub settled_marks : (w : ℕ) (job : List ℕ) (held earlier ds rest : List (List ℕ)) → Places w job held earlier ds rest
    → settled (length (grown held earlier)) (numbers held earlier) (marks held earlier ds)
    ≡ numbers (grown held earlier) ds
unfolding marks settled numbers
settled_marks w job held earlier [] rest p = refl
settled_marks w job held earlier (d ∷ ds) rest p =
    let s = settles held earlier d (mark held earlier d) (place_marked p) in
    let on = settled_marks w job held (earlier ++ (d ∷ [])) ds rest (places_on p) in
    let later = rw (grown_last held earlier d, numbers_last held earlier d) at on in
    rw (s.value, s.next) (ap (λ (ns : List ℕ). number (grown held earlier) d ∷ ns) later)
