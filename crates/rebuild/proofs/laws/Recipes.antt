-- Laws of a recipe's chunks and numbers, one number at a time.
use Prim.Native.Nat.{ℕ, zero, suc, ◌+◌, ◌*◌, ◌≤◌, ◌<◌}
use native.Mathlib.Omega.{arith}
use native.Mathlib.Numerals.{add-one}
use mathlib.Core.Path.{◌≡◌, sym, ap, ◌∙◌}
use mathlib.Core.Bool.{Bool, true, false, ◌&&◌, and-true, and-false, and-eq-true_iff}
use mathlib.Core.List.{List, [], ◌∷◌, ◌++◌}
use borrow.Author.Tests.{lt-ltb, le-ltb, ltb-true}
use lib.Dec.{ltb}
use lib.ListN.{length, get_or, drop, length-append, length-take, length-drop, drop_of_length-le}
use lib.Seq.{drop-cons}
use Rattle.directory.specs.Entry.{offset_at, length_at}
use Rattle.store.specs.Memory.{chunk_at}
use Rattle.rebuild.specs.Rebuilding.{rebuilt_bytes}
use Rattle.store.specs.Grounds.{all_below}

-- `below` tells whether the numbers before place i passed, those from it on are still to test, and the answer is both
pub record Compared (chunks : ℕ) (recipe : List ℕ) (below : Bool) (i : ℕ) : Type 0 where
  pub order : i ≤ length recipe
  pub gives : (below && all_below chunks (drop i recipe)) ≡ all_below chunks recipe

module _ {chunks : ℕ} {recipe : List ℕ} {below : Bool} {i : ℕ} (t : Compared chunks recipe below i) where
  module _ (h : i < length recipe) where
    -- the number at place i is tested, then those after it
    by_next : (below && (ltb (get_or recipe i 0) chunks && all_below chunks (drop (i + 1) recipe))) ≡ all_below chunks recipe
    unfolding all_below
    by_next = (rw (drop-cons recipe i 0 h, add-one i)) ∙ t.gives

    -- one that is not below refuses the recipe
    pub one_not_below : chunks ≤ get_or recipe i 0 → Compared chunks recipe false (i + 1)
    one_not_below l = record { order = omega arith; gives = sym (and-false below) ∙ rw (le-ltb _ _ l) at by_next }

    -- one that is leaves the others
    pub one_below : get_or recipe i 0 < chunks → Compared chunks recipe below (i + 1)
    one_below l = record { order = omega arith; gives = rw (lt-ltb _ _ l) at by_next }

  -- with no number left the answer is there
  pub all_tested : length recipe ≤ i → below ≡ all_below chunks recipe
  unfolding all_below
  all_tested h = sym (and-true below) ∙ rw (drop_of_length-le recipe h) at t.gives

-- each number of a recipe that passes is below
pub each_below : (chunks : ℕ) (recipe : List ℕ) → all_below chunks recipe ≡ true → (i : ℕ) → i < length recipe
    → get_or recipe i 0 < chunks
unfolding all_below
each_below chunks [] h i l = absurd (omega arith)
each_below chunks (number ∷ numbers) h zero l =
    ltb-true _ _ ((and-eq-true_iff (ltb number chunks) (all_below chunks numbers)).0 h).0
each_below chunks (number ∷ numbers) h (suc i) l =
    each_below chunks numbers ((and-eq-true_iff (ltb number chunks) (all_below chunks numbers)).0 h).1 i (omega arith)

module _ (pool directory recipe : List ℕ) (i : ℕ) where
  -- the bytes of the number at place i, then those of the numbers after it
  pub one_rebuilt : i < length recipe → rebuilt_bytes pool directory (drop i recipe)
      ≡ chunk_at pool directory (get_or recipe i 0) ++ rebuilt_bytes pool directory (drop (i + 1) recipe)
  unfolding rebuilt_bytes
  one_rebuilt h = rw (drop-cons recipe i 0 h, add-one i)

  -- with no number left there are none
  pub none_rebuilt : length recipe ≤ i → rebuilt_bytes pool directory (drop i recipe) ≡ []
  unfolding rebuilt_bytes
  none_rebuilt h = rw (drop_of_length-le recipe h)

-- the numbers from place i on are still to count, and with them the total is the rebuilt length
pub record Counted (pool directory recipe : List ℕ) (i total : ℕ) : Type 0 where
  pub order : i ≤ length recipe
  pub small : total ≤ i * length pool
  pub gives : total + length (rebuilt_bytes pool directory (drop i recipe)) ≡ length (rebuilt_bytes pool directory recipe)

-- no number is counted yet
pub none_counted : {pool directory recipe : List ℕ} → Counted pool directory recipe 0 0
none_counted = record { order = omega arith; small = omega arith; gives = omega arith }

module _ {pool directory recipe : List ℕ} {i total : ℕ} (t : Counted pool directory recipe i total) where
  -- one more number is counted
  pub one_counted : (size : ℕ) → i < length recipe → size ≡ length (chunk_at pool directory (get_or recipe i 0))
      → Counted pool directory recipe (i + 1) (total + size)
  one_counted size h e =
      let chunk = chunk_at pool directory (get_or recipe i 0) in
      let rest = rebuilt_bytes pool directory (drop (i + 1) recipe) in
      let within = length-take (length_at directory (get_or recipe i 0)) (drop (offset_at directory (get_or recipe i 0)) pool) in
      let below = length-drop (offset_at directory (get_or recipe i 0)) pool in
      let both : length (rebuilt_bytes pool directory (drop i recipe)) ≡ length chunk + length rest =
      ap length (one_rebuilt pool directory recipe i h) ∙ length-append chunk rest in
      record { order = omega arith; small = omega arith; gives = omega arith }

  -- all are counted
  pub all_counted : length recipe ≤ i → total ≡ length (rebuilt_bytes pool directory recipe)
  all_counted h = omega (arith, t.gives, ap length (none_rebuilt pool directory recipe i h))
