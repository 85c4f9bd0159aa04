-- The stretch that a look tells.
use Prim.Native.Nat.{ℕ, ◌+◌, ◌≤◌}
use native.Mathlib.Omega.{arith}
use mathlib.Core.Path.{◌≡◌, refl}
use mathlib.Core.Bool.{Bool, true, false}
use mathlib.Core.List.{List}
use lib.ListN.{length, get_or, take, drop}
use Rattle.refusal.specs.Number.{accepted}
use Rattle.store.specs.Grounds.{look_ground}
use Rattle.store.specs.Looking.{shown}
use Rattle.store.proofs.laws.Stretches.{look_placed}
use Rattle.numbers.specs.Storing.{head_of}
use Rattle.hirunvel.specs.Storing.{store_looked}

-- "the answer is the piece's own stretch of the pool": what a look tells in numbers is what a look shows
pub record OwnStretch (n pool directory : List ℕ) (number : ℕ) : Type 0 where
  pub bytes : let stretch = (store_looked n pool directory number).stretch in
      take (get_or stretch 1 0) (drop (get_or stretch 0 0) pool)
      ≡ (shown (head_of n) (0, 0) pool directory (record { 0 = number })).bytes
  pub start : get_or (store_looked n pool directory number).stretch 0 0
      ≡ (shown (head_of n) (0, 0) pool directory (record { 0 = number })).start.1
  pub in_pool : let stretch = (store_looked n pool directory number).stretch in
      get_or stretch 0 0 + get_or stretch 1 0 ≤ length pool

pub own_stretch : (n pool directory : List ℕ) (number : ℕ) → OwnStretch n pool directory number
unfolding store_looked shown
own_stretch n pool directory number = by_test (accepted (look_ground (head_of n) pool directory (record { 0 = number }))) refl
  where
    by_test : (t : Bool) → accepted (look_ground (head_of n) pool directory (record { 0 = number })) ≡ t
        → OwnStretch n pool directory number
    by_test true h =
        let placed = look_placed (head_of n) pool directory (record { 0 = number }) h in
        record { bytes = rw h; start = rw h (omega arith); in_pool = rw h (omega (arith, placed.within, placed.in_pool)) }
    by_test false h = record { bytes = rw h; start = rw h; in_pool = rw h (omega arith) }
