-- The facts on which each move rests, and the move that each set of facts gives.
use Prim.Native.Nat.{ℕ, suc, ◌+◌, ◌≤◌, ◌<◌}
use native.Mathlib.Omega.{arith}
use mathlib.Core.Path.{◌≡◌, refl}
use mathlib.Core.Bool.{Bool, true, false, ◌||◌}
use lib.Dec.{leb, ltb, eqb}
use borrow.Author.Tests.{ltb-true, ltb-false, leb-true, leb-false, eqb-true, eqb-false, lt-ltb, le-ltb, le-leb, lt-leb, eq-eqb, ne_eqb}
use Rattle.scan.specs.declared.Scanner.{Scanner}
use Rattle.scan.specs.Move.{Move, Rise, Hold, Cut, pick, move, moved, next}

-- what is known of a scanner and a byte by which it makes a move
pub data Moved (s : Scanner) (b : ℕ) : Move → Type 0 where
  starts : s.count ≡ 0 → Moved s b Rise
  rises : s.value < b → Moved s b Rise
  holds : 1 ≤ s.count → b ≤ s.value → suc s.count < s.place + s.window → Moved s b Hold
  cuts : 1 ≤ s.count → b ≤ s.value → s.place + s.window ≤ suc s.count → Moved s b Cut

module _ (s : Scanner) (b : ℕ) where
  by_tests : (x y z : Bool) → eqb s.count 0 ≡ x → ltb s.value b ≡ y
      → leb (s.place + s.window) (suc s.count) ≡ z → Moved s b (pick (x || y) z)
  by_tests true y z p q r = starts (eqb-true _ _ p)
  by_tests false true z p q r = rises (ltb-true _ _ q)
  by_tests false false true p q r =
      let n = eqb-false s.count 0 p in cuts (omega arith) (ltb-false _ _ q) (leb-true _ _ r)
  by_tests false false false p q r =
      let n = eqb-false s.count 0 p in holds (omega arith) (ltb-false _ _ q) (leb-false _ _ r)

  -- every move rests on its facts
  pub facts : Moved s b (move s b)
  unfolding move
  facts = by_tests _ _ _ refl refl refl

  pub move_start : s.count ≡ 0 → move s b ≡ Rise
  unfolding move
  move_start h = rw (eq-eqb s.count 0 h)

  pub move_rise : 1 ≤ s.count → s.value < b → move s b ≡ Rise
  unfolding move
  move_rise h g = rw (ne_eqb s.count 0 (λ e. omega arith), lt-ltb s.value b g)

  pub move_hold : 1 ≤ s.count → b ≤ s.value → suc s.count < s.place + s.window → move s b ≡ Hold
  unfolding move
  move_hold h g k =
      rw (ne_eqb s.count 0 (λ e. omega arith), le-ltb s.value b g, lt-leb (s.place + s.window) (suc s.count) k)

  pub move_cut : 1 ≤ s.count → b ≤ s.value → s.place + s.window ≤ suc s.count → move s b ≡ Cut
  unfolding move
  move_cut h g k =
      rw (ne_eqb s.count 0 (λ e. omega arith), le-ltb s.value b g, le-leb (s.place + s.window) (suc s.count) k)

  pub next_by : (m : Move) → move s b ≡ m → next s b ≡ moved m s b
  unfolding next
  next_by m e = rw e
