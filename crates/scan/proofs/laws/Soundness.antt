-- A fresh scanner is sound, and bytes keep a scanner sound.
use Prim.Native.Nat.{ℕ, ◌≤◌, ◌<◌}
use native.Mathlib.Omega.{arith}
use native.Mathlib.Nat.{mul-le-mul_right}
use Rattle.scan.specs.declared.Scanner.{Scanner}
use Rattle.scan.specs.Limits.{window_limit}
use Rattle.scan.specs.Scanner.{fresh}
use Rattle.scan.specs.Move.{Move, moved, next}
use Rattle.scan.specs.internal.Sound.{Sound}
use Rattle.scan.proofs.laws.Moves.{Moved, starts, rises, holds, cuts, facts}

-- a fresh scanner of an allowed window is sound
pub fresh_sound : (w : ℕ) → 1 ≤ w → w ≤ window_limit → Sound (fresh w)
fresh_sound w l h = omega arith

module _ (s : Scanner) (b : ℕ) (small : b < 256) (h : Sound s) where
  -- each move keeps the facts
  by_move : {m : Move} → Moved s b m → Sound (moved m s b)
  by_move (starts e) = omega arith
  by_move (rises l) = omega (arith, mul-le-mul_right s.window l)
  by_move (holds c l k) = omega arith
  by_move (cuts c l k) = omega arith

  -- a byte keeps a scanner sound
  pub next_sound : Sound (next s b)
  unfolding next
  next_sound = by_move (facts s b)
