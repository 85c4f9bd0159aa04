-- A byte is of one of the three kinds.
use Prim.Native.Nat.{ℕ, ◌+◌, ◌≤◌, ◌<◌}
use native.Mathlib.Omega.{arith}
use native.Mathlib.Decide.{dec_lt}
use mathlib.Core.Path.{◌≡◌, refl}
use mathlib.Core.Bool.{Bool, true, false, cond}
use mathlib.Core.List.{List, ◌∷◌}
use lib.ListN.{length}
use mir.Val.{bool_byte}
use borrow.Author.Tests.{lt-ltb, le-ltb, le-leb, lt-leb}
use Rattle.chunker.specs.Chunks.{filter}
use Rattle.cut_counts.specs.CutCounts.{is_low, is_printable, is_high}
use Rattle.cut_counts.specs.internal.Counting.{one}

-- which of the three tests a value passes
record Kind (v : ℕ) (l p h : Bool) : Type 0 where
  low : is_low v ≡ l
  printable : is_printable v ≡ p
  high : is_high v ≡ h

kind_low : (v : ℕ) → v < 0x20 → Kind v true false false
kind_low v h =
    record {
      low = lt-ltb v 0x20 h;
      printable = rw (lt-leb 0x20 v h);
      high = le-ltb 0x7E v (omega arith);
    }

kind_printable : (v : ℕ) → 0x20 ≤ v → v ≤ 0x7E → Kind v false true false
kind_printable v h g =
    record {
      low = le-ltb v 0x20 h;
      printable = rw (le-leb 0x20 v h, le-leb v 0x7E g);
      high = le-ltb 0x7E v g;
    }

kind_high : (v : ℕ) → 0x7E < v → Kind v false false true
kind_high v h =
    record {
      low = le-ltb v 0x20 (omega arith);
      printable = rw (le-leb 0x20 v (omega arith), lt-leb v 0x7E h);
      high = lt-ltb 0x7E v h;
    }

-- just one
pub just_one : (v : ℕ) → one (is_low v) + one (is_printable v) + one (is_high v) ≡ 1
just_one v =
    elim (dec_lt v 0x20) [
      | yes h ↦ let k = kind_low v h in rw (k.low, k.printable, k.high)
      | no h ↦
          elim (dec_lt 0x7E v) [
            | yes g ↦ let k = kind_high v g in rw (k.low, k.printable, k.high)
            | no g ↦ let k = kind_printable v (omega arith) (omega arith) in rw (k.low, k.printable, k.high)
          ]
    ]

-- the number of a truth value
pub as_one : (t : Bool) → bool_byte t ≡ one t
as_one true = refl
as_one false = refl

-- one value more passes a test or does not
pub filter_length : (test : ℕ → Bool) (v : ℕ) (vs : List ℕ) → length (filter test (v ∷ vs)) ≡ one (test v) + length (filter test vs)
filter_length test v vs = by_test (test v)
  where
    by_test : (t : Bool) → length (cond t (v ∷ filter test vs) (filter test vs)) ≡ one t + length (filter test vs)
    by_test true = omega arith
    by_test false = omega arith
