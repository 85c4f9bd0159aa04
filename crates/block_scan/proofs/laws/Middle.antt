-- A scan in the middle of a window passes bytes that are not larger than the largest so far.
use Prim.Native.Nat.{ℕ, ◌+◌, ◌≤◌, ◌<◌}
use native.Mathlib.Omega.{arith}
use native.Mathlib.Decide.{dec_lt}
use mathlib.Core.Path.{◌≡◌, refl}
use mathlib.Core.List.{List}
use lib.ListN.{length, get_or}
use Rattle.blocks.specs.internal.Largest.{AtMost}
use Rattle.blocks.proofs.laws.Largest.{at_one}
use Rattle.scan.specs.declared.run.Run.{Run}
use Rattle.scan.specs.internal.Run.{rest}
use Rattle.scan.proofs.laws.run.Underway.{Underway, passes_to, byte_rises, cuts_to}
use Rattle.block_scan.specs.internal.Advance.{CutAtDeadline}

-- the next byte is not larger either
pub passed_more : (part : List ℕ) (from at value : ℕ) → AtMost part from at value → get_or part at 0 ≤ value
    → AtMost part from (at + 1) value
passed_more part from at value passed not_larger =
    record {
      bound = λ q l e.
          elim (dec_lt q at) [
            | yes c ↦ passed.bound q l c
            | no c ↦ at_one (λ x. get_or part x 0 ≤ value) at q not_larger (omega arith) e
          ];
    }

-- the bytes of a run up to index `at` are not larger than its value
module _ (r : Run) (at : ℕ) (on : r.at ≤ at) (passed : AtMost r.part.now r.at at r.value) where
  start : Underway r.part.now r.window r.base r.deadline r.value r.at (rest r)
  start = record { order = r.order; gives = refl }

  pub passed_to : at ≤ length r.part.now → at < r.deadline
      → Underway r.part.now r.window r.base r.deadline r.value at (rest r)
  passed_to inside early = passes_to start at on inside early passed.bound

  -- the next byte is larger
  pub passed_rises : at < length r.part.now → at < r.deadline → r.value < get_or r.part.now at 0 → get_or r.part.now at 0 < 256
      → Underway r.part.now r.window r.base (at + 1 + r.window) (get_or r.part.now at 0) (at + 1) (rest r)
  passed_rises inside early larger byte = byte_rises (passed_to (omega arith) early) inside larger byte

  -- no byte was larger up to the deadline
  pub passed_cuts : at ≡ r.deadline → at ≤ length r.part.now → CutAtDeadline r
  passed_cuts end inside = cuts_to start r.deadline refl (omega arith) (λ q l h. passed.bound q l (omega arith))
