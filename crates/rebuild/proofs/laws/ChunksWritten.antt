-- A recipe's chunks that are written to the output one after another.
use Prim.Native.Nat.{ℕ, ◌+◌, ◌≤◌, ◌<◌}
use native.Mathlib.Omega.{arith}
use mathlib.Core.Path.{◌≡◌, ap, ◌∙◌}
use mathlib.Core.List.{List, ◌++◌}
use lib.ListN.{length, get_or, take, drop, length-append, length-take}
use Rattle.store.specs.Memory.{chunk_at}
use Rattle.rebuild.specs.Rebuilding.{rebuilt_bytes}
use Rattle.copying.specs.internal.Covered.{Covered}
use Rattle.rebuild.proofs.laws.Parts.{Left, all_left, part_over, none_left}
use Rattle.rebuild.proofs.laws.Recipes.{Counted, none_counted, one_counted, all_counted, one_rebuilt, none_rebuilt}

-- the chunks of the numbers before place i are written, and those of the others are to follow from `at` on
pub record Underway (pool directory recipe now : List ℕ) (at i : ℕ) : Type 0 where
  pub counted : Counted pool directory recipe i at
  pub left : Left (rebuilt_bytes pool directory recipe) now at (rebuilt_bytes pool directory (drop i recipe))

-- no chunk is written yet
pub none_written : {pool directory recipe output : List ℕ} → length output ≡ length (rebuilt_bytes pool directory recipe)
    → Underway pool directory recipe output 0 0
none_written h = record { counted = none_counted; left = all_left h }

module _ {pool directory recipe now : List ℕ} {at i : ℕ} (u : Underway pool directory recipe now at i) where
  module _ (h : i < length recipe) (chunk : List ℕ) (e : chunk ≡ chunk_at pool directory (get_or recipe i 0)) where
    -- the next chunk, then the others
    next : rebuilt_bytes pool directory (drop i recipe) ≡ chunk ++ rebuilt_bytes pool directory (drop (i + 1) recipe)
    next = rw e (one_rebuilt pool directory recipe i h)

    -- its bytes and those of the others
    lengths : length (rebuilt_bytes pool directory (drop i recipe))
        ≡ length chunk + length (rebuilt_bytes pool directory (drop (i + 1) recipe))
    lengths = ap length next ∙ length-append chunk (rebuilt_bytes pool directory (drop (i + 1) recipe))

    -- it ends within the job
    pub next_fits : at + length chunk ≤ length now
    next_fits = omega (arith, lengths, u.left.room)

    -- once it is written, with any bytes after it, the others are left
    pub one_written : (now' : List ℕ) → Covered now at (length now) chunk now'
        → Underway pool directory recipe now' (at + length chunk) (i + 1)
    one_written now' w =
        let rest = rebuilt_bytes pool directory (drop (i + 1) recipe) in
        let few : length chunk ≤ length w.bytes =
        omega (arith, ap length w.begins, length-take (length chunk) w.bytes) in
        let left : Left (rebuilt_bytes pool directory recipe) now at (take (length chunk) w.bytes ++ rest) =
        rw (w.begins, ← next) u.left in
        record {
          counted = one_counted u.counted (length chunk) h (ap length e);
          left = rw w.gives
              (part_over w.bytes rest (length chunk) few (omega (arith, lengths, u.counted.gives, u.left.same_length, w.within)) left);
        }

  -- with no number left all are written
  pub all_written : length recipe ≤ i → now ≡ rebuilt_bytes pool directory recipe
  all_written h = none_left (rw (none_rebuilt pool directory recipe i h) at u.left)
