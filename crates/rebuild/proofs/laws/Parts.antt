-- An output that is written part by part.
use Prim.Native.Nat.{ℕ, ◌+◌, ◌≤◌}
use native.Mathlib.Omega.{arith}
use native.Mathlib.Nat.{add-zero, zero-add}
use mathlib.Core.Path.{◌≡◌, refl, sym, ◌∙◌}
use mathlib.Core.List.{List, [], ◌++◌, append-nil}
use lib.ListN.{length, take, drop, length-append, take-append-drop}
use lib.Seq.{length-take-le, drop-length}
use Rattle.copying.specs.Written.{written}
use Rattle.copying.proofs.laws.Written.{written_length, written_over}

-- what is left to write, from `at` on, makes of the output all the bytes; they fill it
pub record Left (all now : List ℕ) (at : ℕ) (rest : List ℕ) : Type 0 where
  pub same_length : length now ≡ length all
  pub room : at + length rest ≤ length now
  pub gives : written now at rest ≡ all

-- nothing is written yet
pub all_left : {l all : List ℕ} → length l ≡ length all → Left all l 0 all
all_left {l} {all} h = record {
  same_length = h;
  room = omega arith;
  gives = rw (zero-add, ← h, drop-length) (append-nil all);
}

module _ {all now : List ℕ} {at : ℕ} where
  -- a part of it is written with more bytes after it, over which the rest will be written
  pub part_over : (bytes rest : List ℕ) (n : ℕ) → n ≤ length bytes → length bytes ≤ n + length rest
      → Left all now at (take n bytes ++ rest) → Left all (written now at bytes) (at + n) rest
  part_over bytes rest n few covered l =
      let whole = length-append (take n bytes) rest in
      let first = length-take-le n bytes few in
      let kept = written_length now at bytes (omega arith) in
      record {
        same_length = kept ∙ l.same_length;
        room = omega arith;
        gives = written_over now at bytes rest n (omega arith) few covered ∙ l.gives;
      }

  -- nothing is left
  pub none_left : Left all now at [] → now ≡ all
  none_left l = sym (rw add-zero (take-append-drop at now)) ∙ l.gives
