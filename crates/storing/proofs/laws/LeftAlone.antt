-- What storing new chunks does not write.
use Prim.Native.Nat.{ℕ, ◌+◌, ◌*◌, ◌≤◌, ◌<◌}
use native.Mathlib.Omega.{arith}
use mathlib.Core.Path.{◌≡◌, ap, ◌∙◌}
use mathlib.Core.Logic.{inl, inr}
use mathlib.Core.List.{List, ◌++◌, append_assoc}
use lib.ListN.{length, take, drop, length-append}
use lib.Seq.{take_at, drop_at, length-take-le}
use Rattle.gear.specs.Gear.{chains}
use Rattle.chunker.specs.Chunks.{total}
use Rattle.chunker.specs.Splitting.{joined}
use Rattle.directory.specs.Entry.{stride, entries}
use Rattle.copying.specs.Written.{written}
use Rattle.store.specs.declared.Head.{Head}
use Rattle.index.specs.Index.{link_at}
use Rattle.index.proofs.laws.Entering.{enter_all_kept}
use Rattle.storing.specs.Storing.{pool_with, entries_of, directory_with, index_with}
use Rattle.storing.proofs.laws.Steps.{total_joined, entries_length}

-- pool, directory and links are as before, before and after the stretches of the new chunks
pub record LeftAlone (head : Head) (pool directory index : List ℕ) (new : List (List ℕ)) : Type 0 where
  pub bytes_before : take head.filled.0 (pool_with head pool new) ≡ take head.filled.0 pool
  pub bytes_after : drop (head.filled.0 + total new) (pool_with head pool new) ≡ drop (head.filled.0 + total new) pool
  pub numbers_before : take (head.chunks.0 * stride) (directory_with head directory new)
      ≡ take (head.chunks.0 * stride) directory
  pub numbers_after : drop ((head.chunks.0 + length new) * stride) (directory_with head directory new)
      ≡ drop ((head.chunks.0 + length new) * stride) directory
  pub links_before : (n : ℕ) → n < head.chunks.0 → link_at (index_with head index new) n ≡ link_at index n
  pub links_after : (n : ℕ) → head.chunks.0 + length new ≤ n → link_at (index_with head index new) n ≡ link_at index n

module _ (l : List ℕ) (at : ℕ) (bytes : List ℕ) (inside : at + length bytes ≤ length l) where
  -- a write leaves what is before it
  before_written : take at (written l at bytes) ≡ take at l
  before_written = take_at (take at l) _ at (length-take-le at l (omega arith))

  -- and what is after it
  after_written : (end : ℕ) → end ≡ at + length bytes → drop end (written l at bytes) ≡ drop end l
  after_written end e =
      let start = length-take-le at l (omega arith) in
      let size : length (take at l ++ bytes) ≡ at + length bytes = length-append (take at l) bytes
      ∙ ap (λ k. k + length bytes) start in
      rw (e, ← append_assoc (take at l) bytes (drop (at + length bytes) l))
      (drop_at (take at l ++ bytes) (drop (at + length bytes) l) (at + length bytes) size)

-- storing writes only the stretches of the new chunks, and heads of chains
pub left_alone : (head : Head) (pool directory index : List ℕ) (new : List (List ℕ))
    → head.filled.0 + total new ≤ length pool → head.chunks.0 + length new ≤ entries directory
    → LeftAlone head pool directory index new
left_alone head pool directory index new bytes numbers =
    let o = head.filled.0 in
    let at = head.chunks.0 * stride in
    let size = total_joined new in
    let count = entries_length o new in
    record {
      bytes_before = before_written pool o (joined new) (omega arith);
      bytes_after = after_written pool o (joined new) (omega arith) (o + total new) (omega arith);
      numbers_before = before_written directory at (entries_of o new) (omega arith);
      numbers_after = after_written directory at (entries_of o new) (omega arith)
          ((head.chunks.0 + length new) * stride) (omega arith);
      links_before = λ n l. enter_all_kept index head.chunks.0 new (chains + n) (omega arith) (inl (omega arith));
      links_after = λ n l. enter_all_kept index head.chunks.0 new (chains + n) (omega arith) (inr (omega arith));
    }
