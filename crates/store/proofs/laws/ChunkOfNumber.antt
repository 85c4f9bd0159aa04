-- The number of a chunk that a store holds leads back to the chunk.
use Prim.Native.Nat.{ℕ, zero, suc, ◌+◌, ◌<◌}
use native.Mathlib.Omega.{arith}
use mathlib.Core.Path.{◌≡◌, ap, sym, ◌∙◌}
use mathlib.Core.Bool.{true}
use mathlib.Core.List.{List, []}
use lib.ListN.{get_or}
use Rattle.store.specs.Memory.{chunk_at, chunks_from, contents}
use Rattle.store.specs.Contents.{number, has}
use Rattle.store.proofs.laws.contents.Numbering.{number_below, chunk_at_number}
use Rattle.store.proofs.laws.Memory.{contents_length}

-- of the n entries from entry i on, the one at place k is entry q
pub entry_at : (pool directory : List ℕ) (i n k q : ℕ) → i + k ≡ q → k < n
    → get_or (chunks_from pool directory i n) k [] ≡ chunk_at pool directory q
unfolding chunks_from
entry_at pool directory i zero k q e l = absurd (omega arith)
entry_at pool directory i (suc n) zero q e l = ap (chunk_at pool directory) (omega arith)
entry_at pool directory i (suc n) (suc k) q e l = entry_at pool directory (suc i) n k q (omega arith) (omega arith)

module _ (pool directory : List ℕ) (n : ℕ) (c : List ℕ) (h : has (contents pool directory n) c ≡ true) where
  -- the number is below the count
  pub number_counted : number (contents pool directory n) c < n
  number_counted = rw (contents_length pool directory 0 n) at (number_below (contents pool directory n) c h)

  -- and its stretch of the pool is the chunk
  pub chunk_of_number : chunk_at pool directory (number (contents pool directory n) c) ≡ c
  chunk_of_number =
      let q = number (contents pool directory n) c in
      sym (entry_at pool directory 0 n q q (omega arith) number_counted) ∙ chunk_at_number (contents pool directory n) c h
