-- New chunks go into pool, directory and index one after another.
use Prim.Native.Nat.{ℕ, suc, ◌+◌, ◌*◌, ◌≤◌, ◌<◌}
use native.Mathlib.Omega.{arith}
use native.Mathlib.Nat.{add-zero}
use native.Mathlib.Numerals.{add-one}
use mathlib.Core.Path.{◌≡◌, refl, ap, ◌∙◌}
use mathlib.Core.List.{List, [], ◌∷◌, append_assoc}
use lib.ListN.{length, take, length-append, take-append-drop}
use lib.Seq.{sets-eq}
use Rattle.chunker.specs.Chunks.{total}
use Rattle.chunker.specs.Splitting.{joined}
use Rattle.directory.specs.Entry.{stride, entered}
use Rattle.copying.specs.Written.{written}
use Rattle.copying.proofs.laws.Written.{written_twice}
use Rattle.store.specs.declared.Head.{Head}
use Rattle.index.specs.Index.{enter_all}
use Rattle.storing.specs.Storing.{pool_with, entries_of, directory_with, index_with}
use Rattle.storing.proofs.laws.Writing.{head_after, pool_after, directory_after, index_after}

-- chunks have as many bytes as they have laid end to end
pub total_joined : (cs : List (List ℕ)) → total cs ≡ length (joined cs)
total_joined [] = refl
total_joined (c ∷ cs) = rw (length-append c (joined cs), total_joined cs)

-- two numbers for each chunk
pub entries_length : (o : ℕ) (cs : List (List ℕ)) → length (entries_of o cs) ≡ length cs * stride
entries_length o [] = refl
entries_length o (c ∷ cs) = omega (arith, entries_length (o + length c) cs)

-- a write of nothing
written_nothing : (l : List ℕ) (at : ℕ) → written l at [] ≡ l
written_nothing l at = rw (add-zero at) (take-append-drop at l)

-- an entry is a write of two numbers
entered_written : (directory : List ℕ) (i o l : ℕ) → i * stride + 1 < length directory
    → entered directory i o l ≡ written directory (i * stride) (o ∷ l ∷ [])
entered_written directory i o l h =
    let at = i * stride in
    let two : at + 1 ≡ suc at = omega arith in
    rw two (sets-eq (o ∷ l ∷ []) directory at (omega arith)) ∙ append_assoc (take at directory) (o ∷ l ∷ []) _

module _ (head : Head) where
  -- no new chunk leaves the pool
  pub pool_none : (pool : List ℕ) → pool_with head pool [] ≡ pool
  pool_none pool = written_nothing pool head.filled.0

  -- the directory
  pub directory_none : (directory : List ℕ) → directory_with head directory [] ≡ directory
  directory_none directory = written_nothing directory (head.chunks.0 * stride)

  -- and the index
  pub index_none : (index : List ℕ) → index_with head index [] ≡ index
  unfolding enter_all
  index_none index = refl

  -- the first chunk goes into the pool, then the others
  pub pool_step : (pool c : List ℕ) (cs : List (List ℕ)) → head.filled.0 + length c ≤ length pool
      → pool_with (head_after head (length c)) (pool_after head pool c) cs ≡ pool_with head pool (c ∷ cs)
  pool_step pool c cs h = written_twice pool head.filled.0 c (joined cs) h

  -- its entry into the directory, then the others
  pub directory_step : (directory c : List ℕ) (cs : List (List ℕ)) → head.chunks.0 * stride + 1 < length directory
      → directory_with (head_after head (length c)) (directory_after head directory c) cs
      ≡ directory_with head directory (c ∷ cs)
  directory_step directory c cs h =
      let at = head.chunks.0 * stride in
      let o = head.filled.0 in
      let next : (head.chunks.0 + 1) * stride ≡ at + 2 = omega arith in
      rw (entered_written directory head.chunks.0 o (length c) h, next)
      (written_twice directory at (o ∷ length c ∷ []) (entries_of (o + length c) cs) (omega arith))

  -- and its number to the front of its chain, then the others
  pub index_step : (index c : List ℕ) (cs : List (List ℕ))
      → index_with (head_after head (length c)) (index_after head index c) cs ≡ index_with head index (c ∷ cs)
  unfolding enter_all
  index_step index c cs = ap (λ n. enter_all (index_after head index c) n cs) (add-one head.chunks.0)
