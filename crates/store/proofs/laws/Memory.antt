-- The chunks of entries that follow one another.
use Prim.Native.Nat.{ℕ, zero, suc, ◌+◌, ◌≤◌, ◌<◌}
use native.Mathlib.Omega.{arith}
use mathlib.Core.Path.{◌≡◌, refl, ap, ap₂}
use mathlib.Core.List.{List, [], ◌∷◌, ◌++◌}
use lib.ListN.{length, length-drop, get_or}
use lib.Seq.{length-take-le, get_or-take, get_or-drop}
use Rattle.directory.specs.Entry.{offset_at, length_at}
use Rattle.store.specs.Memory.{chunk_at, chunks_from}

-- chunks that are the same one by one
pub chunks_same : (pool directory pool' directory' : List ℕ) (i n : ℕ)
    → ((q : ℕ) → i ≤ q → q < i + n → chunk_at pool' directory' q ≡ chunk_at pool directory q)
    → chunks_from pool' directory' i n ≡ chunks_from pool directory i n
unfolding chunks_from
chunks_same pool directory pool' directory' i zero e = refl
chunks_same pool directory pool' directory' i (suc n) e =
    ap₂ ◌∷◌ (e i (omega arith) (omega arith))
    (chunks_same pool directory pool' directory' (suc i) n (λ q a b. e q (omega arith) (omega arith)))

-- one entry more is one chunk more, at the end
pub chunks_last : (pool directory : List ℕ) (i n q : ℕ) → i + n ≡ q
    → chunks_from pool directory i (suc n) ≡ chunks_from pool directory i n ++ (chunk_at pool directory q ∷ [])
unfolding chunks_from
chunks_last pool directory i zero q e = ap (λ p. chunk_at pool directory p ∷ []) (omega arith)
chunks_last pool directory i (suc n) q e =
    ap (λ (l : List (List ℕ)). chunk_at pool directory i ∷ l) (chunks_last pool directory (suc i) n q (omega arith))

-- as many chunks as entries
pub contents_length : (pool directory : List ℕ) (i n : ℕ) → length (chunks_from pool directory i n) ≡ n
unfolding chunks_from
contents_length pool directory i zero = refl
contents_length pool directory i (suc n) = ap suc (contents_length pool directory (suc i) n)

-- an entry whose bytes lie in the pool
module _ (pool directory : List ℕ) (i : ℕ) (inside : offset_at directory i + length_at directory i ≤ length pool) where
  pub entry_length : length (chunk_at pool directory i) ≡ length_at directory i
  entry_length = length-take-le _ _ (omega (arith, length-drop (offset_at directory i) pool))

  pub entry_byte : (k : ℕ) → k < length_at directory i
      → get_or (chunk_at pool directory i) k 0 ≡ get_or pool (offset_at directory i + k) 0
  entry_byte k h = rw (get_or-take, get_or-drop)
