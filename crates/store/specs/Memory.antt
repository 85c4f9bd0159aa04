-- The chunks that pool and directory hold.
use Rattle.std.specs.Prelude.{ℕ, zero, suc, List, [], ◌∷◌, take, drop}
use Rattle.directory.specs.Entry.{offset_at, length_at}

-- the piece's own stretch of the pool
abbrev pub chunk_at : List ℕ → List ℕ → ℕ → List ℕ
chunk_at pool directory i = take (length_at directory i) (drop (offset_at directory i) pool)

-- the chunks of the n entries from entry i on
unfoldable pub chunks_from : List ℕ → List ℕ → ℕ → ℕ → List (List ℕ)
chunks_from pool directory i zero = []
chunks_from pool directory i (suc n) = chunk_at pool directory i ∷ chunks_from pool directory (suc i) n

-- the first n chunks of a store, in the order of their numbers
abbrev pub contents : List ℕ → List ℕ → ℕ → List (List ℕ)
contents pool directory n = chunks_from pool directory 0 n
