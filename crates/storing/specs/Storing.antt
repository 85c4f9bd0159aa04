-- How the new chunks of a job go into pool, directory and index.
use Rattle.std.specs.Prelude.{ℕ, ◌+◌, ◌*◌, List, [], ◌∷◌, length}
use Rattle.chunker.specs.Chunks.{total}
use Rattle.chunker.specs.Splitting.{joined}
use Rattle.directory.specs.Entry.{stride}
use Rattle.copying.specs.Written.{written}
use Rattle.store.specs.declared.Head.{Head}
use Rattle.index.specs.Index.{enter_all}

-- "Any other is new, copied to the pool at filled": one after another
abbrev pub pool_with : Head → List ℕ → List (List ℕ) → List ℕ
pool_with head pool new = written pool head.filled.0 (joined new)

-- the entries of chunks that follow one another in the pool: "offset in the pool from 0, and length"
abbrev pub entries_of : ℕ → List (List ℕ) → List ℕ
entries_of offset [] = []
entries_of offset (c ∷ cs) = offset ∷ length c ∷ entries_of (offset + length c) cs

-- ".. and entered with the next number"
abbrev pub directory_with : Head → List ℕ → List (List ℕ) → List ℕ
directory_with head directory new = written directory (head.chunks.0 * stride) (entries_of head.filled.0 new)

-- "a take enters each new piece at the front of its chain"
abbrev pub index_with : Head → List ℕ → List (List ℕ) → List ℕ
index_with head index new = enter_all index head.chunks.0 new

-- the new head
abbrev pub head_with : Head → List (List ℕ) → Head
head_with head new =
    record {
      window = head.window;
      chunks = record { 0 = head.chunks.0 + length new };
      filled = record { 0 = head.filled.0 + total new };
    }

-- pool, directory and index
pub record Stored : Type 0 where
  pub pool : List ℕ
  pub directory : List ℕ
  pub index : List ℕ

-- with new chunks
unfoldable pub stored : Head → List ℕ → List ℕ → List ℕ → List (List ℕ) → Stored
stored head pool directory index new =
    record {
      pool = pool_with head pool new;
      directory = directory_with head directory new;
      index = index_with head index new;
    }
