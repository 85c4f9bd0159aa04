-- Looking at a chunk in the pool.
use Rattle.std.specs.Prelude.{ℕ, ◌+◌, ◌*◌, cond, List, [], leb, length}
use Rattle.refusal.specs.Number.{accepted}
use Rattle.directory.specs.Entry.{stride, offset_at, length_at}
use Rattle.directory.specs.declared.ChunkNumber.{ChunkNumber}
use Rattle.store.specs.declared.Head.{Head}
use Rattle.store.specs.declared.Stretch.{Stretch}
use Rattle.store.specs.Memory.{chunk_at}
use Rattle.store.specs.Grounds.{look_ground}

-- "two an entry: offset in the pool from 0, and length"; zeros where a directory has no such entry
unfoldable pub stretch_of : List ℕ → ℕ → Stretch
stretch_of directory i =
    cond (leb (length directory) (i * stride + 1))
    (record { offset = record { 0 = 0 }; length = 0 })
    (record { offset = record { 0 = offset_at directory i }; length = length_at directory i })

-- what a look shows: where the stretch starts, as a block of memory and a place in it, and its bytes
pub record Shown : Type 0 where
  pub start : ℕ × ℕ
  pub bytes : List ℕ

-- "the answer is the piece's own stretch of the pool", "A refused look shows the empty stretch": `lent` is where the pool
-- starts
unfoldable pub shown : Head → ℕ × ℕ → List ℕ → List ℕ → ChunkNumber → Shown
shown head lent pool directory number =
    cond (accepted (look_ground head pool directory number))
    (record {
      start = (lent.0, offset_at directory number.0 + lent.1);
      bytes = chunk_at pool directory number.0;
    })
    (record { start = lent; bytes = [] })
