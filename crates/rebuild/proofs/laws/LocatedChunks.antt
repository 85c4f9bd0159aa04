-- The chunks of numbers that have their entries in the directory and their bytes in the pool.
use Prim.Native.Nat.{ℕ, ◌<◌}
use mathlib.Core.Path.{◌≡◌, sym}
use mathlib.Core.List.{List}
use lib.ListN.{length, get_or}
use Rattle.directory.specs.Entry.{length_at}
use Rattle.store.specs.Memory.{chunk_at}
use Rattle.store.proofs.laws.Memory.{entry_length}
use Rattle.rebuild.specs.internal.Located.{Located}

-- the entry of such a number has the chunk's length
pub located_length : {pool directory recipe : List ℕ} → Located pool directory recipe → (i : ℕ) → i < length recipe
    → length_at directory (get_or recipe i 0) ≡ length (chunk_at pool directory (get_or recipe i 0))
located_length {pool} {directory} {recipe} f i h = sym (entry_length pool directory (get_or recipe i 0) (f.inside i h))
