-- The directory: "a lent directory of 32-bit numbers, two an entry: offset in the pool from 0, and length".
use Rattle.std.specs.Prelude.{ℕ, ◌+◌, ◌*◌, ◌/◌, List, length, slice_index, slice_set}

-- the numbers of an entry
abbrev pub stride : ℕ
stride = 2

-- where entry i starts in the pool
abbrev pub offset_at : List ℕ → ℕ → ℕ
offset_at directory i = slice_index directory (i * stride)

-- how many bytes it has
abbrev pub length_at : List ℕ → ℕ → ℕ
length_at directory i = slice_index directory (i * stride + 1)

-- the entries that a directory has room for
abbrev pub entries : List ℕ → ℕ
entries directory = length directory / stride

-- a directory with entry i written
abbrev pub entered : List ℕ → ℕ → ℕ → ℕ → List ℕ
entered directory i offset size = slice_set (slice_set directory (i * stride) offset) (i * stride + 1) size
