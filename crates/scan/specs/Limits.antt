-- The widest window, and the longest chunk.
use Rattle.std.specs.Prelude.{ℕ, ◌+◌, ◌*◌}

-- "The widest window in any sold line is 64. Make that the limit in ground 1"
abbrev pub window_limit : ℕ
window_limit = 64

-- "so the longest piece is 16,385 bytes"
abbrev pub chunk_limit : ℕ
chunk_limit = 256 * window_limit + 1
