-- The keys by which the bytes of a window are compared.
use Rattle.std.specs.Prelude.{ℕ, ◌+◌, ◌-◌, ◌*◌}

-- of two bytes the larger has the smaller key, and of two equal bytes the first; a place is below 64
abbrev pub key_of : ℕ → ℕ → ℕ
key_of byte place = (255 - byte) * 64 + place

-- larger than every key
abbrev pub key_limit : ℕ
key_limit = 16384
