-- What is left of a sum without the bytes that come before.
use Rattle.std.specs.Prelude.{ℕ, ◌+◌, ◌-◌, ◌*◌, ◌%◌, ◌^◌}

-- the sum of the last `size` bytes, from that of all of them and that of those before
unfoldable pub after_sum : ℕ → ℕ → ℕ → ℕ
after_sum whole before size = (whole + 2 ^ 32 - before * 2 ^ size % 2 ^ 32) % 2 ^ 32
