-- The link tariff.
use Rattle.std.specs.Prelude.{ℕ, ◌+◌, ◌*◌, ◌-◌, ◌/◌, ℤ, pos, ◌-ℤ◌}

-- "recipe numbers still weigh 2 bytes each"
abbrev pub number_bytes : ℕ
number_bytes = 2

-- "travel in packets of 64 such bytes"
abbrev pub packet_bytes : ℕ
packet_bytes = 64

-- "charged at 72 bytes each"
abbrev pub packet_charge : ℕ
packet_charge = 72

-- "in packets of 64 such bytes, the last perhaps part filled": the quotient, rounded up
unfoldable pub packets : ℕ → ℕ
packets numbers = (number_bytes * numbers + (packet_bytes - 1)) / packet_bytes

-- "Saving becomes job length − new bytes − 72 × packets"
unfoldable pub saving_of : ℕ → ℕ → ℕ → ℤ
saving_of job_length new_bytes numbers = pos job_length -ℤ pos new_bytes -ℤ pos (packet_charge * packets numbers)
