-- What one byte does to a scanner.
use Rattle.std.specs.Prelude.{ℕ, suc, ◌+◌, Bool, true, false, ◌||◌, leb, ltb, eqb}
use Rattle.scan.specs.declared.Scanner.{Scanner}
use Rattle.scan.specs.Scanner.{fresh}

-- a byte becomes the largest, is only counted, or ends the chunk
pub data Move : Type 0 where
  Rise Hold Cut : Move

-- a rising byte never ends the chunk, since its own w bytes are still to come
abbrev pub pick : Bool → Bool → Move
pick true d = Rise
pick false true = Cut
pick false false = Hold

-- "place of the largest byte so far (first on a tie)": only a larger byte, or the chunk's first, moves the place;
-- "The piece ends w places after its first maximum point"
unfoldable pub move : Scanner → ℕ → Move
move s b = pick (eqb s.count 0 || ltb s.value b) (leb (s.place + s.window) (suc s.count))

-- the byte is counted, and is the largest so far
abbrev pub rise : Scanner → ℕ → Scanner
rise s b = record { window = s.window; count = suc s.count; place = suc s.count; value = b }

-- the byte is counted
abbrev pub hold : Scanner → Scanner
hold s = record { window = s.window; count = suc s.count; place = s.place; value = s.value }

-- the scanner after a move by the byte b
abbrev pub moved : Move → Scanner → ℕ → Scanner
moved Rise s b = rise s b
moved Hold s b = hold s
moved Cut s b = fresh s.window

-- the scanner after the byte b, "the next starts afresh" after a cut
unfoldable pub next : Scanner → ℕ → Scanner
next s b = moved (move s b) s b
