-- A head and the counts of a quote, as numbers.
use Rattle.std.specs.Prelude.{ℕ, List, [], ◌∷◌, get_or}
use Rattle.store.specs.declared.Head.{Head}
use Rattle.admission.specs.declared.Quoted.{Quoted}

-- "a head of three numbers (window, pieces, filled)"
abbrev pub head_of : List ℕ → Head
head_of n =
    record { window = get_or n 0 0; chunks = record { 0 = get_or n 1 0 }; filled = record { 0 = get_or n 2 0 } }

-- a head's three numbers
abbrev pub head_numbers : Head → List ℕ
head_numbers h = h.window ∷ h.chunks.0 ∷ h.filled.0 ∷ []

-- "recipe length, new bytes, repeated bytes", and the "three counts of cuts: value below 20, 20 to 7E, above 7E"
abbrev pub counts_of : Quoted → List ℕ
counts_of q =
    q.recipe_length ∷ q.new_bytes ∷ q.repeated_bytes
    ∷ q.cuts.low ∷ q.cuts.printable ∷ q.cuts.high ∷ []
