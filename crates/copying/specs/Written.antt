-- Writing to lent memory: "Memory beyond what is written stays unchanged".
use Rattle.std.specs.Prelude.{ℕ, ◌+◌, List, ◌++◌, length, take, drop}

-- a list with bytes written at a place
abbrev pub written : List ℕ → ℕ → List ℕ → List ℕ
written memory at bytes = take at memory ++ (bytes ++ drop (at + length bytes) memory)
