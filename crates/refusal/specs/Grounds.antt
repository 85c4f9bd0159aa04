-- The first ground of a list that holds.
use Rattle.std.specs.Prelude.{Bool, cond, List, [], ◌∷◌, Option, None, Some}
use Rattle.refusal.specs.declared.Refusal.{Refusal}
use Rattle.refusal.specs.Number.{accepted}

-- a ground holds unless its test passes
abbrev pub unless : Bool → Refusal → Option Refusal
unless passes refusal = cond passes None (Some refusal)

-- "The first ground that holds is reported; where none holds the work is done"
abbrev pub first : List (Option Refusal) → Option Refusal
first [] = None
first (refusal ∷ grounds) = let later = first grounds in cond (accepted refusal) later refusal
