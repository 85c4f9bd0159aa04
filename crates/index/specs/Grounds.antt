-- The grounds 11 and 12: "both after 5 and before 6, in quotes and takes".
use Rattle.std.specs.Prelude.{ℕ, ◌+◌, Bool, List, eqb, length, Option}
use Rattle.refusal.specs.Grounds.{unless}
use Rattle.refusal.specs.declared.Refusal.{Refusal}
use Rattle.refusal.specs.declared.Refusal.TheVariants.{IndexLength, Index}
use Rattle.gear.specs.Gear.{chains}
use Rattle.directory.specs.Entry.{entries}
use Rattle.index.specs.Along.{along_all}

-- "11 if the index has another length" does not hold
unfoldable pub length_allowed : List ℕ → List ℕ → Bool
length_allowed directory index = eqb (length index) (chains + entries directory)

-- ground 11
abbrev pub index_length_ground : List ℕ → List ℕ → Option Refusal
index_length_ground directory index = unless (length_allowed directory index) IndexLength

-- "12 if its chains do not meet every piece just once under its own sum, and nothing else" does not hold: all chains end, and
-- take as many steps as there are chunks. That this is `Meets`: theorems/EachChunkOnce
unfoldable pub meets : List ℕ → List (List ℕ) → Bool
meets index held = eqb (along_all index held chains) 1

-- ground 12
abbrev pub index_ground : List ℕ → List (List ℕ) → Option Refusal
index_ground index held = unless (meets index held) Index
