-- The search by an accepted index gives the plain search's answer.
use Prim.Native.Nat.{ℕ}
use mathlib.Core.Path.{◌≡◌}
use mathlib.Core.Bool.{true}
use mathlib.Core.List.{List}
use Rattle.store.specs.Contents.{number}
use Rattle.index.specs.Along.{number_found}
use Rattle.index.specs.Grounds.{meets}
use Rattle.index.proofs.laws.Accepting.{meets_met}
use Rattle.index.proofs.laws.Searching.{search_number}

-- "search by any accepted index gives the plain search's answer, the lowest number or none"
pub searched : (index : List ℕ) (held : List (List ℕ)) (c : List ℕ) → meets index held ≡ true
    → number_found index held c ≡ number held c
searched index held c h = search_number index held c (meets_met held index h)
