-- What takes leave is accepted: a fresh index of a fresh store, and an accepted index that new chunks are entered into.
use Prim.Native.Nat.{ℕ, ◌+◌, ◌≤◌}
use native.Mathlib.Omega.{arith}
use mathlib.Core.Path.{◌≡◌}
use mathlib.Core.Bool.{true}
use mathlib.Core.List.{List, [], ◌++◌}
use lib.ListN.{length, length-append}
use Rattle.gear.specs.Gear.{chains}
use Rattle.index.specs.Index.{fresh_index, enter_all}
use Rattle.index.specs.Ordered.{no_number}
use Rattle.index.specs.Grounds.{meets}
use Rattle.index.proofs.laws.Accepting.{meets_met, met_meets}
use Rattle.index.proofs.laws.Entering.{fresh_met, enter_all_met}

-- "A fresh index is all FFFFFFFF"
pub fresh_meets : (entries : ℕ) → meets (fresh_index entries) [] ≡ true
fresh_meets entries = met_meets [] (fresh_index entries) (fresh_met entries)

-- "a take enters each new piece at the front of its chain"
pub entered_meets : (index : List ℕ) (held cs : List (List ℕ)) → meets index held ≡ true
    → chains + length (held ++ cs) ≤ length index → length (held ++ cs) ≤ no_number
    → meets (enter_all index (length held) cs) (held ++ cs) ≡ true
entered_meets index held cs h room few =
    let l = length-append held cs in
    met_meets (held ++ cs) (enter_all index (length held) cs)
    (enter_all_met index held cs (omega arith) (omega arith) (meets_met held index h))
