-- The pass in order may be tried first: it accepts only what the chains do, and it accepts what takes leave.
use Prim.Native.Nat.{ℕ, ◌+◌, ◌≤◌}
use native.Mathlib.Omega.{arith}
use mathlib.Core.Path.{◌≡◌}
use mathlib.Core.Bool.{true}
use mathlib.Core.List.{List, []}
use lib.ListN.{length, length-replicate}
use Rattle.gear.specs.Gear.{chains}
use Rattle.index.specs.Index.{none, fresh_index, enter_all}
use Rattle.index.specs.Ordered.{no_number, ordered}
use Rattle.index.specs.Grounds.{meets}
use Rattle.index.proofs.laws.Accepting.{met_meets}
use Rattle.index.proofs.laws.Ordering.{ordered_met, fresh_ordered, enter_all_ordered}

-- it reports no index as accepted that ground 12 refuses
pub ordered_meets : (index : List ℕ) (held : List (List ℕ)) → ordered index held ≡ true
    → chains + length held ≤ length index → length held ≤ no_number → meets index held ≡ true
ordered_meets index held h room few = met_meets held index (ordered_met index held room few h)

-- and it is not idle
pub taken_ordered : (entries : ℕ) (held : List (List ℕ)) → length held ≤ entries → length held ≤ no_number
    → ordered (enter_all (fresh_index entries) 0 held) held ≡ true
unfolding fresh_index
taken_ordered entries held room few =
    enter_all_ordered (fresh_index entries) [] held (rw (length-replicate (chains + entries) none) (omega arith)) (omega arith)
    (fresh_ordered entries)
