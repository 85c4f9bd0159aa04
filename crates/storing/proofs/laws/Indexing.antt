-- What storing new chunks does to the store's index.
use Prim.Native.Nat.{ℕ, ◌+◌, ◌≤◌}
use native.Mathlib.Omega.{arith}
use mathlib.Core.Path.{◌≡◌}
use mathlib.Core.Bool.{true}
use mathlib.Core.List.{List, ◌++◌}
use lib.ListN.{length, length-append}
use Rattle.gear.specs.Gear.{chains}
use Rattle.directory.specs.Entry.{entries}
use Rattle.store.specs.declared.Head.{Head}
use Rattle.store.specs.Limits.{directory_limit}
use Rattle.store.specs.Memory.{contents}
use Rattle.store.proofs.laws.Memory.{contents_length}
use Rattle.index.specs.Grounds.{meets}
use Rattle.index.proofs.laws.Entering.{enter_all_length}
use Rattle.index.proofs.theorems.Entering.{entered_meets}
use Rattle.storing.specs.Storing.{index_with}

-- it keeps its length
pub adding_index_length : (head : Head) (index : List ℕ) (new : List (List ℕ))
    → length (index_with head index new) ≡ length index
adding_index_length head index new = enter_all_length index head.chunks.0 new

-- it meets the new chunks too, where it met those that the store held
pub adding_meets : (head : Head) (pool directory index : List ℕ) (new : List (List ℕ))
    → meets index (contents pool directory head.chunks.0) ≡ true → length index ≡ chains + entries directory
    → length directory ≤ directory_limit → head.chunks.0 + length new ≤ entries directory
    → meets (index_with head index new) (contents pool directory head.chunks.0 ++ new) ≡ true
adding_meets head pool directory index new h sized few numbers =
    let held = contents pool directory head.chunks.0 in
    let count = contents_length pool directory 0 head.chunks.0 in
    let both = length-append held new in
    rw count at (entered_meets index held new h (omega arith) (omega arith))
