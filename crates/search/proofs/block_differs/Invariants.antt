-- `search::block_differs` meets its contract: the flag is set where two bytes differ, and only there.
use Prim.Native.Nat.{◌+◌}
use mathlib.Core.Path.{◌≡◌}
use mathlib.Core.Bool.{true, false}
use Rattle.search.specs.internal.Comparing.{Differs, Agree}
use Rattle.search.proofs.block_differs.Given as goal

abbrev pub invariant-loop-index : goal.invariant-loop-index
invariant-loop-index l =
    (l.differs ≡ true → Differs l.bytes l.from l.chunk (l.at + 16))
    × (l.differs ≡ false → Agree l.bytes l.from l.chunk l.at (l.at + l.index))
