-- `search::stands_at` meets its contract: each turn passes a block that agrees.
use Prim.Native.Nat.{◌*◌}
use Rattle.search.specs.internal.Comparing.{Agree}
use Rattle.search.proofs.stands_at.Given as goal

abbrev pub invariant-loop-block : goal.invariant-loop-block
invariant-loop-block l = Agree l.bytes l.from l.chunk 0 (l.block * 16)
