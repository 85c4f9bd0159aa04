-- `scan::run::Run::by_bytes` meets its contract: each turn passes one byte.
use Prim.Native.Nat.{◌+◌}
use Rattle.scan.specs.internal.Run.{rest}
use Rattle.scan.proofs.laws.run.Underway.{Underway}
use Rattle.scan.proofs.run.Run.by_bytes.Given as goal

abbrev pub invariant-loop-at : goal.invariant-loop-at
invariant-loop-at l = Underway l.part l.self.window l.self.base (l.last + 1) l.value l.at (rest l.self)
