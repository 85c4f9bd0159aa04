-- `scan::run::Run::by_bytes` meets its contract: each turn passes one byte.
use Prim.Native.Nat.{◌+◌}
use native.Mathlib.Omega.{arith}
use mathlib.Core.Path.{◌≡◌, ◌∙◌}
use lib.ListN.{length}
use Rattle.scan.proofs.laws.run.Underway.{byte_rises, byte_passes, byte_cuts, stops}
use Rattle.scan.proofs.run.Run.by_bytes.Goals as goal
use Rattle.scan.proofs.run.Run.by_bytes.Goals.{then-byte-value+else-at-last, else-byte-value}

pub returns-then-at-last : goal.returns-then-at-last
returns-then-at-last c = c.cut.ensures ∙ byte_cuts c.loop-at.invariant (omega arith) c.if-byte-value.true (omega arith)

pub loop-at-preserved : goal.loop-at-preserved
loop-at-preserved c =
    let at-loop = c in
    let next : c.loop-at.at + c.args.self.window + 1 ≡ c.loop-at.at + 1 + c.args.self.window = omega arith in
    elim c.if-byte-value.branch [
      | then-byte-value+else-at-last passes ↦ rw (passes.last-is, passes.value-is) (byte_passes at-loop.loop-at.invariant (omega arith) passes.if-byte-value.true (omega arith))
      | else-byte-value rises ↦ rw (rises.last-is, rises.value-is, next) (byte_rises at-loop.loop-at.invariant (omega arith) rises.if-byte-value.false (omega arith))
    ]

pub returns : goal.returns
returns c =
    let end : c.loop-at.at ≡ length c.args.self.part.now = omega arith in
    c.passed.ensures ∙ (rw end at (stops c.loop-at.invariant (omega arith)))
