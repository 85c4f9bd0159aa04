-- `frame_text::write_hex` meets its contract: each iteration writes one digit.
use native.Mathlib.Omega.{arith}
use Rattle.frame_text.proofs.laws.Stores.{writes_one, writes_all}
use Rattle.frame_text.proofs.write_hex.Goals as goal

pub loop-place-preserved : goal.loop-place-preserved
loop-place-preserved c = rw c.digit.ensures (writes_one c.loop-place.invariant (omega arith))

pub returns : goal.returns
returns c = writes_all c.loop-place.invariant (omega arith)
