-- `search::rest_stands` meets its contract: each turn passes a byte that agrees.
use native.Mathlib.Omega.{arith}
use Rattle.search.proofs.rest_stands.Goals as goal

pub loop-i-init : goal.loop-i-init
loop-i-init c = record { each = λ k h l. absurd (omega arith) }
