-- `search::block_differs` meets its contract: the flag is set where two bytes differ, and only there.
use Prim.Native.Nat.{ℕ}
use native.Mathlib.Omega.{arith}
use mathlib.Core.Path.{◌≡◌}
use Rattle.search.proofs.block_differs.Goals as goal

pub loop-index-init : goal.loop-index-init
loop-index-init c =
    (λ e. let z : ◌≡◌ {A = ℕ} 0 1 = cc in absurd (omega arith), λ _. record { each = λ k h l. absurd (omega arith) })

pub returns : goal.returns
returns c =
    let inv = c.loop-index.invariant in
    let whole : c.loop-index.index ≡ 16 = omega arith in
    record { differs = inv.0; agrees = λ e. rw whole at (inv.1 e) }
