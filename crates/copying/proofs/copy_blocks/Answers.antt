-- `copying::copy_blocks` meets its contract: the blocks so far are written.
use Prim.Native.Nat.{ℕ, ◌+◌, ◌*◌, ◌≤◌}
use Rattle.std.proofs.Common.{◌≡◌, refl, List, length, take, drop, arith}
use Rattle.copying.specs.Written.{written}
use Rattle.copying.proofs.laws.Stretches.{stretch_more}
use Rattle.copying.proofs.copy_blocks.Goals as goal

-- one more block is written, where the numbers of the call come to that block's
block_more : (pool : List ℕ) (from : ℕ) (output now : List ℕ) (at block : ℕ) → at + block * 32 + 32 ≤ length output
    → from + block * 32 + 32 ≤ length pool → now ≡ written output at (take (block * 32) (drop from pool))
    → (to next size : ℕ) → to ≡ at + block * 32 → next ≡ from + block * 32 → size ≡ 32
    → written now to (take size (drop next pool)) ≡ written output at (take ((block + 1) * 32) (drop from pool))
block_more pool from output now at block room inside before to next size place source whole =
    let count : (block + 1) * 32 ≡ block * 32 + 32 = omega arith in
    rw (whole, place, source, count) (stretch_more pool from output at (block * 32) 32 room inside before refl)

pub loop-block-preserved : goal.loop-block-preserved
loop-block-preserved c =
    let a = c.args in
    let more = block_more a.pool.now a.from a.output.now c.loop-block.output a.at c.loop-block.block (omega arith) (omega arith)
    c.loop-block.invariant in
    rw c.copy.ensures (search (arith, more))
