-- `copying::copy_blocks` meets its contract: the blocks so far are written.
use Rattle.std.proofs.Common.{◌≡◌, ◌*◌, take, drop}
use Rattle.copying.specs.Written.{written}
use Rattle.copying.proofs.copy_blocks.Given as goal

abbrev pub invariant-loop-block : goal.invariant-loop-block
invariant-loop-block l = l.output ≡ written l.initial.output l.at (take (l.block * 32) (drop l.from l.pool))
