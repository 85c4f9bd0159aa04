-- `search::stands_at` meets its contract: each turn passes a block that agrees, and then the rest is compared.
use Prim.Native.Nat.{◌/◌}
use native.Mathlib.Omega.{arith}
use mathlib.Core.Path.{◌≡◌}
use lib.ListN.{length}
use Rattle.search.proofs.laws.Comparing.{differs_more, agree_on}
use Rattle.search.proofs.laws.Standing.{stands_by, stands_not}
use Rattle.search.proofs.stands_at.Goals as goal

pub returns-then-block_differs : goal.returns-then-block_differs
returns-then-block_differs c =
    stands_not _ _ _ (differs_more (c.block_differs.ensures.differs c.if-block_differs.true) (omega arith))

pub returns : goal.returns
returns c =
    let all : c.loop-block.block ≡ length c.args.chunk.now / 16 = omega arith in
    stands_by _ _ _ c.rest_stands.result c.requires
    (λ e. agree_on (rw all at c.loop-block.invariant) (c.rest_stands.ensures.stands e)) c.rest_stands.ensures.differs
