-- `blocks::largest_from` meets its contract: the largest byte so far and the bytes to come have the largest of all.
use Prim.Native.Nat.{max, ◌≤◌}
use native.Mathlib.Omega.{arith}
use borrow.Author.Rules.{rules}
use mathlib.Core.Path.{◌≡◌}
use lib.ListN.{length, get_or, drop_of_length-le}
use Rattle.std.proofs.lemmas.List.{drop_more}
use Rattle.blocks.proofs.largest_from.Goals as goal

pub loop-at-preserved : goal.loop-at-preserved
loop-at-preserved c =
    let next : c.max-most.result ≡ max c.loop-at.most (get_or c.args.part.now c.loop-at.at 0) = search rules in
    rw next (rw (drop_more c.args.part.now c.loop-at.at 0 (omega arith)) at c.loop-at.invariant)

pub returns : goal.returns
returns c =
    let done : length c.args.part.now ≤ c.loop-at.at = omega arith in
    rw (drop_of_length-le c.args.part.now done) at c.loop-at.invariant
