-- `blocks::largest_from` meets its contract: the largest byte so far and the bytes to come have the largest of all.
use Prim.Native.Nat.{max}
use mathlib.Core.Path.{◌≡◌}
use lib.ListN.{drop}
use Rattle.std.specs.List.{fold}
use Rattle.blocks.proofs.largest_from.Given as goal

abbrev pub invariant-loop-at : goal.invariant-loop-at
invariant-loop-at l = fold max l.most (drop l.at l.part) ≡ fold max 0 (drop l.from l.part)
