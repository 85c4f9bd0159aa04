-- `directory::layout::laid_out` meets its contract: the entries from `entry` on are still to test.
use Rattle.std.proofs.Common.{◌+◌, ◌*◌, sym, arith}
use Rattle.directory.specs.Entry.{stride}
use Rattle.directory.proofs.laws.layout.Testing.{none_left, not_laid, tested_more}
use Rattle.directory.proofs.layout.laid_out.Goals as goal

pub returns-then-not-entry_allowed : goal.returns-then-not-entry_allowed
returns-then-not-entry_allowed c = rw (not_laid c.loop-entry.invariant (omega arith) (rw c.from.ensures at (sym c.if-not-entry_allowed.ensures)))

pub loop-entry-preserved : goal.loop-entry-preserved
loop-entry-preserved c =
    rw c.length_of.ensures
    (tested_more c.loop-entry.invariant (omega arith) (rw c.from.ensures at (sym c.if-not-entry_allowed.ensures))
    (omega (arith, c.type_inv.directory (c.loop-entry.entry * stride + 1))))

pub returns : goal.returns
returns c = sym (none_left c.loop-entry.invariant (omega arith))
