-- `marks::Places::note_start` meets its contract.
use Prim.Native.Nat.{◌%◌}
use borrow.Author.Tests.{eq-eqb, ne_eqb}
use Rattle.marks.specs.internal.Places.{start_stride}
use Rattle.marks.proofs.Places.note_start.Goals as goal

pub returns-then-place-eq0-clause-starts : goal.returns-then-place-eq0-clause-starts
returns-then-place-eq0-clause-starts c = rw (eq-eqb (c.args.place % start_stride) 0 c.if-place-eq0.true)

pub returns-else-place-eq0-clause-starts : goal.returns-else-place-eq0-clause-starts
returns-else-place-eq0-clause-starts c = rw (ne_eqb (c.args.place % start_stride) 0 c.if-place-eq0.false)
