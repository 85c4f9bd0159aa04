-- `index::order::as_link` meets its contract.
use borrow.Author.Tests.{eq-eqb, ne_eqb}
use Rattle.index.specs.Ordered.{no_number, as_link}
use Rattle.index.proofs.order.as_link.Goals as goal

pub returns-then-head-eq-NO_NUMBER : goal.returns-then-head-eq-NO_NUMBER
unfolding as_link
returns-then-head-eq-NO_NUMBER c = rw (eq-eqb c.args.head no_number c.if-head-eq-NO_NUMBER.true)

pub returns-else-head-eq-NO_NUMBER : goal.returns-else-head-eq-NO_NUMBER
unfolding as_link
returns-else-head-eq-NO_NUMBER c = rw (ne_eqb c.args.head no_number c.if-head-eq-NO_NUMBER.false)
