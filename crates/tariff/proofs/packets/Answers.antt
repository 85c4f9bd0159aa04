-- `tariff::packets` meets its contract.
use borrow.Author.Rules.{rules}
use Rattle.tariff.specs.Tariff.{packets}
use Rattle.tariff.proofs.packets.Goals as goal

pub returns : goal.returns
unfolding packets
returns c = search rules
