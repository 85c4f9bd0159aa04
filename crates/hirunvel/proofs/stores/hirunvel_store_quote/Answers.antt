-- `hirunvel::stores::hirunvel_store_quote` meets its contract.
use mathlib.Core.Path.{◌≡◌}
use mir.Syntax.{w64}
use mir.Val.{to_z, of_z}
use Rattle.std.proofs.Common.{rules}
use Rattle.hirunvel.specs.Storing.{store_quoted}
use Rattle.hirunvel.proofs.stores.hirunvel_store_quote.Goals as goal

pub returns : goal.returns
unfolding store_quoted
returns c =
    let done = rw c.from-head.ensures at c.quote-answer.ensures in
    let z = c.quote-answer.result.saving in
    let kept : to_z w64 (of_z w64 z) ≡ z = search rules in
    rw (← done, c.of_refusal.ensures, c.into.ensures, kept)
