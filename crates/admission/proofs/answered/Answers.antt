-- `admission::answered` meets its contract.
use mathlib.Core.Path.{◌≡◌}
use mir.Syntax.{w64}
use mir.Val.{to_z, of_z}
use Rattle.std.proofs.Common.{rules}
use Rattle.admission.specs.internal.Answers.{answered}
use Rattle.admission.proofs.answered.Goals as goal

pub returns-in-Some : goal.returns-in-Some
unfolding answered
returns-in-Some c = rw (c.refused.ensures, c.in-Some.is)

pub returns : goal.returns
unfolding answered
returns c =
    let kept : to_z w64 (of_z w64 c.saving.result) ≡ c.saving.result = search rules in
    rw (kept, c.saving.ensures, c.in_default.is)
