-- An answer that tells no refusal is accepted.
use mathlib.Core.Path.{◌≡◌, refl}
use mathlib.Core.Bool.{Bool, true, false, not, true≢false, false≢true}
use Rattle.std.specs.Prelude.{Option, None, Some, is_some}
use Rattle.refusal.specs.declared.Refusal.{Refusal}
use Rattle.refusal.specs.Number.{accepted}

pub told_none : (r : Option Refusal) (b : Bool) → is_some r ≡ not b → accepted r ≡ b
told_none None true h = refl
told_none None false h = absurd (false≢true h)
told_none (Some r) true h = absurd (true≢false h)
told_none (Some r) false h = refl
