-- Laws of grounds that are tested one after another with `?`: the answer of a test has the ground that holds as its error.
use mathlib.Core.Path.{◌≡◌, refl, sym, ◌∙◌, ap}
use mathlib.Core.Bool.{Bool, true, false}
use mathlib.Core.List.{List, ◌∷◌}
use Rattle.std.specs.Prelude.{Option, None, Some, Result, Ok, Err}
use Rattle.std.specs.Result.{result_err}
use Rattle.std.proofs.lemmas.Option.{none-some, cond_some}
use Rattle.refusal.specs.declared.Refusal.{Refusal}
use Rattle.refusal.specs.Number.{accepted}
use Rattle.refusal.specs.Grounds.{unless, first}
use Rattle.refusal.proofs.laws.Grounds.{passed}

-- a test that passes finds no ground
pub passes : {T : Type 0} {r : Option Refusal} {a : Result T Refusal} {u : T} → result_err a ≡ r → a ≡ Ok u → r ≡ None
passes e h = sym e ∙ ap result_err h

-- a test that fails has found its error
pub fails : {T : Type 0} {r : Option Refusal} {a : Result T Refusal} {g : Refusal} → result_err a ≡ r → a ≡ Err g → r ≡ Some g
fails e h = sym e ∙ ap result_err h

-- where the first test fails, its error is the first ground that holds
pub first_fails : {r : Option Refusal} {a : Result (Unit {0}) Refusal} {g : Refusal} (rest : List (Option Refusal))
    → result_err a ≡ r → a ≡ Err g → Some g ≡ first (r ∷ rest)
first_fails rest e h = rw (fails e h)

-- where it passes, that is the first of the rest
pub first_passes : {r : Option Refusal} {a : Result (Unit {0}) Refusal} {u : Unit {0}} (rest : List (Option Refusal))
    → result_err a ≡ r → a ≡ Ok u → first rest ≡ first (r ∷ rest)
first_passes rest e h = rw (passes e h)

-- a ground whose test fails is the error
pub refuses : (t : Bool) (r : Refusal) {g : Refusal} {a : Result (Unit {0}) Refusal} → result_err a ≡ unless t r → a ≡ Err g
    → (t ≡ false) × (r ≡ g)
refuses true r e h = absurd (none-some _ (sym e ∙ ap result_err h))
refuses false r e h = (refl, (cond_some true r _ (sym e ∙ ap result_err h)).1)

-- and one that is no error has passed its test
pub allows : (t : Bool) (r : Refusal) {a : Result (Unit {0}) Refusal} {u : Unit {0}} → result_err a ≡ unless t r → a ≡ Ok u
    → t ≡ true
allows t r e h = passed t r (ap accepted (passes e h))
