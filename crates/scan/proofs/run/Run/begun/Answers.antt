-- `scan::run::Run::begun` meets its contract.
use native.Mathlib.Omega.{arith}
use mathlib.Core.Path.{refl}
use Rattle.scan.proofs.laws.run.Underway.{sets_out_gives, begins_gives}
use Rattle.scan.proofs.run.Run.begun.Goals as goal

pub returns-then-count-ne0 : goal.returns-then-count-ne0
returns-then-count-ne0 c =
    record { part = refl; window = refl; gives = sets_out_gives _ _ c.requires.sound; fresh = λ e. absurd (c.if-count-ne0.true e) }

pub returns : goal.returns
returns c =
    record { part = refl; window = refl; gives = begins_gives _ _ c.requires.sound (omega arith) (omega arith); fresh = λ e. record { base = refl; at = refl; value = refl; whole = refl } }
