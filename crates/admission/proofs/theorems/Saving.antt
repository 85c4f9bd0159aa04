-- The least saving of an accepted job, whatever the store.
use Prim.Native.Nat.{ℕ}
use native.Mathlib.Omega.{arith}
use mathlib.Core.Path.{◌≡◌}
use mathlib.Core.Bool.{true}
use mathlib.Core.List.{List}
use lib.IntN.{negsuc}
use lib.ListN.{length}
use lib.Signed.{◌≤ℤ◌}
use Rattle.refusal.specs.Number.{accepted}
use Rattle.store.specs.declared.Head.{Head}
use Rattle.tariff.proofs.theorems.Saving.{at_least}
use Rattle.admission.specs.Quote.{quoted}
use Rattle.admission.proofs.laws.Asked.{asked, chunks_few}

-- a recipe has at most 65,535 numbers, which travel in 2,048 packets: a saving is at least −147,456
pub least_saving : (head : Head) (pool directory index recipe job : List ℕ)
    → accepted (quoted head pool directory index recipe job).answer.refusal ≡ true
    → negsuc 147455 ≤ℤ (quoted head pool directory index recipe job).answer.saving
least_saving head pool directory index recipe job h =
    let told = asked head pool directory index recipe job h in
    rw told.saving
    (at_least (length job) _ _ (omega (arith, told.all)) (chunks_few head pool directory index recipe job h))
