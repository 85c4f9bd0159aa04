-- After the last of several fields both jobs line up as demand 3 says.
use Prim.Native.Nat.{ℕ, ◌<◌}
use mathlib.Core.List.{List, [], ◌∷◌, ◌++◌}
use Rattle.chunker.specs.KeptMaximum.{KeptMaximum}
use Rattle.admission.specs.Quote.{Quotation}
use Rattle.promises.specs.History.{Event, start, TakenAt, AskedAt, AllBytes}
use Rattle.promises.specs.Fields.{Field, old_job, revision, joined}
use Rattle.promises.specs.Promise.{PromisedOf}
use Rattle.promises.proofs.laws.Fields.{old_joined, revision_joined}
use Rattle.promises.proofs.theorems.Promise.{promise}

-- the fields as a single one are a beginning, a replaced stretch, a changed stretch and an ending
pub last_field : (w : ℕ) (pool directory : List ℕ) (events : List Event) → AllBytes events → (i j : ℕ) → i < j
    → (opening : List ℕ) (fields : List Field) (last : Field) (old new : Quotation)
    → TakenAt (start w pool directory) events i (old_job opening (fields ++ (last ∷ []))) old
    → AskedAt (start w pool directory) events j (revision opening (fields ++ (last ∷ []))) new
    → KeptMaximum w last.kept last.place
    → PromisedOf w opening (joined fields last).replaced (joined fields last).changed last.kept last.place old new
last_field w pool directory events bytes i j l opening fields last old new taken asked kept =
    let one = joined fields last in
    promise w pool directory events bytes i j l opening one.replaced one.changed last.kept old new
    (rw (old_joined opening fields last) at taken) (rw (revision_joined opening fields last) at asked) last.place kept
