-- What a job saves on the link.
use Prim.Native.Nat.{ℕ}
use mathlib.Core.Path.{◌≡◌, ap, ◌∙◌}
use mathlib.Core.List.{List}
use lib.ListN.{length}
use Rattle.chunker.specs.Chunks.{chunks}
use Rattle.tariff.specs.Tariff.{saving_of}
use Rattle.admission.specs.Quote.{Quotation}
use Rattle.promises.specs.History.{Event, start, chunks_before, AskedAt, AllBytes}
use Rattle.promises.specs.Saving.{job_saving}
use Rattle.promises.proofs.laws.Events.{told_at, start_fits}
use Rattle.promises.proofs.theorems.FirstAppearances.{first_appearances_lem}

-- "Saving becomes job length − new bytes − 72 × packets"
pub saves : (w : ℕ) (pool directory : List ℕ) (events : List Event) → AllBytes events
    → (j : ℕ) (job : List ℕ) (q : Quotation) → AskedAt (start w pool directory) events j job q
    → q.answer.saving ≡ job_saving w (chunks_before (start w pool directory) events j) job
saves w pool directory events b j job q a =
    let s = start w pool directory in
    let t = told_at s (start_fits w pool directory) events b j job q a in
    let new = (first_appearances_lem w pool directory events b j job q a).first in
    t.tells.saving ∙ ap (λ n. saving_of (length job) n (length (chunks w job))) new
