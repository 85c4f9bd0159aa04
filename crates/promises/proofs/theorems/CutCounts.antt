-- "Quote and take pass on three counts of cuts", at every place of every list of events.
use Prim.Native.Nat.{ℕ}
use mathlib.Core.Path.{◌≡◌}
use mathlib.Core.List.{List}
use Rattle.cut_counts.specs.CutCounts.{cut_counts}
use Rattle.admission.specs.Quote.{Quotation}
use Rattle.promises.specs.History.{Event, start, AskedAt, AllBytes}
use Rattle.promises.proofs.laws.Events.{told_at, start_fits}

-- a quote or a take that is not refused tells the counts of the job's cuts, whatever came before
pub counts_cuts : (w : ℕ) (pool directory : List ℕ) (events : List Event) → AllBytes events
    → (j : ℕ) (job : List ℕ) (q : Quotation) → AskedAt (start w pool directory) events j job q
    → q.answer.cuts ≡ cut_counts w job
counts_cuts w pool directory events b j job q a =
    (told_at (start w pool directory) (start_fits w pool directory) events b j job q a).tells.cuts
