-- A quote in a list of events: it tells what its take would, and leaves the store as it was.
use Prim.Native.Nat.{ℕ, suc}
use mathlib.Core.Path.{◌≡◌, ap, sym}
use mathlib.Core.List.{List}
use Rattle.admission.specs.Take.{quotation_of}
use Rattle.admission.proofs.theorems.QuoteAndTake.{same_quotation}
use Rattle.promises.specs.History.{Event, quoting, State, quote_in, take_in, leaves, event_at, before}

-- "On the same inputs a quote and a take give equal lengths and counts, 0 if refused, equal recipes and the same refusal": at
-- each place of a list
pub quote_tells : (s : State) (events : List Event) (j : ℕ) (job recipe : List ℕ)
    → quote_in (before s events j) job recipe ≡ quotation_of (take_in (before s events j) job recipe)
quote_tells s events j job recipe =
    let t = before s events j in
    sym (same_quotation t.head t.pool t.directory t.index recipe job)

-- "while writing only the recipe"; of the index "a quote only reads"
pub quote_leaves : (s : State) (events : List Event) (j : ℕ) (job recipe : List ℕ) → event_at events j ≡ quoting job recipe
    → before s events (suc j) ≡ before s events j
unfolding before leaves
quote_leaves s events j job recipe stands = ap (leaves (before s events j)) stands
