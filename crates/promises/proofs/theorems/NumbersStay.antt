-- Over a list of events the store holds no two equal chunks, grows at its end only, and no number changes.
use Prim.Native.Nat.{ℕ, ◌≤◌}
use native.Mathlib.Omega.{arith}
use mathlib.Core.Path.{◌∙◌}
use mathlib.Core.List.{List, []}
use Rattle.store.proofs.laws.contents.Growth.{grown_more, number_grown, grown_distinct}
use Rattle.promises.specs.History.{Event, start, holds, before, chunks_before, AllBytes}
use Rattle.promises.specs.NumbersStay.{StoreGrows}
use Rattle.promises.proofs.laws.Events.{grows_between, start_fits, standing}

pub numbers_stay : (w : ℕ) (pool directory : List ℕ) (events : List Event) → AllBytes events
    → (i j : ℕ) → i ≤ j → StoreGrows (start w pool directory) events i j
numbers_stay w pool directory events b i j h =
    let s = start w pool directory in
    let g = grows_between s (start_fits w pool directory) events b i j h in
    let held = holds (before s events i) in
    record {
      at_end = ((grown_more held g.0).0, g.1.held ∙ (grown_more held g.0).1);
      distinct = rw (standing w pool directory events b j)
          (grown_distinct [] (chunks_before s events j) (λ p l. absurd (omega arith)));
      same_number = λ c k. rw g.1.held (number_grown held g.0 c k);
    }
