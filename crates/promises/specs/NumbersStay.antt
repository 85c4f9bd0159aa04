-- What happens to the numbers of chunks over a list of events.
use Rattle.std.specs.Prelude.{ℕ, ◌≡◌, true, List, ◌++◌}
use Rattle.store.specs.Contents.{number, has, Distinct}
use Rattle.promises.specs.History.{Event, State, holds, before}

-- "A piece found by the search .. is repeated", "Any other is new, copied to the pool at filled and entered with the
-- next number": from place i of a list to a later place j the store grows at its end only, and then holds no two equal
-- chunks; so a chunk that it holds keeps its number
pub record StoreGrows (s : State) (events : List Event) (i j : ℕ) : Type 0 where
  pub at_end : (more : List (List ℕ)) × (holds (before s events j) ≡ holds (before s events i) ++ more)
  pub distinct : Distinct (holds (before s events j))
  pub same_number : (c : List ℕ) → has (holds (before s events i)) c ≡ true
      → number (holds (before s events j)) c ≡ number (holds (before s events i)) c
