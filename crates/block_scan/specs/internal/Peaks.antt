-- How far a scan in steps of a whole window has come: from one byte that is the largest so far to another.
use Rattle.std.specs.Prelude.{ℕ, ◌+◌, ◌-◌, ◌≤◌, ◌<◌, ◌≡◌, List, length, get_or}
use Rattle.blocks.specs.internal.Largest.{AtMost}
use Rattle.scan.specs.declared.run.Run.{Run}
use Rattle.scan.specs.internal.Run.{onward, Further}
use Rattle.scan.specs.internal.Order.{InOrder}

-- from the largest byte so far, v, which stands before index i, a scan comes to a larger one, u before index j, or stays: its
-- numbers are in order, and what is still to do gives the same answer
pub record Reached (part : List ℕ) (w i v j u : ℕ) : Type 0 where
  pub on : i ≤ j
  pub inside : j ≤ length part
  pub kept : j ≡ i → u ≡ v
  pub moved : i < j → u ≡ get_or part (j - 1) 0
  pub order : (base : ℕ) → InOrder part w base (i + w) v i → InOrder part w base (j + w) u j
  pub gives : (base : ℕ) → InOrder part w base (i + w) v i
      → onward part w base (j + w) u j ≡ onward part w base (i + w) v i

-- .. whatever the window: by bytes that are each larger than all before
abbrev pub Rising : List ℕ → ℕ → ℕ → ℕ → ℕ → Type 0
Rising part i v j u = (w : ℕ) → Reached part w i v j u

-- .. and no byte of the window after index j is larger, where the part holds that window
pub record Settled (part : List ℕ) (w i v j : ℕ) : Type 0 where
  pub value : ℕ
  pub reached : Reached part w i v j value
  pub ends : j + w ≤ length part → AtMost part j (j + w) value

-- a run past a byte that is its largest so far, with a whole window to come
pub record AtLargest (r : Run) : Type 0 where
  pub some : 1 ≤ r.at
  pub value : r.value ≡ get_or r.part.now (r.at - 1) 0
  pub whole : r.deadline ≡ r.at + r.window

-- the run once it has come to index j, past its largest byte so far
pub record AtPeak (r next : Run) (j : ℕ) : Type 0 where
  pub further : Further r next
  pub deadline : next.deadline ≡ j + r.window
