-- `search::search` meets its contract: each turn over the chain passes an entry, or keeps its number.
use Prim.Native.Nat.{ℕ, ◌-◌, ◌<◌}
use mathlib.Core.Path.{◌≡◌}
use lib.ListN.{get_or}
use Rattle.search.proofs.laws.Searching.{Sought}
use Rattle.search.proofs.search.Given as goal

abbrev pub invariant-entries : goal.invariant-entries
invariant-entries l = Sought l.pool l.directory l.index l.chunk l.count (l.count - l.counter) l.next l.best

abbrev pub invariant-loop-i : goal.invariant-loop-i
invariant-loop-i l = (k : ℕ) → k < l.i → get_or l.stored k 0 ≡ get_or l.chunk k 0
