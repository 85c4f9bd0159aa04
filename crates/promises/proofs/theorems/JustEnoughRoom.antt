-- A job that has just the room which is enough for any job of its length, and that needs all of it.
use Prim.Native.Nat.{ℕ, ◌*◌}
use native.Mathlib.Omega.{arith}
use mathlib.Core.Path.{◌≡◌, ap}
use mathlib.Core.List.{List, [], ◌∷◌}
use lib.ListN.{replicate}
use Rattle.refusal.specs.Number.{accepted}
use Rattle.refusal.specs.declared.Refusal.{Refusal}
use Rattle.refusal.specs.declared.Refusal.TheVariants.{RecipeFull, DirectoryFull, PoolFull}
use Rattle.directory.specs.Entry.{stride}
use Rattle.store.specs.Opening.{fresh}
use Rattle.index.specs.Index.{fresh_index}
use Rattle.admission.proofs.theorems.Room.{Accepts, has_room}
use Rattle.promises.specs.History.{State, start, quote_in}
use Rattle.promises.proofs.laws.Events.{start_fits}
use Rattle.promises.proofs.laws.Untested.{quote_of, same_ground, same_quote}
use Rattle.promises.proofs.theorems.StarredJobs.{computed}
use Rattle.std.specs.Prelude.{Option, Some}

-- three bytes, which with window 1 are the chunks 02 01 and 03: as many as three bytes can be
abbrev pub short_chunks : List ℕ
short_chunks = 2 ∷ 1 ∷ 3 ∷ []

-- a fresh store with so many entries and pool bytes
abbrev pub store_with : (entries bytes : ℕ) → State
store_with entries bytes = start 1 (replicate bytes 0) (replicate (entries * stride) 0)

-- with two places, two entries and three pool bytes it accepts the job
pub just_enough : Accepts (fresh 1) (replicate 3 0) (replicate (2 * stride) 0) (fresh_index 2) (replicate 2 0) short_chunks
unfolding computed
just_enough =
    let none = ap accepted (same_ground (store_with 2 3) (start_fits 1 _ _) short_chunks (replicate 2 0)) in
    has_room (fresh 1) (replicate 3 0) (replicate (2 * stride) 0) (fresh_index 2) (replicate 2 0) short_chunks (omega arith) none
    (omega arith) (omega arith) (omega arith)

-- what its quote reports with so many
abbrev pub refusal_with : (places entries bytes : ℕ) → Option Refusal
refusal_with places entries bytes = (quote_in (store_with entries bytes) short_chunks (replicate places 0)).answer.refusal

-- it can be computed without the test of the index
refusal_as : (places entries bytes : ℕ)
    → refusal_with places entries bytes ≡ (quote_of (store_with entries bytes) short_chunks (replicate places 0)).answer.refusal
refusal_as places entries bytes =
    ap (λ q. q.answer.refusal)
    (same_quote (store_with entries bytes) (start_fits 1 _ _) short_chunks (replicate places 0))

-- a place, an entry or a byte less is too few
pub too_few : (refusal_with 1 2 3 ≡ Some RecipeFull) × (refusal_with 2 1 3 ≡ Some DirectoryFull) × (refusal_with 2 2 2 ≡ Some PoolFull)
unfolding computed
too_few = (refusal_as 1 2 3, refusal_as 2 1 3, refusal_as 2 2 2)
