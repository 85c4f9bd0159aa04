-- The first of the grounds 11 and 12 that holds, by their tests.
use Prim.Native.Nat.{ℕ, ◌+◌, ◌≤◌}
use native.Mathlib.Omega.{arith}
use mathlib.Core.Path.{◌≡◌, sym}
use mathlib.Core.Bool.{true}
use mathlib.Core.List.{List}
use lib.ListN.{length}
use borrow.Author.Tests.{eqb-true}
use Rattle.gear.specs.Gear.{chains}
use Rattle.directory.specs.Entry.{entries}
use Rattle.store.specs.declared.Head.{Head}
use Rattle.store.specs.Grounds.{fits}
use Rattle.store.specs.Limits.{directory_limit}
use Rattle.store.specs.Memory.{contents}
use Rattle.store.specs.internal.EntriesIn.{EntriesIn}
use Rattle.store.proofs.laws.Memory.{contents_length}
use Rattle.store.proofs.laws.grounds.Fitting.{fits_facts, entries_in_lem}
use Rattle.index.specs.Grounds.{length_allowed, meets}
use Rattle.index.specs.Ordered.{no_number, ordered}
use Rattle.index.proofs.laws.Accepting.{met_meets}
use Rattle.index.proofs.laws.Ordering.{ordered_met}

-- an index that ground 11 does not refuse has a link for each entry
pub length_fits : (directory index : List ℕ) → length_allowed directory index ≡ true
    → length index ≡ chains + entries directory
unfolding length_allowed
length_fits directory index h = eqb-true (length index) (chains + entries directory) h

-- what both tests ask of a store
pub record Testable (head : Head) (pool directory index : List ℕ) : Type 0 where
  pub entries : EntriesIn pool directory head.chunks.0
  pub room : chains + head.chunks.0 ≤ length index
  pub few : head.chunks.0 ≤ no_number

module _ (head : Head) (pool directory index : List ℕ) where
  abbrev held : List (List ℕ)
  held = contents pool directory head.chunks.0

  -- an index of the right length can be tested
  module _ (e : length_allowed directory index ≡ true) (f : fits head pool directory ≡ true) (l : length directory ≤ directory_limit) where
    pub testable : Testable head pool directory index
    unfolding length_allowed
    testable =
        let facts = fits_facts head pool directory f in
        record {
          entries = entries_in_lem head pool directory f;
          room = omega (arith, facts.counted, eqb-true (length index) (chains + entries directory) e);
          few = omega (arith, facts.counted);
        }

    -- where the pass in order accepts it, its chains meet every chunk
    pub ordered_meets : ordered index held ≡ true → true ≡ meets index held
    ordered_meets h =
        let n = contents_length pool directory 0 head.chunks.0 in
        sym (met_meets held index (ordered_met index held (omega (arith, testable.room)) (omega (arith, testable.few)) h))
