-- The test `fits` as facts, and back.
use Prim.Native.Nat.{ℕ, ◌+◌, ◌*◌, ◌≤◌, ◌<◌}
use native.Mathlib.Omega.{arith}
use mathlib.Core.Path.{◌≡◌}
use mathlib.Core.Bool.{true, and-eq-true_iff}
use mathlib.Core.List.{List}
use lib.Dec.{leb-zero}
use lib.ListN.{length}
use borrow.Author.Tests.{leb-true, le-leb}
use Rattle.directory.specs.Entry.{offset_at, length_at, entries, stride}
use Rattle.directory.specs.Layout.{laid_out}
use Rattle.directory.proofs.laws.layout.Entries.{laid_entry}
use Rattle.store.specs.declared.Head.{Head}
use Rattle.store.specs.Grounds.{fits}
use Rattle.store.specs.Opening.{fresh}
use Rattle.store.specs.internal.EntriesIn.{EntriesIn}

-- the parts of the test `fits`
pub record Layout (head : Head) (pool directory : List ℕ) : Type 0 where
  pub counted : head.chunks.0 ≤ entries directory
  pub in_pool : head.filled.0 ≤ length pool
  pub laid : laid_out head.window directory 0 0 head.filled.0 head.chunks.0 ≡ true

-- from the test
pub fits_facts : (head : Head) (pool directory : List ℕ) → fits head pool directory ≡ true → Layout head pool directory
unfolding fits
fits_facts head pool directory h =
    let k = (and-eq-true_iff _ _).0 h in
    let l = (and-eq-true_iff _ _).0 k.0 in
    record { counted = leb-true _ _ l.0; in_pool = leb-true _ _ l.1; laid = k.1 }

-- to the test
pub fits_back : (head : Head) (pool directory : List ℕ) → Layout head pool directory → fits head pool directory ≡ true
unfolding fits
fits_back head pool directory f = rw (le-leb _ _ f.counted, le-leb _ _ f.in_pool) f.laid

-- where a chunk below the store's count lies
pub record Placed (head : Head) (pool directory : List ℕ) (q : ℕ) : Type 0 where
  pub in_directory : q * stride + 1 < length directory
  pub some : 1 ≤ length_at directory q
  pub bounded : length_at directory q ≤ 256 * head.window + 1
  pub within : offset_at directory q + length_at directory q ≤ head.filled.0
  pub in_pool : head.filled.0 ≤ length pool

-- each of them
pub fits_entry : (head : Head) (pool directory : List ℕ) → fits head pool directory ≡ true
    → (q : ℕ) → q < head.chunks.0 → Placed head pool directory q
fits_entry head pool directory h q l =
    let f = fits_facts head pool directory h in
    let e = laid_entry head.window directory 0 0 head.filled.0 head.chunks.0 q q (omega arith) l f.laid in
    record {
      in_directory = omega arith;
      some = e.some;
      bounded = e.bounded;
      within = e.within;
      in_pool = f.in_pool;
    }

-- so the entries lie in memory
pub entries_in_lem : (head : Head) (pool directory : List ℕ) → fits head pool directory ≡ true
    → EntriesIn pool directory head.chunks.0
entries_in_lem head pool directory h =
    record {
      entered = let facts = fits_facts head pool directory h in omega (arith, facts.counted);
      some = λ i l. (fits_entry head pool directory h i l).some;
      inside = λ i l. let p = fits_entry head pool directory h i l in omega (arith, p.within, p.in_pool);
    }

-- a fresh head fits any pool and directory
pub fresh_fits : (w : ℕ) (pool directory : List ℕ) → fits (fresh w) pool directory ≡ true
unfolding fits laid_out
fresh_fits w pool directory = simp leb-zero
