-- The grounds of a rebuilding, test by test.
use Prim.Native.Nat.{ℕ, ◌≤◌, ◌<◌}
use native.Mathlib.Omega.{arith}
use mathlib.Core.Path.{◌≡◌}
use mathlib.Core.Bool.{true, cond, and-eq-true_iff}
use mathlib.Core.List.{List, [], ◌∷◌}
use borrow.Author.Tests.{leb-true, le-leb}
use lib.Dec.{leb}
use lib.ListN.{length, get_or}
use Rattle.refusal.specs.Number.{accepted}
use Rattle.refusal.specs.Grounds.{first}
use Rattle.refusal.specs.declared.Refusal.TheVariants.{Head as HeadMisfit, ChunkNumber as NoChunk, OutputShort}
use Rattle.refusal.proofs.laws.Grounds.{none_holds, passed, first_append}
use Rattle.chunker.specs.Scanner.{window_allowed, window_ground}
use Rattle.store.specs.declared.Head.{Head}
use Rattle.store.specs.Limits.{pool_limit}
use Rattle.store.specs.Grounds.{fits, memory_allowed, recipe_allowed, memory_ground, recipe_ground, head_ground, all_below, number_ground, store_ground}
use Rattle.store.proofs.laws.grounds.Fitting.{Placed, fits_entry}
use Rattle.store.proofs.laws.grounds.Passed.{store_passed}
use Rattle.rebuild.specs.Rebuilding.{rebuilt_bytes, output_ground, rebuild_ground}
use Rattle.rebuild.specs.internal.Located.{Located}
use Rattle.rebuild.proofs.laws.Recipes.{each_below}
use Rattle.std.specs.Prelude.{None}

-- the pool of an accepted store is within its limit
pub pool_small : (head : Head) (pool directory : List ℕ) → accepted (store_ground head pool directory) ≡ true
    → length pool ≤ pool_limit
unfolding memory_allowed
pool_small head pool directory e =
    let memory = (store_passed head pool directory e).memory in
    leb-true (length pool) pool_limit ((and-eq-true_iff _ _).0 ((and-eq-true_iff _ _).0 memory).0).0

-- numbers below the store's count have their entries and bytes there
below_located : (head : Head) (pool directory recipe : List ℕ) → fits head pool directory ≡ true
    → all_below head.chunks.0 recipe ≡ true → Located pool directory recipe
below_located head pool directory recipe f n =
    let placed : (i : ℕ) → i < length recipe → Placed head pool directory (get_or recipe i 0) =
    λ i h. fits_entry head pool directory f (get_or recipe i 0) (each_below head.chunks.0 recipe n i h) in
    record {
      entered = λ i h. (placed i h).in_directory;
      inside = λ i h. let p = placed i h in omega (arith, p.within, p.in_pool);
    }

pub numbers_located : (head : Head) (pool directory recipe : List ℕ) → accepted (store_ground head pool directory) ≡ true
    → all_below head.chunks.0 recipe ≡ true → Located pool directory recipe
numbers_located head pool directory recipe e n =
    below_located head pool directory recipe (store_passed head pool directory e).fitting n

module _ (head : Head) (pool directory recipe output : List ℕ) where
  -- past the tests of the window and of the recipe's limit come the store's grounds, and then 9 and 10
  pub after_recipe : window_allowed head.window ≡ true → recipe_allowed recipe ≡ true
      → rebuild_ground head pool directory recipe output
      ≡ cond (accepted (store_ground head pool directory))
      (first (number_ground head recipe ∷ output_ground pool directory recipe output ∷ []))
      (store_ground head pool directory)
  unfolding rebuild_ground store_ground
  after_recipe w r =
      rw (w, r)
      (first_append (memory_ground pool directory ∷ head_ground head pool directory ∷ [])
      (number_ground head recipe ∷ output_ground pool directory recipe output ∷ []))

  module _ (e : accepted (rebuild_ground head pool directory recipe output) ≡ true) where
    -- the last tests that an accepted rebuilding passes
    last_tests : (fits head pool directory ≡ true) × (all_below head.chunks.0 recipe ≡ true)
        × (leb (length (rebuilt_bytes pool directory recipe)) (length output) ≡ true)
    unfolding rebuild_ground
    last_tests =
        let none = (none_holds
        (window_ground head.window
        ∷ recipe_ground recipe
        ∷ memory_ground pool directory
        ∷ head_ground head pool directory
        ∷ number_ground head recipe
        ∷ output_ground pool directory recipe output
        ∷ [])
        e).1.1.1 in (
          passed (fits head pool directory) HeadMisfit none.0,
          passed (all_below head.chunks.0 recipe) NoChunk none.1.0,
          passed (leb (length (rebuilt_bytes pool directory recipe)) (length output)) OutputShort none.1.1.0,
        )

    -- an accepted rebuilding finds its numbers
    pub rebuilding_located : Located pool directory recipe
    rebuilding_located = below_located head pool directory recipe last_tests.0 last_tests.1

    -- its output has room for the job
    pub output_long : length (rebuilt_bytes pool directory recipe) ≤ length output
    output_long = leb-true _ _ last_tests.2

  -- where every test passes the rebuilding is accepted
  pub all_pass : window_allowed head.window ≡ true → memory_allowed pool directory ≡ true → recipe_allowed recipe ≡ true
      → fits head pool directory ≡ true → all_below head.chunks.0 recipe ≡ true
      → length (rebuilt_bytes pool directory recipe) ≤ length output
      → rebuild_ground head pool directory recipe output ≡ None
  unfolding rebuild_ground
  all_pass w s r f n o = rw (w, s, r, f, n, le-leb _ _ o)
