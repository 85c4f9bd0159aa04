-- The pass in order under way, as its loop keeps it: what is still to pass gives what was asked.
use Prim.Native.Nat.{ℕ, suc, ◌+◌, ◌*◌, ◌-◌, ◌/◌, ◌^◌, ◌≤◌, ◌<◌}
use native.Mathlib.Omega.{arith}
use native.Mathlib.Numerals.{add-one}
use mathlib.Core.Path.{◌≡◌, refl, ap, sym, ◌∙◌}
use mathlib.Core.Bool.{true, false}
use mathlib.Core.List.{List, ◌∷◌, ◌++◌, map}
use lib.ListN.{length, get_or, set, take, drop, replicate, length-set, length-replicate, length-drop}
use lib.Seq.{take-add, length-take-le}
use borrow.Author.Tests.{eq-eqb, ne_eqb}
use Rattle.gear.specs.Gear.{sum_from, sum, chains, chain}
use Rattle.gear.specs.internal.After.{after_sum}
use Rattle.gear.proofs.laws.Sums.{sum_from_below}
use Rattle.gear.proofs.laws.After.{after_sum_lem}
use Rattle.directory.specs.Entry.{stride, length_at}
use Rattle.directory.specs.Layout.{laid_out}
use Rattle.directory.proofs.laws.layout.Entries.{First, first, laid_end}
use Rattle.store.specs.declared.Head.{Head}
use Rattle.store.specs.Contents.{same}
use Rattle.store.specs.Grounds.{fits}
use Rattle.store.specs.Memory.{chunk_at, chunks_from, contents}
use Rattle.store.proofs.laws.grounds.Fitting.{fits_facts}
use Rattle.index.specs.Index.{link_at}
use Rattle.index.specs.Ordered.{no_number, as_link, passes, ordered}

-- the chunks before `number` are passed, and their bytes are the first `end` of the pool, whose sum is `before`
pub record Passing (pool directory index : List ℕ) (count : ℕ) (heads : List ℕ) (before end number : ℕ) : Type 0 where
  pub window : ℕ
  pub filled : ℕ
  pub rest : ℕ
  pub counted : number + rest ≡ count
  pub entered : count * stride ≤ length directory
  pub in_pool : filled ≤ length pool
  pub laid : laid_out window directory number end filled rest ≡ true
  pub long : length heads ≡ chains
  pub summed : before ≡ sum (take end pool)
  pub small : before < 2 ^ 32
  pub gives : passes index number heads (chunks_from pool directory number rest) ≡ ordered index (contents pool directory count)

-- none is passed yet
pub passing_none : (head : Head) (pool directory index : List ℕ) → fits head pool directory ≡ true
    → Passing pool directory index head.chunks.0 (replicate chains no_number) 0 0 0
unfolding ordered sum_from
passing_none head pool directory index h =
    let f = fits_facts head pool directory h in
    record {
      window = head.window;
      filled = head.filled.0;
      rest = head.chunks.0;
      counted = omega arith;
      entered = omega (arith, f.counted);
      in_pool = f.in_pool;
      laid = f.laid;
      long = length-replicate chains no_number;
      summed = refl;
      small = omega arith;
      gives = refl;
    }

module _ {pool directory index : List ℕ} {count : ℕ} {heads : List ℕ} {before end number : ℕ}
    (p : Passing pool directory index count heads before end number) where
  -- one more is left
  module _ (l : number < count) where
    left : p.rest ≡ suc (p.rest - 1)
    left = omega (arith, p.counted)

    here : First p.window directory number end p.filled (p.rest - 1)
    here = first p.window directory number end p.filled (p.rest - 1) (rw left at p.laid)

    -- it ends in the pool
    pub passing_inside : end + length_at directory number ≤ length pool
    passing_inside =
        omega (
          arith,
          p.in_pool,
          laid_end p.window directory (suc number) (end + length_at directory number) p.filled (p.rest - 1) here.rest,
        )

    module _ (size : ℕ) (e : size ≡ length_at directory number) (whole : ℕ) (w : whole ≡ sum (take (end + size) pool)) where
      -- its chain by the sums of the pool up to its end and up to its start
      pub passing_chain : (s d : ℕ) → s ≡ after_sum whole before size → d ≡ s / 2 ^ 22 → d ≡ chain (chunk_at pool directory number)
      unfolding chain
      passing_chain s d q r =
          let chunk = take size (drop end pool) in
          let long : length chunk ≡ size = length-take-le size (drop end pool) (rw length-drop (omega (arith, passing_inside))) in
          let own : s ≡ sum chunk =
          q ∙ rw (w, take-add end size pool, p.summed) (ap (after_sum (sum (take end pool ++ chunk)) (sum (take end pool))) (sym long)
          ∙ after_sum_lem (take end pool) chunk) in
          r ∙ rw (own, e, here.starts)

      module _ (d : ℕ) (own : d ≡ chain (chunk_at pool directory number)) where
        on : passes index number heads (chunk_at pool directory number ∷ chunks_from pool directory (suc number) (p.rest - 1))
            ≡ ordered index (contents pool directory count)
        unfolding chunks_from
        on = rw left at p.gives

        -- its link is another
        pub passing_other : (link_at index number ≡ as_link (get_or heads d 0) → ⊥) → false ≡ ordered index (contents pool directory count)
        unfolding passes
        passing_other o = rw (← own, ne_eqb (link_at index number) (as_link (get_or heads d 0)) o) at on

        -- its link is the head so far
        pub passing_on : link_at index number ≡ as_link (get_or heads d 0)
            → Passing pool directory index count (set heads d number) whole (end + size) (number + 1)
        unfolding passes
        passing_on o = record {
          window = p.window;
          filled = p.filled;
          rest = p.rest - 1;
          counted = omega (arith, p.counted);
          entered = p.entered;
          in_pool = p.in_pool;
          laid = rw (add-one, e) here.rest;
          long = length-set heads d number ∙ p.long;
          summed = w;
          small = rw w (sum_from_below 0 (take (end + size) pool) (omega arith));
          gives = rw add-one (rw (← own, eq-eqb (link_at index number) (as_link (get_or heads d 0)) o) at on);
        }

  -- none is left
  pub passing_all : count ≤ number → same (map as_link heads) (take chains index) ≡ ordered index (contents pool directory count)
  unfolding passes chunks_from
  passing_all l = let none : p.rest ≡ 0 = omega (arith, p.counted) in rw none at p.gives
