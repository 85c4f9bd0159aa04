-- Steps along one chain under way, and along the chains one after another, as the loops keep them: what is still to do gives what
-- was asked.
use Prim.Native.Nat.{ℕ, zero, suc, ◌+◌, ◌-◌, ◌≤◌, ◌<◌}
use native.Mathlib.Omega.{arith}
use native.Mathlib.Numerals.{add-one}
use mathlib.Core.Path.{◌≡◌, refl, ap, sym, ◌∙◌}
use mathlib.Core.Bool.{true, false}
use mathlib.Core.List.{List}
use lib.Dec.{eqb}
use lib.ListN.{length}
use borrow.Author.Tests.{eq-eqb, ne_eqb, lt-ltb, le-ltb}
use Rattle.gear.specs.Gear.{chains, chain}
use Rattle.store.specs.Memory.{chunk_at, contents}
use Rattle.store.proofs.laws.Memory.{contents_length}
use Rattle.store.proofs.laws.ChunkOfNumber.{entry_at}
use Rattle.index.specs.Index.{none, head_at, link_at, chain_at}
use Rattle.index.specs.Along.{belongs, along, along_all}
use Rattle.index.specs.Grounds.{meets}

-- `left` steps are left at the number `at`
pub record Stepped (index : List ℕ) (held : List (List ℕ)) (c budget left at : ℕ) : Type 0 where
  pub gives : along index held c left at ≡ along index held c budget (head_at index c)

module _ {index : List ℕ} {held : List (List ℕ)} {c budget left at : ℕ} (h : Stepped index held c budget left at) where
  -- no step is left
  pub stepped_out : left ≡ 0 → 0 ≡ along index held c budget (head_at index c)
  unfolding along
  stepped_out e = rw e at h.gives

  -- the chain ends
  pub stepped_end : at ≡ none → left ≡ along index held c budget (head_at index c)
  unfolding along
  stepped_end e = step left refl ∙ h.gives
    where
      step : (l : ℕ) → left ≡ l → left ≡ along index held c l at
      step zero q = q
      step (suc l) q = rw (eq-eqb at none e) q

  module _ (some : left ≡ 0 → ⊥) (more : at ≡ none → ⊥) where
    -- the step leads to no chunk of the chain
    pub stepped_astray : belongs held c at ≡ false → 0 ≡ along index held c budget (head_at index c)
    unfolding along
    stepped_astray f = step left refl ∙ h.gives
      where
        step : (l : ℕ) → left ≡ l → 0 ≡ along index held c l at
        step zero q = refl
        step (suc l) q = rw (ne_eqb at none more, f)

    -- it leads to one
    pub stepped_on : belongs held c at ≡ true → Stepped index held c budget (left - 1) (link_at index at)
    unfolding along
    stepped_on f = record { gives = step left refl ∙ h.gives }
      where
        step : (l : ℕ) → left ≡ l → along index held c (left - 1) (link_at index at) ≡ along index held c l at
        step zero q = absurd (some q)
        step (suc l) q =
            let p : left - 1 ≡ l = omega arith in
            rw (ne_eqb at none more, f, p)

-- a number past the chunks, one of another chain, and one of the chain
module _ (pool directory : List ℕ) (n c at : ℕ) where
  abbrev held : List (List ℕ)
  held = contents pool directory n

  pub past_chunks : n ≤ at → belongs held c at ≡ false
  unfolding belongs
  past_chunks l = rw (le-ltb at (length held) (omega (arith, contents_length pool directory 0 n)))

  module _ (d : ℕ) (e : d ≡ chain (chunk_at pool directory at)) (l : at < n) where
    own : d ≡ chain_at held at
    own = e ∙ ap chain (sym (entry_at pool directory 0 n at at (omega arith) l))

    there : at < length held
    there = omega (arith, contents_length pool directory 0 n)

    pub other_chain : (d ≡ c → ⊥) → belongs held c at ≡ false
    unfolding belongs
    other_chain o = rw (lt-ltb at (length held) there) (ne_eqb (chain_at held at) c (λ q. o (own ∙ q)))

    pub this_chain : d ≡ c → belongs held c at ≡ true
    unfolding belongs
    this_chain o = rw (lt-ltb at (length held) there) (eq-eqb (chain_at held at) c (sym own ∙ o))

-- no chain is followed yet
pub chains_begun : (index pool directory : List ℕ) (n left : ℕ) → left ≡ n + 1
    → left ≡ along_all index (contents pool directory n) 0
unfolding along_all
chains_begun index pool directory n left e = omega (arith, contents_length pool directory 0 n)

module _ (index : List ℕ) (held : List (List ℕ)) (c left : ℕ) (e : left ≡ along_all index held c) where
  -- one more
  pub chains_more : (next : ℕ) → next ≡ along index held c left (head_at index c) → next ≡ along_all index held (c + 1)
  unfolding along_all
  chains_more next q = rw (add-one c, ← e) q

  -- all are
  pub chains_all : c ≤ chains → chains ≤ c → eqb left 1 ≡ meets index held
  unfolding meets
  chains_all l m = let q : c ≡ chains = omega arith in rw (e, q)
