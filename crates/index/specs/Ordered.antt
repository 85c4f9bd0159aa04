-- One pass over a store's chunks in the order of their numbers, which accepts the index that takes leave: with heads of its own,
-- each number's link must be its chain's head so far, which it then becomes, and at the end the heads must be the index's.
use Rattle.std.specs.Prelude.{ℕ, suc, Bool, cond, ◌&&◌, List, [], ◌∷◌, map, eqb, get_or, set, take, replicate}
use Rattle.gear.specs.Gear.{chains, chain}
use Rattle.store.specs.Contents.{same}
use Rattle.index.specs.Index.{none, link_at}

-- the head of a chain that has no number yet; no number of a chunk is as large
abbrev pub no_number : ℕ
no_number = 65535

-- a head of its own as the index has it
unfoldable pub as_link : ℕ → ℕ
as_link head = cond (eqb head no_number) none head

-- the chunks cs, numbered from n on, with the heads so far
unfoldable pub passes : List ℕ → ℕ → List ℕ → List (List ℕ) → Bool
passes index n heads [] = same (map as_link heads) (take chains index)
passes index n heads (c ∷ cs) =
    eqb (link_at index n) (as_link (get_or heads (chain c) 0)) && passes index (suc n) (set heads (chain c) n) cs

unfoldable pub ordered : List ℕ → List (List ℕ) → Bool
ordered index held = passes index 0 (replicate chains no_number) held
