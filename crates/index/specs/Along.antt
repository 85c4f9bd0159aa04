-- The test of ground 12 by steps along the chains, and the search along one. That they are what was asked: theorems/EachChunkOnce
-- and theorems/PlainSearch.
use Rattle.std.specs.Prelude.{ℕ, zero, suc, min, Bool, cond, ◌&&◌, List, [], eqb, ltb, length, get_or}
use Rattle.gear.specs.Gear.{chain}
use Rattle.store.specs.Contents.{same}
use Rattle.index.specs.Index.{none, head_at, link_at, chain_at}

-- the number is a chunk's, and the chunk is of the chain
unfoldable pub belongs : List (List ℕ) → ℕ → ℕ → Bool
belongs held c n = ltb n (length held) && eqb (chain_at held n) c

-- What is left of a budget of steps after chain c, from `at` on: a step takes one and must lead to a chunk of the chain. Where
-- none is left the index is refused, for this chain or an earlier one.
unfoldable pub along : List ℕ → List (List ℕ) → ℕ → ℕ → ℕ → ℕ
along index held c zero at = 0
along index held c (suc left) at =
    let on = along index held c left (link_at index at) in
    let further = cond (belongs held c at) on 0 in
    cond (eqb at none) (suc left) further

-- what is left after the chains below c, of one more than there are chunks
unfoldable pub along_all : List ℕ → List (List ℕ) → ℕ → ℕ
along_all index held zero = suc (length held)
along_all index held (suc c) = along index held c (along_all index held c) (head_at index c)

-- The lowest number from `at` on whose chunk is c, or `best` where none is lower, in at most so many steps.
unfoldable pub seek : List ℕ → List (List ℕ) → List ℕ → ℕ → ℕ → ℕ → ℕ
seek index held c zero at best = best
seek index held c (suc left) at best =
    let on = seek index held c left (link_at index at) (cond (same (get_or held at []) c) (min best at) best) in
    cond (ltb at (length held)) on best

-- the search along the chain of c: the lowest number of an equal chunk there, or the next unused number
unfoldable pub number_found : List ℕ → List (List ℕ) → List ℕ → ℕ
number_found index held c = seek index held c (length held) (head_at index (chain c)) (length held)
