-- The index of a store: "A lent index has 1,024 chain heads, chosen by the sum's top ten bits, then a link for each directory
-- entry, FFFFFFFF ending a chain". The chunks of the store are a list, `held`.
use Rattle.std.specs.Prelude.{ℕ, suc, ◌+◌, ◌<◌, ◌≡◌, Bool, true, false, List, [], ◌∷◌, eqb, length, get_or, set, replicate}
use Rattle.gear.specs.Gear.{chains, chain}

-- "FFFFFFFF ending a chain"
abbrev pub none : ℕ
none = 4294967295

-- the head of a chain: the number of its first chunk, or none
abbrev pub head_at : List ℕ → ℕ → ℕ
head_at index c = get_or index c 0

-- the link of a number: the next number of its chain, or none
abbrev pub link_at : List ℕ → ℕ → ℕ
link_at index n = get_or index (chains + n) 0

-- the chain of the chunk that has a number: "under its own sum"
abbrev pub chain_at : List (List ℕ) → ℕ → ℕ
chain_at held n = chain (get_or held n [])

-- from `at` on the links meet these numbers, one after another, and end
abbrev pub Trail : List ℕ → ℕ → List ℕ → Type 0
Trail index at [] = at ≡ none
Trail index at (n ∷ ns) = (at ≡ n) × (n ≡ none → ⊥) × Trail index (link_at index n) ns

-- once or not at all
abbrev pub once : Bool → ℕ
once true = 1
once false = 0

-- how often a number stands in a list
abbrev pub times : ℕ → List ℕ → ℕ
times n [] = 0
times n (m ∷ ms) = once (eqb m n) + times n ms

-- "its chains .. meet every piece just once under its own sum, and nothing else"
pub record Meets (index : List ℕ) (held : List (List ℕ)) : Type 0 where
  -- the numbers of each chain, in its order
  pub path : (c : ℕ) → c < chains → List ℕ
  -- which its head and the links meet, up to the end of the chain
  pub ends : (c : ℕ) (l : c < chains) → Trail index (head_at index c) (path c l)
  -- "every piece just once"
  pub own : (c : ℕ) (l : c < chains) (n : ℕ) → n < length held → chain_at held n ≡ c → times n (path c l) ≡ 1
  -- "and nothing else"
  pub only : (c : ℕ) (l : c < chains) (n : ℕ) → 0 < times n (path c l) → (n < length held) × (chain_at held n ≡ c)

-- "A fresh index is all FFFFFFFF", for a directory of so many entries
unfoldable pub fresh_index : ℕ → List ℕ
fresh_index entries = replicate (chains + entries) none

-- "a take enters each new piece at the front of its chain": the chunk c under the number n
unfoldable pub enter : List ℕ → ℕ → List ℕ → List ℕ
enter index n c = set (set index (chains + n) (head_at index (chain c))) (chain c) n

-- chunks in their order, numbered from n on
unfoldable pub enter_all : List ℕ → ℕ → List (List ℕ) → List ℕ
enter_all index n [] = index
enter_all index n (c ∷ cs) = enter_all (enter index n c) (suc n) cs
