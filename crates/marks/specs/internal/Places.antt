-- What the functions of this layer may assume of the marks in a recipe and of what a survey keeps of its own.
use Rattle.std.specs.Prelude.{ℕ, ◌*◌, ◌-◌, ◌≤◌, ◌<◌, ◌≡◌, List, [], length, get_or, take}
use Rattle.store.specs.Limits.{recipe_limit}
use Rattle.marks.specs.Marks.{repeat_base, first_base, code_of, first_code, last_of, sizes, firsts, own_chains, own_chain}

-- the places whose chunk's position a survey keeps: every 64th
abbrev pub start_stride : ℕ
start_stride = 64

-- the chunk that place q says appears for the first time, of the first n
abbrev pub first_in : List ℕ → List ℕ → ℕ → ℕ → List ℕ
first_in job recipe n q = get_or (firsts job 0 (take n recipe)) q []

-- the first n places hold marks: a first appearance names the last place before it at which a chunk of its chain appears first,
-- no earlier place shows the same chunk, and the chunks lie in the job
pub record Linked (job recipe : List ℕ) (n : ℕ) : Type 0 where
  pub links : (q : ℕ) → q < n → first_base ≤ code_of (get_or recipe q 0)
      → code_of (get_or recipe q 0) ≡ first_code (last_of (own_chain (first_in job recipe n q)) (take q (firsts job 0 (take n recipe))))
  pub distinct : (p q : ℕ) → p < q → q < n → first_base ≤ code_of (get_or recipe q 0)
      → first_in job recipe n p ≡ first_in job recipe n q → ⊥
  pub inside : sizes (take n recipe) ≤ length job
  pub few : n ≤ recipe_limit

-- a head for each chain: the last place at which a chunk of it appears first
pub record Heads (job recipe heads : List ℕ) (n : ℕ) : Type 0 where
  pub each : (c : ℕ) → c < own_chains → get_or heads c 0 ≡ last_of c (firsts job 0 (take n recipe))

-- where the chunk of every 64th place starts
pub record Starts (recipe starts : List ℕ) (n : ℕ) : Type 0 where
  pub each : (k : ℕ) → k * start_stride < n → get_or starts k 0 ≡ sizes (take (k * start_stride) recipe)

-- the first n places hold marks, by which a survey's own heads and starts go
pub record Placed (job recipe heads starts : List ℕ) (n : ℕ) : Type 0 where
  pub used : n ≤ length recipe
  pub linked : Linked job recipe n
  pub own_heads : Heads job recipe heads n
  pub own_starts : Starts recipe starts n

-- each of the first n marks that names a place names one before its own
pub record NamesEarlier (recipe : List ℕ) (n : ℕ) : Type 0 where
  pub each : (q : ℕ) → q < n → repeat_base ≤ code_of (get_or recipe q 0) → code_of (get_or recipe q 0) < first_base
      → code_of (get_or recipe q 0) - repeat_base < q
