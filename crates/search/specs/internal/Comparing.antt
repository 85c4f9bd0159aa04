-- How far bytes at a place are a chunk's.
use Rattle.std.specs.Prelude.{ℕ, ◌+◌, ◌≤◌, ◌<◌, ◌≡◌, List, get_or}

-- one of the chunk's first n bytes does not stand at `from` in the pool
pub record Differs (pool : List ℕ) (from : ℕ) (chunk : List ℕ) (n : ℕ) : Type 0 where
  pub index : ℕ
  pub within : index < n
  pub other : get_or pool (from + index) 0 ≡ get_or chunk index 0 → ⊥

-- the chunk's bytes from a up to e stand at `from` in the pool
pub record Agree (pool : List ℕ) (from : ℕ) (chunk : List ℕ) (a e : ℕ) : Type 0 where
  pub each : (k : ℕ) → k < e → a ≤ k → get_or pool (from + k) 0 ≡ get_or chunk k 0
