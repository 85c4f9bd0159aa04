-- The largest bytes of a stretch.
use Rattle.std.specs.Prelude.{ℕ, ◌+◌, ◌-◌, ◌≤◌, ◌<◌, ◌≡◌, Bool, true, false, List, get_or}
use Rattle.blocks.specs.declared.Peak.{Peak}

-- the byte m stands at an index from a up to e
pub record Stands (xs : List ℕ) (a e m : ℕ) : Type 0 where
  pub index : ℕ
  pub from : a ≤ index
  pub to : index < e
  pub is : get_or xs index 0 ≡ m

-- a byte larger than v stands at an index from a up to e
pub record Exceeded (xs : List ℕ) (a e v : ℕ) : Type 0 where
  pub index : ℕ
  pub from : a ≤ index
  pub to : index < e
  pub larger : v < get_or xs index 0

-- no byte from a up to e is larger than m
pub record AtMost (xs : List ℕ) (a e m : ℕ) : Type 0 where
  pub bound : (q : ℕ) → a ≤ q → q < e → get_or xs q 0 ≤ m

-- the answer whether a byte from a up to e is larger than v
pub record AnyLarger (xs : List ℕ) (a e v : ℕ) (answer : Bool) : Type 0 where
  pub some : answer ≡ true → Exceeded xs a e v
  pub none : answer ≡ false → AtMost xs a e v

-- of the bytes from a up to e, the peak is the first of the largest
pub record FirstLargest (xs : List ℕ) (a e : ℕ) (p : Peak) : Type 0 where
  pub from : a < p.after
  pub to : p.after ≤ e
  pub is : get_or xs (p.after - 1) 0 ≡ p.value
  pub before : (q : ℕ) → a ≤ q → q + 1 < p.after → get_or xs q 0 < p.value
  pub most : AtMost xs a e p.value

-- j is the first index from a on at which m stands
pub record FirstAt (xs : List ℕ) (a m j : ℕ) : Type 0 where
  pub from : a ≤ j
  pub is : get_or xs j 0 ≡ m
  pub before : (q : ℕ) → a ≤ q → q < j → get_or xs q 0 ≡ m → ⊥
