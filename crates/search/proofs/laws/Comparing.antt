-- How far bytes at a place are a chunk's: more of them agree, or one differs.
use Prim.Native.Nat.{ℕ, ◌+◌, ◌≤◌}
use native.Mathlib.Omega.{arith}
use native.Mathlib.Decide.{dec_lt}
use mathlib.Core.Path.{◌≡◌}
use mathlib.Core.List.{List}
use lib.ListN.{get_or}
use borrow.Author.Count.{below_more}
use Rattle.search.specs.internal.Comparing.{Differs, Agree}

-- bytes that differ are among any more bytes
pub differs_more : {pool chunk : List ℕ} {from m n : ℕ} → Differs pool from chunk m → m ≤ n → Differs pool from chunk n
differs_more d h = record { index = d.index; within = omega arith; other = d.other }

-- one more byte agrees
pub agree_more : {pool chunk : List ℕ} {from a : ℕ} → (n : ℕ) → Agree pool from chunk a (a + n)
    → get_or pool (from + (a + n)) 0 ≡ get_or chunk (a + n) 0 → Agree pool from chunk a (a + (n + 1))
agree_more {pool} {chunk} {from} {a} n g e =
    let all = below_more (λ k. a ≤ k → get_or pool (from + k) 0 ≡ get_or chunk k 0) (a + n) g.each (λ _. e) in
    record { each = λ k h l. all k (omega arith) l }

-- bytes that agree up to a and from a on
pub agree_on : {pool chunk : List ℕ} {from a e : ℕ} → Agree pool from chunk 0 a → Agree pool from chunk a e
    → Agree pool from chunk 0 e
agree_on {a} f g =
    record { each = λ k h l. elim (dec_lt k a) [ yes m ↦ f.each k m l | no m ↦ g.each k h (omega arith) ] }
