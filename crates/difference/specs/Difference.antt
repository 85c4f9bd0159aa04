-- Where two lists of chunks differ. A list is memory that begins with how many numbers follow.
use Rattle.std.specs.Prelude.{ℕ, suc, ◌<◌, ◌≡◌, cond, ◌&&◌, List, [], ◌∷◌, Option, None, Some, eqb, ltb, length, get_or, take}

-- how many numbers follow the first
abbrev pub count : List ℕ → ℕ
count xs = get_or xs 0 0

-- the first place at which xs holds a number that ys does not, counted from i; or nowhere
unfoldable pub from_place : ℕ → List ℕ → List ℕ → Option ℕ
from_place i [] ys = None
from_place i (x ∷ xs) [] = Some i
from_place i (x ∷ xs) (y ∷ ys) = cond (eqb x y) (from_place (suc i) xs ys) (Some i)

-- the first place at which two lists differ, or nowhere; a list that its memory does not hold whole is a difference
unfoldable pub difference : List ℕ → List ℕ → Option ℕ
difference xs ys =
    cond (ltb (count xs) (length xs) && ltb (count xs) (length ys)) (from_place 0 (take (suc (count xs)) xs) ys) (Some 0)

-- both memories hold their lists whole, and these are the same
pub record Same (xs ys : List ℕ) : Type 0 where
  pub first : count xs < length xs
  pub second : count ys < length ys
  pub list : take (suc (count xs)) xs ≡ take (suc (count ys)) ys

-- how many comparisons with a difference one adds
abbrev pub differences : Option ℕ → ℕ
differences None = 0
differences (Some i) = 1
