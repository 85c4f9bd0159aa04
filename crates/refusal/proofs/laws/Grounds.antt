-- Laws of the first ground of a list.
use mathlib.Core.Path.{◌≡◌, refl, sym, ◌∙◌}
use mathlib.Core.Bool.{Bool, true, false, cond, false≢true}
use mathlib.Core.List.{List, [], ◌∷◌, ◌++◌}
use Rattle.std.specs.Prelude.{Option}
use Rattle.refusal.specs.declared.Refusal.{Refusal}
use Rattle.refusal.specs.Number.{accepted}
use Rattle.refusal.specs.Grounds.{unless, first}

-- none of the grounds holds
abbrev pub NoneHolds : List (Option Refusal) → Type 0
NoneHolds [] = Unit {0}
NoneHolds (ground ∷ grounds) = (accepted ground ≡ true) × NoneHolds grounds

-- it is so where the first that holds is none
pub none_holds : (grounds : List (Option Refusal)) → accepted (first grounds) ≡ true → NoneHolds grounds
none_holds [] h = tt
none_holds (ground ∷ grounds) h = by_test (accepted ground) refl (none_holds grounds) h
  where
    by_test : (t : Bool) → accepted ground ≡ t → (accepted (first grounds) ≡ true → NoneHolds grounds)
        → accepted (cond t (first grounds) ground) ≡ true → (t ≡ true) × NoneHolds grounds
    by_test true e later k = (refl, later k)
    by_test false e later k = absurd (false≢true (sym e ∙ k))

-- the first of two lists of grounds, one after the other
pub first_append : (xs ys : List (Option Refusal)) → first (xs ++ ys) ≡ cond (accepted (first xs)) (first ys) (first xs)
first_append [] ys = refl
first_append (x ∷ xs) ys = rw (first_append xs ys) (by_test (accepted x) refl)
  where
    by_test : (t : Bool) → accepted x ≡ t → cond t (cond (accepted (first xs)) (first ys) (first xs)) x
        ≡ cond (accepted (cond t (first xs) x)) (first ys) (cond t (first xs) x)
    by_test true e = refl
    by_test false e = rw e

-- a ground that does not hold has passed its test
pub passed : (t : Bool) (ground : Refusal) → accepted (unless t ground) ≡ true → t ≡ true
passed true ground h = refl
passed false ground h = absurd (false≢true h)
