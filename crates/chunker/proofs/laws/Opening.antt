-- What `open` answers.
use Prim.Native.Nat.{ℕ}
use mathlib.Core.Path.{◌≡◌, refl}
use mathlib.Core.Bool.{Bool, true, false, cond}
use Rattle.refusal.specs.Number.{accepted}
use Rattle.refusal.specs.declared.Refusal.TheVariants.{Window}
use Rattle.chunker.specs.declared.Opened.{Opened}
use Rattle.chunker.specs.Scanner.{window_allowed}
use Rattle.chunker.specs.Answers.{opened}
use Rattle.std.specs.Prelude.{None, Some}

module _ (w : ℕ) (o : Opened) (e : o ≡ opened w) where
  -- it is refused by ground 1 alone
  pub opened_ground : o.refusal ≡ cond (window_allowed w) None (Some Window)
  unfolding opened
  opened_ground = rw e (by_test (window_allowed w) _ _)
    where
      by_test : (x : Bool) (a b : Opened) → (cond x a b).refusal ≡ cond x a.refusal b.refusal
      by_test true a b = refl
      by_test false a b = refl

  -- so it is accepted where the window is allowed
  pub opened_accepted : accepted o.refusal ≡ window_allowed w
  opened_accepted = rw opened_ground (by_test (window_allowed w))
    where
      by_test : (x : Bool) → accepted (cond x None (Some Window)) ≡ x
      by_test true = refl
      by_test false = refl
