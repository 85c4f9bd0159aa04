-- The test of ground 12 is the statement: the ground is reported exactly where the statement fails.
use Prim.Native.Nat.{ℕ, zero, suc}
use native.Mathlib.Omega.{arith}
use mathlib.Core.Path.{◌≡◌, refl, ap, sym, ◌∙◌}
use mathlib.Core.Logic.{◌↔◌}
use mathlib.Core.Bool.{Bool, true, false}
use mathlib.Core.List.{List}
use borrow.Author.Tests.{eq-eqb}
use Rattle.index.specs.Index.{chain_at, once, times, Meets}
use Rattle.index.specs.Along.{belongs}
use Rattle.index.specs.Grounds.{meets}
use Rattle.index.proofs.laws.Counting.{once_pos}
use Rattle.index.proofs.laws.Accepting.{AllMet, belongs_below, below_belongs, meets_met, met_meets}

module _ (index : List ℕ) (held : List (List ℕ)) where
  -- the statement part by part is one equation of each chain and number
  statement_met : Meets index held → AllMet index held
  statement_met h c l =
      (h.path c l, h.ends c l, λ n. step n (belongs held c n) refl (times n (h.path c l)) refl)
    where
      step : (n : ℕ) (t : Bool) → belongs held c n ≡ t → (k : ℕ) → times n (h.path c l) ≡ k
          → times n (h.path c l) ≡ once t
      step n true f k e = let b = belongs_below held c n f in h.own c l n b.0 b.1
      step n false f zero e = e
      step n false f (suc k) e =
          let b = h.only c l n (omega arith) in
          let z = sym f ∙ below_belongs held c n b.0 ∙ eq-eqb (chain_at held n) c b.1 in
          absurd (let o : ◌≡◌ {A = ℕ} 0 1 = ap once z in omega arith)

  met_statement : AllMet index held → Meets index held
  met_statement m = record {
    path = λ c l. (m c l).0;
    ends = λ c l. (m c l).1;
    own = λ c l n b e. (m c l).2 n ∙ ap once (below_belongs held c n b ∙ eq-eqb (chain_at held n) c e);
    only = λ c l n p. belongs_below held c n (once_pos (belongs held c n) (omega (arith, (m c l).2 n)));
  }

  -- "12 if its chains do not meet every piece just once under its own sum, and nothing else"
  pub test : (meets index held ≡ true) ↔ Meets index held
  test = (λ h. met_statement (meets_met held index h), λ h. met_meets held index (statement_met h))
