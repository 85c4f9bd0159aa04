-- `marks::settle` meets its contract: each turn gives one place its number.
use Rattle.std.proofs.Common.{ℕ, ◌≡◌, ◌-◌, List, [], ◌++◌, length, get_or, take, drop, refl, ◌∙◌, arith, append-nil}
use lib.Seq.{take-length, drop-length}
use Rattle.marks.specs.Marks.{code_of, repeat_base, settled}
use Rattle.marks.proofs.laws.Settling.{settling_none, settling_all, place_inside, names_earlier_lem}
use Rattle.marks.proofs.laws.Settling.{settling_first, settling_repeat, settling_stored}
use Rattle.marks.proofs.settle.Goals as goal
use Rattle.marks.proofs.settle.Goals.{in-Stored, in-Repeat, in-First}

pub loop-place-init : goal.loop-place-init
loop-place-init c = settling_none _ _ _ (omega arith) c.requires.length_bound c.requires.names_earlier

pub bounds-recipe-earlier : goal.bounds-recipe-earlier
bounds-recipe-earlier c =
    let s = c.loop-place.invariant in
    let says = c.in-Repeat.ensures in
    omega (
      arith,
      says.0,
      place_inside s c.loop-place-test.true,
      names_earlier_lem s c.loop-place-test.true _ refl says.1 (omega (arith, says.0)),
    )

pub loop-place-preserved : goal.loop-place-preserved
loop-place-preserved c =
    let s = c.loop-place.invariant in
    let more = c.loop-place-test.true in
    elim c.match-kind_of.branch [
      | in-Stored w ↦ let says = w.in-Stored.ensures in
          rw (w.recipe-is, w.next-is, ← says.0) (settling_stored s more _ refl (omega (arith, says.1)) says.1)
      | in-Repeat w ↦ let says = w.in-Repeat.ensures in
          let place : w.in-Repeat.earlier ≡ code_of (get_or c.loop-place.recipe c.loop-place.place 0) - repeat_base = omega (arith, says.0) in
          rw (w.recipe-is, w.next-is, place) (settling_repeat s more _ refl says.1 (omega (arith, says.0)))
      | in-First w ↦
          rw (w.recipe-is, w.next-is) (settling_first s more _ refl (omega (arith, w.in-First.ensures)))
    ]

pub returns : goal.returns
returns c =
    let a = c.args in
    settling_all c.loop-place.invariant c.loop-place-test.false ∙ whole a.chunks.0 a.recipe.now
  where
    -- all of a recipe, and nothing after it
    whole : (next : ℕ) (recipe : List ℕ) → settled next [] (take (length recipe) recipe) ++ drop (length recipe) recipe ≡ settled next [] recipe
    whole next recipe = simp (take-length, drop-length, append-nil)
