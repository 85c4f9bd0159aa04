-- `marks::Places::start_of` meets its contract: each turn passes one chunk of a place before.
use Rattle.std.proofs.Common.{◌+◌, arith}
use Rattle.marks.proofs.laws.Sizes.{sizes_more, sizes_fewer}
use Rattle.marks.proofs.Places.start_of.Goals as goal

pub overflow_add-from : goal.overflow_add-from
overflow_add-from c =
    let a = c.args in
    let index = c.loop-index.index in
    omega (
      arith,
      c.loop-index.invariant,
      c.size_of-from.ensures,
      sizes_more a.recipe.now index (omega arith),
      sizes_fewer a.recipe.now (index + 1) a.place (omega arith),
      c.requires.recipe_bound,
    )

pub loop-index-preserved : goal.loop-index-preserved
loop-index-preserved c =
    omega (arith, c.loop-index.invariant, c.size_of-from.ensures, sizes_more c.args.recipe.now c.loop-index.index (omega arith))
