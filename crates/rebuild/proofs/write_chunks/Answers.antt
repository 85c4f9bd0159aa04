-- `rebuild::write_chunks` meets its contract: each turn writes the chunk of one number.
use native.Mathlib.Omega.{arith}
use mathlib.Core.Path.{refl, ◌∙◌}
use Rattle.rebuild.proofs.laws.LocatedChunks.{located_length}
use Rattle.rebuild.proofs.laws.ChunksWritten.{next_fits, one_written, all_written}
use Rattle.rebuild.proofs.write_chunks.Goals as goal

pub copy_chunk-requires-clause-size_in_bounds_2 : goal.copy_chunk-requires-clause-size_in_bounds_2
copy_chunk-requires-clause-size_in_bounds_2 c =
    omega (
      arith,
      c.length_of-size.ensures ∙ located_length c.requires.located c.loop-number.number-index c.loop-number-test.true,
      next_fits c.loop-number.invariant c.loop-number-test.true _ refl,
    )

pub loop-number-preserved : goal.loop-number-preserved
loop-number-preserved c =
    let size = c.length_of-size.ensures ∙ located_length c.requires.located c.loop-number.number-index c.loop-number-test.true in
    rw size (one_written c.loop-number.invariant c.loop-number-test.true _ refl _
    (rw (c.offset_of-from.ensures, c.length_of-size.ensures) at c.copy_chunk.ensures))

pub returns : goal.returns
returns c = all_written c.loop-number.invariant c.loop-number-test.false
