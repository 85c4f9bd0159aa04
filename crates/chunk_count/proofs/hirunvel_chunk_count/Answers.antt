-- `chunk_count::hirunvel_chunk_count` meets its contract. Each turn feeds what the job has left, and takes one chunk.
use native.Mathlib.Omega.{arith}
use Prim.Native.Nat.{ℕ}
use mathlib.Core.Path.{◌≡◌, sym, ◌∙◌}
use mathlib.Core.Bool.{false}
use mathlib.Core.List.{List}
use Rattle.std.specs.Bool.{◌==◌}
use Rattle.std.proofs.lemmas.Bool.Decides.{nat_tests}
use lib.ListN.{length}
use Rattle.scan.specs.declared.Fed.{Fed}
use Rattle.scan.specs.Scanner.{fresh}
use Rattle.chunker.specs.Answers.{fed}
use Rattle.chunk_count.specs.ChunkCount.{chunk_count}
use Rattle.chunk_count.proofs.laws.Counting.{Counted, Turned, sets_out, counts_one, stops}
use Rattle.chunk_count.proofs.hirunvel_chunk_count.Goals as goal

-- a turn feeds what the job has left, and takes one chunk
turned : {w n : ℕ} {job rest : List ℕ} → Counted w job n rest → false ≡ (length rest == 0) → (f : Fed)
    → f ≡ fed (fresh w) rest → Turned w job n rest f
turned u some f e = counts_one u (grind (arith, nat_tests)) f e

pub returns-then-not-window_allowed : goal.returns-then-not-window_allowed
unfolding chunk_count
returns-then-not-window_allowed c = rw (sym c.window_allowed.ensures ∙ c.if-not-window_allowed.true)

pub loop-rest-init : goal.loop-rest-init
loop-rest-init c = sets_out _ _ (sym c.window_allowed.ensures ∙ c.if-not-window_allowed.false)

pub slice_bounds-rest-count : goal.slice_bounds-rest-count
slice_bounds-rest-count c =
    (turned c.loop-rest.invariant c.loop-rest-test.ensures _ c.feed_fresh-fed.ensures).within

pub slice_bounds-rest-start : goal.slice_bounds-rest-start
slice_bounds-rest-start c =
    (turned c.loop-rest.invariant c.loop-rest-test.ensures _ c.feed_fresh-fed.ensures).within

pub loop-rest-smaller : goal.loop-rest-smaller
loop-rest-smaller c =
    let t = turned c.loop-rest.invariant c.loop-rest-test.ensures _ c.feed_fresh-fed.ensures in
    omega (arith, t.moves)

pub loop-rest-preserved : goal.loop-rest-preserved
loop-rest-preserved c =
    (turned c.loop-rest.invariant c.loop-rest-test.ensures _ c.feed_fresh-fed.ensures).on

pub returns : goal.returns
returns c = stops c.loop-rest.invariant (let t = c.loop-rest-test.ensures in grind (arith, nat_tests))
