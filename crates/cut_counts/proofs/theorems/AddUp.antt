-- "three counts of cuts": every cut of a job is counted just once.
use Prim.Native.Nat.{ℕ, ◌+◌}
use native.Mathlib.Omega.{arith}
use mathlib.Core.Path.{◌≡◌, ◌∙◌}
use mathlib.Core.List.{List, [], ◌∷◌, map}
use lib.ListN.{length, length-map}
use Rattle.chunker.specs.Chunks.{cuts}
use Rattle.chunker.specs.Peaks.{peaks}
use Rattle.chunker.proofs.theorems.Peaks.{one_each}
use Rattle.cut_counts.specs.CutCounts.{is_low, is_printable, is_high, counts_of, cut_counts}
use Rattle.cut_counts.proofs.laws.Kinds.{just_one, filter_length}
use Rattle.cut_counts.proofs.laws.Counting.{sum_of}

-- each value is counted once
counted_once : (vs : List ℕ) → sum_of (counts_of vs) ≡ length vs
unfolding counts_of
counted_once [] = omega arith
counted_once (v ∷ vs) =
    omega (arith, filter_length is_low v vs, filter_length is_printable v vs, filter_length is_high v vs, just_one v, counted_once vs)

-- the three add up to the number of the job's cuts
pub add_up : (w : ℕ) (job : List ℕ)
    → let c = cut_counts w job in c.low + c.printable + c.high ≡ length (cuts w job)
unfolding cut_counts
add_up w job =
    counted_once (map (λ p. p.value) (peaks w job)) ∙ (length-map (peaks w job) (λ p. p.value) ∙ one_each w job)
