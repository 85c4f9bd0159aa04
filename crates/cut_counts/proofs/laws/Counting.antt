-- The cuts of a job counted chunk by chunk: those counted so far and those of what the job has left are those of the job.
use Prim.Native.Nat.{ℕ, ◌+◌, ◌-◌, ◌≤◌}
use native.Mathlib.Omega.{arith}
use native.Mathlib.Nat.{add-zero, zero-add, add_assoc}
use mathlib.Core.Path.{◌≡◌, refl, ap, ◌∙◌}
use mathlib.Core.Bool.{Bool, true, false, cond}
use mathlib.Core.List.{List, [], ◌∷◌, ◌++◌, map}
use lib.ListN.{length, drop, drop_of_length-le}
use lib.Seq.{drop-drop}
use mir.Val.{bool_byte}
use Rattle.scan.specs.declared.FirstChunk.{FirstChunk}
use Rattle.scan.specs.Scanner.{fresh}
use Rattle.scan.specs.Scan.{first_chunk}
use Rattle.chunker.specs.Answers.{fed}
use Rattle.chunker.specs.Scanner.{window_allowed}
use Rattle.chunker.specs.Peaks.{Peak, peaks}
use Rattle.chunker.proofs.laws.NextChunk.{peak_in, next_peaks, no_peaks}
use Rattle.cut_counts.specs.declared.CutCounts.{CutCounts}
use Rattle.cut_counts.specs.CutCounts.{is_low, is_printable, is_high, counts_of, cut_counts}
use Rattle.cut_counts.specs.internal.Counting.{one, with_cut, with_chunk}
use Rattle.cut_counts.proofs.laws.Kinds.{as_one, just_one, filter_length}

-- two counts together
abbrev pub plus : CutCounts → CutCounts → CutCounts
plus c d = record { low = c.low + d.low; printable = c.printable + d.printable; high = c.high + d.high }

abbrev pub no_cuts : CutCounts
no_cuts = record { low = 0; printable = 0; high = 0 }

-- the cuts in them
abbrev pub sum_of : CutCounts → ℕ
sum_of c = c.low + c.printable + c.high

-- the counts of one value more
counts_more : (c : CutCounts) (v : ℕ) (vs : List ℕ) → plus (with_cut c v) (counts_of vs) ≡ plus c (counts_of (v ∷ vs))
unfolding counts_of
counts_more c v vs =
    rw (
      filter_length is_low v vs,
      filter_length is_printable v vs,
      filter_length is_high v vs,
      add_assoc c.low,
      add_assoc c.printable,
      add_assoc c.high,
    )

-- the values of peaks
abbrev values : List Peak → List ℕ
values ps = map (λ p. p.value) ps

-- a chunk, by whether a cut ends it, and the peaks after it
counts_chunk : (c : CutCounts) (f : FirstChunk) (ps : List Peak)
    → plus (with_chunk c f) (counts_of (values ps)) ≡ plus c (counts_of (values (peak_in f ++ ps)))
unfolding with_chunk
counts_chunk c f ps = by_cut f.cut
  where
    by_cut : (t : Bool) → plus (cond t (with_cut c f.value) c) (counts_of (values ps))
        ≡ plus c (counts_of (values (cond t (record { place = f.place; value = f.value } ∷ []) [] ++ ps)))
    by_cut true = counts_more c f.value (values ps)
    by_cut false = refl

-- nothing has no cuts
counts_none : (w : ℕ) → cut_counts w [] ≡ no_cuts
unfolding cut_counts counts_of
counts_none w = rw (no_peaks w)

-- one chunk more counts one cut more at most
chunk_few : (c : CutCounts) (f : FirstChunk) → sum_of (with_chunk c f) ≤ sum_of c + 1
unfolding with_chunk
chunk_few c f = by_cut f.cut
  where
    by_cut : (t : Bool) → sum_of (cond t (with_cut c f.value) c) ≤ sum_of c + 1
    by_cut true = omega (arith, just_one f.value)
    by_cut false = omega arith

-- the cuts before a position of the job are counted
pub record Counting (w : ℕ) (job : List ℕ) (c : CutCounts) (at : ℕ) : Type 0 where
  pub gives : plus c (cut_counts w (drop at job)) ≡ cut_counts w job
  pub few : sum_of c ≤ at

-- none is counted yet
pub counting_starts : (w : ℕ) (job : List ℕ) → Counting w job no_cuts 0
counting_starts w job = record { gives = simp zero-add; few = omega arith }

module _ {w : ℕ} {job : List ℕ} {c : CutCounts} {at : ℕ} (s : Counting w job c at) where
  -- the next chunk, whose length is not 0
  pub counting_more : window_allowed w ≡ true → (f : FirstChunk) → f ≡ first_chunk (fed (fresh w) (drop at job)) → 1 ≤ f.length
      → Counting w job (with_chunk c f) (at + f.length)
  unfolding cut_counts
  counting_more allowed f e some =
      let on : plus (with_chunk c f) (cut_counts w (drop f.length (drop at job))) ≡ plus c (cut_counts w (drop at job)) =
      rw (next_peaks w allowed (drop at job) f e) (counts_chunk c f (peaks w (drop f.length (drop at job)))) in
      record {
        gives = rw (← (drop-drop f.length at job)) (on ∙ s.gives);
        few = omega (arith, chunk_few c f, s.few);
      }

  -- the job is passed
  pub counting_ends : length job ≤ at → c ≡ cut_counts w job
  counting_ends end =
      let none = ap (cut_counts w) (drop_of_length-le job end) ∙ counts_none w in
      rw (none, add-zero c.low, add-zero c.printable, add-zero c.high) at s.gives

module _ (c : CutCounts) (f : FirstChunk) where
  -- a chunk that no cut ends is not counted
  pub uncut_chunk : f.cut ≡ false → c ≡ with_chunk c f
  unfolding with_chunk
  uncut_chunk e = rw e

  -- a cut is printable if it is neither low nor high
  pub cut_chunk : f.cut ≡ true → let low = bool_byte (is_low f.value) in let high = bool_byte (is_high f.value) in
      record { low = c.low + low; printable = c.printable + (1 - low - high); high = c.high + high } ≡ with_chunk c f
  unfolding with_chunk
  cut_chunk e =
      let v = f.value in
      let rest : 1 - one (is_low v) - one (is_high v) ≡ one (is_printable v) = omega (arith, just_one v) in
      rw (e, as_one (is_low v), as_one (is_high v), rest)
