-- A fresh scanner consumes the next chunk of what a job has left.
use Prim.Native.Nat.{ℕ, ◌-◌, ◌≤◌, ◌<◌}
use native.Mathlib.Omega.{arith}
use native.Mathlib.Nat.{zero-add}
use mathlib.Core.Path.{◌≡◌, refl}
use mathlib.Core.Bool.{true, cond}
use mathlib.Core.List.{List, [], ◌∷◌, ◌++◌}
use lib.ListN.{length, take, drop, length-drop}
use lib.Seq.{take_all, take-length, drop-length}
use Rattle.scan.specs.declared.Fed.{Fed}
use Rattle.scan.specs.declared.FirstChunk.{FirstChunk}
use Rattle.scan.specs.Scanner.{fresh}
use Rattle.scan.specs.Scan.{scan, first_chunk}
use Rattle.chunker.specs.Scanner.{window_allowed}
use Rattle.chunker.specs.Answers.{fed}
use Rattle.chunker.specs.Chunks.{cut_chunks, remaining, last_chunk, chunks}
use Rattle.chunker.specs.Peaks.{Peak, peaks}
use Rattle.chunker.proofs.laws.ground.Soundness.{window_bounds, fresh_ground, fed_accepted}
use Rattle.chunker.proofs.laws.Tracking.{tracks_fresh}
use Rattle.chunker.proofs.laws.FirstCut.{Scanned, whole, up_to, scanned}

-- the first n bytes of xs are its first chunk, whether a cut ends it or the job does
pub record NextChunk (w : ℕ) (xs : List ℕ) (n : ℕ) : Type 0 where
  pub some : 1 ≤ n
  pub within : n ≤ length xs
  pub first : chunks w xs ≡ take n xs ∷ chunks w (drop n xs)

-- bytes with no cut are one chunk
last_chunk_lem : (xs : List ℕ) → 1 ≤ length xs → last_chunk xs ≡ xs ∷ []
last_chunk_lem [] h = absurd (omega arith)
last_chunk_lem (b ∷ bs) h = refl

by_scan : (w : ℕ) (xs : List ℕ) (f : Fed) → 1 ≤ length xs → Scanned (fresh w) [] 0 xs f → NextChunk w xs f.consumed
unfolding chunks cut_chunks remaining
by_scan w xs f h (whole e c r) =
    rw (e, zero-add)
    (record {
      some = h;
      within = omega arith;
      first = rw (c, r, take-length, drop-length, last_chunk_lem xs h);
    })
by_scan w xs f h (up_to j p l g e u c r a) =
    rw (e, zero-add) (record { some = l; within = g; first = rw (c, r) })

-- no chunk is left of nothing
pub no_chunks : (w : ℕ) → chunks w [] ≡ []
unfolding chunks cut_chunks remaining
no_chunks w = refl

-- a feed of a fresh scanner consumes it
pub next_chunk_lem : (w : ℕ) → window_allowed w ≡ true → (xs : List ℕ) → 1 ≤ length xs
    → NextChunk w xs (fed (fresh w) xs).consumed
next_chunk_lem w e xs h = rw (fed_accepted (fresh w) xs (fresh_ground w e)) (by_scan w xs _ h (scanned (fresh w) [] 0 xs))

-- what the job has left, as it is lent
pub rest_whole : (job : List ℕ) (at : ℕ) → take (length job - at) (drop at job) ≡ drop at job
rest_whole job at = take_all (length job - at) (drop at job) (omega (arith, length-drop at job))

-- it begins with its next chunk
pub next_of_rest : (w : ℕ) → window_allowed w ≡ true → (job : List ℕ) (at : ℕ) → at < length job
    → (n : ℕ) → n ≡ (fed (fresh w) (take (length job - at) (drop at job))).consumed → NextChunk w (drop at job) n
next_of_rest w allowed job at inside n e =
    rw (e, rest_whole job at) (next_chunk_lem w allowed (drop at job) (omega (arith, length-drop at job)))

-- the peak of a first chunk, if a cut ends it
abbrev pub peak_in : FirstChunk → List Peak
peak_in f = cond f.cut (record { place = f.place; value = f.value } ∷ []) []

peaks_by : (w : ℕ) → 1 ≤ w → (xs : List ℕ) (f : Fed) → Scanned (fresh w) [] 0 xs f
    → peaks w xs ≡ peak_in (first_chunk f) ++ peaks w (drop f.consumed xs)
unfolding peaks cut_chunks
peaks_by w low xs f (whole e c r) = rw (c, e, zero-add, drop-length xs)
peaks_by w low xs f (up_to j p l g e u c r a) = rw (c, e, zero-add, ← (u (tracks_fresh w low)))

-- the peaks of what a job has left are that of its next chunk, if a cut ends it, and those of the rest
pub next_peaks : (w : ℕ) → window_allowed w ≡ true → (xs : List ℕ) (f : FirstChunk) → f ≡ first_chunk (fed (fresh w) xs)
    → peaks w xs ≡ peak_in f ++ peaks w (drop f.length xs)
next_peaks w allowed xs f e =
    rw (e, fed_accepted (fresh w) xs (fresh_ground w allowed))
    (peaks_by w (window_bounds w allowed).0 xs (scan (fresh w) 0 xs) (scanned (fresh w) [] 0 xs))

-- nothing has none
pub no_peaks : (w : ℕ) → peaks w [] ≡ []
unfolding peaks cut_chunks
no_peaks w = refl
