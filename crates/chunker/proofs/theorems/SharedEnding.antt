-- Two jobs with the same ending are cut alike from w places after a kept maximum of the ending on.
use Prim.Native.Nat.{ℕ, zero, suc, ◌+◌, ◌-◌, ◌≤◌}
use native.Mathlib.Omega.{arith}
use mathlib.Core.Path.{◌≡◌, refl, sym, ap₂, ◌∙◌}
use mathlib.Core.List.{List, [], ◌∷◌, ◌++◌, map, append_assoc}
use lib.Dec.{leb}
use lib.ListN.{length, take, drop, length-append, length-take, take-append-drop}
use Rattle.scan.specs.Scanner.{fresh}
use Rattle.chunker.specs.Chunks.{after, cut_chunks, remaining, chunks, ends, cuts, ending_cuts, starting_after, total}
use Rattle.chunker.specs.KeptMaximum.{KeptMaximum, LinedUp}
use Rattle.chunker.proofs.laws.Appending.{cut_chunks_append, remaining_append}
use Rattle.chunker.proofs.laws.CutPlaces.{total_cut, NoneEmpty, cut_none_empty, ends_append, ends_from, filter_append, filter_from, filter_last}
use Rattle.chunker.proofs.laws.KeptMaximum.{CutAfter, kept_cut}

-- the chunks that cuts end, where a cut stands between two parts of a job
pub cut_chunks_cut : (w : ℕ) (x y : List ℕ) → CutAfter w x
    → cut_chunks (fresh w) [] (x ++ y) ≡ cut_chunks (fresh w) [] x ++ cut_chunks (fresh w) [] y
cut_chunks_cut w x y c = rw (cut_chunks_append (fresh w) [] x y, c.afresh, c.none)

-- the chunks of a job, where a cut stands between two parts of it
pub chunks_append : (w : ℕ) (x y : List ℕ) → after (fresh w) x ≡ fresh w → remaining (fresh w) [] x ≡ []
    → chunks w (x ++ y) ≡ cut_chunks (fresh w) [] x ++ chunks w y
unfolding chunks
chunks_append w x y h g =
    rw (cut_chunks_append (fresh w) [] x y, remaining_append (fresh w) [] x y, h, g, append_assoc)

-- the chunks that start after the place where others end, none of which is empty
starting_after_lem : (cs : List (List ℕ)) (n : ℕ) (ds : List (List ℕ)) → NoneEmpty cs → total cs ≡ n
    → starting_after n (cs ++ ds) ≡ ds
starting_after_lem [] zero [] h e = refl
starting_after_lem [] zero (d ∷ ds) h e = refl
starting_after_lem [] (suc n) ds h e = absurd (omega arith)
starting_after_lem (c ∷ cs) zero ds h e = absurd (omega arith)
starting_after_lem (c ∷ cs) (suc n) ds h e = starting_after_lem cs (suc n - length c) ds h.1 (omega arith)

module _ (w : ℕ) (h : 1 ≤ w) (x e : List ℕ) (k : ℕ) (m : KeptMaximum w e k) where
  -- the job up to the cut
  abbrev front : List ℕ
  front = x ++ take (k + w) e

  -- the job is what comes up to the cut and what comes after it
  joined : x ++ e ≡ front ++ drop (k + w) e
  joined = rw (append_assoc x (take (k + w) e) (drop (k + w) e), take-append-drop (k + w) e)

  -- a chunk ends there
  cut : CutAfter w front
  cut = kept_cut w h x e k m

  -- the chunks up to the cut have all the bytes up to it
  total_front : total (cut_chunks (fresh w) [] front) ≡ length x + (k + w)
  total_front =
      let all = total_cut (fresh w) [] front in
      let none : length (remaining (fresh w) [] front) ≡ 0 = rw cut.none in
      omega (arith, m.after, length-append x (take (k + w) e), length-take (k + w) e)

  -- from the kept maximum's cut on, the chunks are those of the ending after it
  pub ending_chunks : starting_after (length x + (k + w)) (chunks w (x ++ e)) ≡ chunks w (drop (k + w) e)
  ending_chunks =
      rw (joined, chunks_append w front (drop (k + w) e) cut.afresh cut.none)
      (starting_after_lem (cut_chunks (fresh w) [] front) _ _ (cut_none_empty (fresh w) [] front) total_front)

  -- a cut stands w places after the kept maximum, and the later cuts are those of the ending after it
  pub ending_cuts_lem : ending_cuts w x e (k + w) ≡ (k + w) ∷ map (λ p. (k + w) + p) (cuts w (drop (k + w) e))
  unfolding ending_cuts cuts
  ending_cuts_lem =
      let n = length x + (k + w) in
      let cs = cut_chunks (fresh w) [] front in
      let ds = cut_chunks (fresh w) [] (drop (k + w) e) in
      let all : 0 + total cs ≡ n = omega (arith, total_front) in
      let last = filter_last n 0 cs (cut_none_empty (fresh w) [] front) (omega (arith, m.before)) all in
      let later = filter_from n (0 + total cs) (omega arith) ds in
      rw (
        joined,
        cut_chunks_cut w front (drop (k + w) e) cut,
        ends_append 0 cs ds,
        filter_append (leb n) (ends 0 cs) (ends (0 + total cs) ds),
        last,
        later,
      )
      (ap₂ ◌∷◌ (omega arith) (ends_from (length x) (k + w) 0 (0 + total cs) (omega arith) ds))

-- two jobs with the same ending line up after a kept maximum of it
pub lines_up : (w : ℕ) → 1 ≤ w → (x y e : List ℕ) (k : ℕ) → KeptMaximum w e k → LinedUp w x y e k
lines_up w h x y e k m =
    record {
      cut_there = (_, ending_cuts_lem w h x e k m);
      same_cuts = ending_cuts_lem w h x e k m ∙ sym (ending_cuts_lem w h y e k m);
      same_chunks = ending_chunks w h x e k m ∙ sym (ending_chunks w h y e k m);
    }
