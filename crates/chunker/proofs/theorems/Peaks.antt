-- What is told at a cut is the chunk's first maximum point by the published method, and its byte.
use Prim.Native.Nat.{ℕ, suc, ◌+◌, ◌-◌, ◌≤◌}
use native.Mathlib.Omega.{arith}
use native.Mathlib.Nat.{zero-add}
use mathlib.Core.Path.{◌≡◌, refl, ap, ap₂, sym, subst, ◌∙◌}
use mathlib.Core.Bool.{Bool, true, false, true≢false}
use mathlib.Core.List.{List, [], ◌∷◌, ◌++◌, map}
use lib.ListN.{length, take, drop, length-append, length-map, take-append-drop}
use lib.Seq.{length-take-le}
use Rattle.refusal.specs.Number.{accepted}
use Rattle.refusal.proofs.laws.NoGround.{no_ground}
use Rattle.scan.specs.declared.Scanner.{Scanner}
use Rattle.scan.specs.declared.Fed.{Fed}
use Rattle.scan.specs.Scanner.{fresh}
use Rattle.scan.specs.Move.{move, next}
use Rattle.scan.specs.Scan.{uncut, scan}
use Rattle.chunker.specs.Scanner.{window_allowed, untouched, consistent, sound, scanner_ground}
use Rattle.chunker.specs.Answers.{opened, fed}
use Rattle.chunker.specs.Chunks.{after, cut_chunks, remaining, ends, cuts}
use Rattle.chunker.specs.Method.{byte_at, MaximumPoint, FirstMaximumPoint, Division}
use Rattle.chunker.specs.Peaks.{Peak, told_peak, PeakOf, PeaksOf, peak_of, peaks}
use Rattle.chunker.proofs.laws.ground.Soundness.{window_bounds, opened_fresh, fresh_ground, fed_accepted, fed_refused}
use Rattle.chunker.proofs.laws.Appending.{after_window, cut_chunks_append}
use Rattle.chunker.proofs.laws.Tracking.{byte_at_front, maximum_front, Tracks, tracks_fresh, tracks_after}
use Rattle.chunker.proofs.laws.FirstCut.{Scanned, whole, up_to, scanned}
use Rattle.chunker.proofs.theorems.PublishedMethod.{divides, first_unique}

-- a maximum point stays one when bytes follow
maximum_before : (w : ℕ) (o t : List ℕ) (p : ℕ) → MaximumPoint w o p → MaximumPoint w (o ++ t) p
maximum_before w o t p m =
    let inside = m.window in
    let here = byte_at_front o t p (omega arith) in
    record {
      place = m.place;
      window = omega (arith, length-append o t);
      larger = λ q g k. omega (arith, m.larger q g k, byte_at_front o t q (omega arith));
      not_smaller = λ q g k. omega (arith, m.not_smaller q g k, byte_at_front o t q (omega arith));
    }

-- the first maximum point of what a job has left is that of the chunk that ends w places after it
first_of_chunk : (w : ℕ) (xs : List ℕ) (p : ℕ) → FirstMaximumPoint w xs p → FirstMaximumPoint w (take (p + w) xs) p
first_of_chunk w xs p f =
    let c = take (p + w) xs in
    let rest = drop (p + w) xs in
    let long = length-take-le (p + w) xs f.maximum.window in
    let g : FirstMaximumPoint w (c ++ rest) p = rw (take-append-drop (p + w) xs) f in
    record {
      maximum = maximum_front w c rest p (omega arith) g.maximum;
      first = λ q l m. g.first q l (maximum_before w c rest q m);
    }

-- the peaks of the chunks of a division are w places before their ends
divided_peaks : (w : ℕ) (xs : List ℕ) (cs : List (List ℕ)) (rest : List ℕ) → Division w xs cs rest
    → PeaksOf w cs (map (peak_of w) cs)
unfolding peak_of
divided_peaks w xs [] rest d = tt
divided_peaks w xs (c ∷ cs) rest d =
    let p = d.0 in
    let long = ap length d.2 ∙ length-take-le (p + w) xs d.1.maximum.window in
    let place : p ≡ length c - w = omega arith in
    let first : FirstMaximumPoint w c p = rw d.2 (first_of_chunk w xs p d.1) in
    (record { first = subst (FirstMaximumPoint w c) place first; byte = refl }, divided_peaks w (drop (p + w) xs) cs rest d.3)

-- so are those of the chunks computed
chunk_peaks : (w : ℕ) → 1 ≤ w → (job : List ℕ)
    → PeaksOf w (cut_chunks (fresh w) [] job) (map (peak_of w) (cut_chunks (fresh w) [] job))
chunk_peaks w low job = divided_peaks w job (cut_chunks (fresh w) [] job) (remaining (fresh w) [] job) (divides w low job)

-- the peaks of a job are, in order, the first maximum points of its chunks that cuts end, with their bytes
pub peaks_published : (w : ℕ) → 1 ≤ w → (job : List ℕ) → PeaksOf w (cut_chunks (fresh w) [] job) (peaks w job)
unfolding peaks
peaks_published w low job = chunk_peaks w low job

-- there are no others
pub only_peaks : (w : ℕ) (cs : List (List ℕ)) (ps qs : List Peak) → PeaksOf w cs ps → PeaksOf w cs qs → ps ≡ qs
only_peaks w [] [] [] a b = refl
only_peaks w [] [] (q ∷ qs) a b = absurd b
only_peaks w [] (p ∷ ps) qs a b = absurd a
only_peaks w (c ∷ cs) [] qs a b = absurd a
only_peaks w (c ∷ cs) (p ∷ ps) [] a b = absurd b
only_peaks w (c ∷ cs) (p ∷ ps) (q ∷ qs) a b =
    let place = first_unique w c p.place q.place a.0.first b.0.first in
    let value = sym a.0.byte ∙ (ap (byte_at c) place ∙ b.0.byte) in
    ap₂ ◌∷◌ (ap₂ (λ (x y : ℕ). record { place = x; value = y }) place value) (only_peaks w cs ps qs a.1 b.1)

-- each cut has one
pub one_each : (w : ℕ) (job : List ℕ) → length (peaks w job) ≡ length (cuts w job)
unfolding peaks cuts
one_each w job = length-map (cut_chunks (fresh w) [] job) (peak_of w) ∙ sym (ends_length 0 (cut_chunks (fresh w) [] job))
  where
    ends_length : (n : ℕ) (cs : List (List ℕ)) → length (ends n cs) ≡ length cs
    ends_length n [] = refl
    ends_length n (c ∷ cs) = ap suc (ends_length (n + length c) cs)

-- the scanner that bytes leave with no cut fits them
module _ (w : ℕ) (allowed : window_allowed w ≡ true) (since : List ℕ) (s : Scanner)
    (came : fed (opened w).scanner since ≡ uncut s (length since)) where
  -- it is the one computed, and no chunk has ended
  record Came : Type 0 where
    there : after (fresh w) since ≡ s
    none : cut_chunks (fresh w) [] since ≡ []
    all : remaining (fresh w) [] since ≡ since

  by_since : (f : Fed) → Scanned (fresh w) [] 0 since f → f ≡ uncut s (length since) → Came
  by_since f (whole e c r) h = record { there = ap (λ y. y.scanner) (sym e ∙ h); none = c; all = r }
  by_since f (up_to j p l k e u c r a) h = absurd (true≢false (ap (λ y. y.cut) (sym e ∙ h)))

  fits : Came
  fits =
      by_since (scan (fresh w) 0 since) (scanned (fresh w) [] 0 since)
      (sym (fed_accepted (fresh w) since (fresh_ground w allowed)) ∙ rw (opened_fresh w allowed) at came)

  tracked : Tracks s since
  tracked =
      let t = tracks_after (fresh w) [] since (tracks_fresh w (window_bounds w allowed).0) in
      subst (λ x. Tracks s x) fits.all (subst (λ x. Tracks x (remaining (fresh w) [] since)) fits.there t)

  -- the chunk that a cut ends in a part that follows
  module _ (part : List ℕ) where
    peak_by : (f : Fed) → Scanned s since 0 part f → f.cut ≡ true
        → PeakOf w (since ++ take f.consumed part) (told_peak f)
    peak_by f (whole e c r) cut = absurd (true≢false (sym cut ∙ ap (λ y. y.cut) e))
    peak_by f (up_to j p l k e u c r a) cut =
        let window : s.window ≡ w = ap (λ y. y.window) (sym fits.there) ∙ after_window (fresh w) since in
        let more = cut_chunks (fresh s.window) [] (drop j part) in
        let chunks : cut_chunks (fresh w) [] (since ++ part) ≡ (since ++ take j part) ∷ more =
        cut_chunks_append (fresh w) [] since part ∙ rw (fits.none, fits.there, fits.all) c in
        let all = chunk_peaks w (window_bounds w allowed).0 (since ++ part) in
        let peak : PeakOf w (since ++ take j part) (peak_of w (since ++ take j part)) =
        (subst (λ (cs : List (List ℕ)). PeaksOf w cs (map (peak_of w) cs)) chunks all).0 in
        rw (e, zero-add) (rw (u tracked, window) peak)

-- From an opened scanner `since` is fed with no cut, and leaves s; then a part with a cut. What is told is the first maximum point of
-- the chunk, and its byte
pub told : (w : ℕ) → window_allowed w ≡ true → (since part : List ℕ) (s : Scanner)
    → fed (opened w).scanner since ≡ uncut s (length since) → (fed s part).cut ≡ true
    → PeakOf w (since ++ take (fed s part).consumed part) (told_peak (fed s part))
told w allowed since part s came cut = by_test (accepted (scanner_ground s)) refl
  where
    by_test : (t : Bool) → accepted (scanner_ground s) ≡ t
        → PeakOf w (since ++ take (fed s part).consumed part) (told_peak (fed s part))
    by_test true e =
        let scans = fed_accepted s part (no_ground _ e) in
        peak_by w allowed since s came part (fed s part) (rw scans (scanned s since 0 part)) cut
    by_test false e = absurd (true≢false (sym cut ∙ ap (λ y. y.cut) (fed_refused s part e)))

-- "03 01 03 .. the tie leaving the place at 1", where 03 comes in a part of its own: each premise is met
pub told_tie : PeakOf 2 (3 ∷ 1 ∷ 3 ∷ []) (record { place = 1; value = 3 })
unfolding window_allowed untouched consistent sound scanner_ground opened fed scan move next
told_tie = told 2 refl (3 ∷ []) (1 ∷ 3 ∷ []) (record { window = 2; count = 1; place = 1; value = 3 }) refl refl

-- "without a cut both are 0", and so where the feed is refused
pub untold : (s : Scanner) (part : List ℕ) → (fed s part).cut ≡ false → told_peak (fed s part) ≡ record { place = 0; value = 0 }
untold s part uncut = by_test (accepted (scanner_ground s)) refl
  where
    by_scan : (f : Fed) → Scanned s [] 0 part f → f.cut ≡ false → told_peak f ≡ record { place = 0; value = 0 }
    by_scan f (whole e c r) h = rw e
    by_scan f (up_to j p l k e u c r a) h = absurd (true≢false (sym (ap (λ y. y.cut) e) ∙ h))

    by_test : (t : Bool) → accepted (scanner_ground s) ≡ t → told_peak (fed s part) ≡ record { place = 0; value = 0 }
    by_test true e =
        let scans = fed_accepted s part (no_ground _ e) in
        by_scan (fed s part) (rw scans (scanned s [] 0 part)) uncut
    by_test false e = rw (fed_refused s part e)
