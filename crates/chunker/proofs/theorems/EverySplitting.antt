-- However a job is split into parts, feeding them gives the chunks of the whole job and tells their peaks, and nothing else.
use Prim.Native.Nat.{ℕ, zero, suc, ◌≤◌, ◌<◌}
use native.Mathlib.Omega.{arith}
use native.Mathlib.Nat.{zero-add}
use mathlib.Core.Path.{◌≡◌, refl, ap, sym, ◌∙◌}
use mathlib.Core.Bool.{Bool, true, false, cond, true≢false}
use mathlib.Core.List.{List, [], ◌∷◌, ◌++◌}
use lib.ListN.{length, take, drop, length-drop}
use Rattle.refusal.specs.Number.{accepted}
use Rattle.scan.specs.declared.Scanner.{Scanner}
use Rattle.scan.specs.declared.Fed.{Fed}
use Rattle.scan.specs.Scanner.{fresh}
use Rattle.chunker.specs.Scanner.{window_allowed, scanner_ground}
use Rattle.chunker.specs.Answers.{opened, unmoved, fed, finished}
use Rattle.scan.specs.Scan.{scan}
use Rattle.chunker.specs.Chunks.{after, cut_chunks, remaining, chunks}
use Rattle.chunker.specs.Peaks.{Peak, told_peak, peak_of, peaks}
use Rattle.chunker.specs.Splitting.{joined, Feeding, cutting, passing, finishing}
use Rattle.chunker.specs.Bytes.{Bytes}
use Rattle.scan.specs.internal.Sound.{Sound}
use Rattle.chunker.proofs.laws.ground.Soundness.{bytes_parts, bytes_drop, window_bounds, opened_fresh, sound_ground, after_sound, fed_accepted, fed_refused}
use Rattle.refusal.proofs.laws.NoGround.{no_ground}
use Rattle.scan.proofs.laws.Soundness.{fresh_sound}
use Rattle.chunker.proofs.laws.Tracking.{Tracks, tracks_fresh, tracks_after}
use Rattle.chunker.proofs.laws.FirstCut.{Scanned, whole, up_to, scanned, chunks_from, chunks_whole, chunks_cut}
use Rattle.chunker.proofs.laws.FirstCut.{peaks_from, peaks_whole, peaks_cut}
use Rattle.std.specs.Prelude.{None}

-- what feeding an accepted scanner comes to
fed_scanned : (s : Scanner) (since part : List ℕ) → scanner_ground s ≡ None → Scanned s since 0 part (fed s part)
fed_scanned s since part e = rw (fed_accepted s part e) (scanned s since 0 part)

-- a feed that ends with a cut leaves a fresh scanner
pub cut_fresh : (s : Scanner) (part : List ℕ) → (fed s part).cut ≡ true → (fed s part).scanner ≡ fresh s.window
cut_fresh s part t = by_test (accepted (scanner_ground s)) refl
  where
    by_scan : (f : Fed) → Scanned s [] 0 part f → f.cut ≡ true → f.scanner ≡ fresh s.window
    by_scan f (whole e c r) h = cc
    by_scan f (up_to j p l h e u c r a) k = rw e

    by_test : (x : Bool) → accepted (scanner_ground s) ≡ x → (fed s part).scanner ≡ fresh s.window
    by_test true a = by_scan (fed s part) (fed_scanned s [] part (no_ground _ a)) t
    by_test false a = let e = fed_refused s part a in cc

-- a part that is read comes from an accepted scanner
fed_ground : (s : Scanner) (part : List ℕ) → (fed s part).refusal ≡ None → scanner_ground s ≡ None
unfolding fed
fed_ground s part e = by_test (accepted (scanner_ground s)) refl e
  where
    by_test : (x : Bool) → accepted (scanner_ground s) ≡ x
        → (cond x (scan s 0 part) (unmoved (scanner_ground s) s)).refusal
        ≡ None
        → scanner_ground s ≡ None
    by_test true a e = no_ground _ a
    by_test false a e = e

-- a feed that is accepted and not empty consumes at least a byte
pub feed_consumes : (s : Scanner) (part : List ℕ) → (fed s part).refusal ≡ None → 1 ≤ length part
    → 1 ≤ (fed s part).consumed
feed_consumes s part e some = by_scan (fed s part) (fed_scanned s [] part (fed_ground s part e))
  where
    by_scan : (f : Fed) → Scanned s [] 0 part f → 1 ≤ f.consumed
    by_scan f (whole e c r) = rw e (omega arith)
    by_scan f (up_to j p l h e u c r a) = rw e (omega arith)

-- feeding the parts gives the computed chunks, and tells their peaks
abbrev Feeds : Scanner → List ℕ → List (List ℕ) → Type 0
Feeds s since parts =
    Feeding s since parts (chunks_from s since (joined parts)) (peaks_from s since (joined parts))

-- one part, where the rest of it after a cut and the parts after it can be fed
module _ (s : Scanner) (since part : List ℕ) (parts : List (List ℕ)) (t : Tracks s since)
    (again : (j : ℕ) → 1 ≤ j → j ≤ length part → Feeds (fresh s.window) [] (drop j part ∷ parts))
    (onwards : remaining s since part ≡ since ++ part → Feeds (after s part) (since ++ part) parts) where
  feed_by : Scanned s since 0 part (fed s part) → Feeds s since (part ∷ parts)
  feed_by (whole e c r) =
      let cs = chunks_from (after s part) (since ++ part) (joined parts) in
      let ps = peaks_from (after s part) (since ++ part) (joined parts) in
      let rest : Feeding (fed s part).scanner (since ++ part) parts cs ps = rw e (onwards r) in
      rw (chunks_whole s since part (joined parts) c r, peaks_whole s since part (joined parts) c r)
      (passing {s = s} {part = part} (rw e) (rw e) (rw (e, zero-add)) rest)
  feed_by (up_to j p l h e u c r a) =
      let q : (fed s part).consumed ≡ j = rw (e, zero-add) in
      let left = drop (fed s part).consumed part in
      let cs = chunks_from (fresh s.window) [] (left ++ joined parts) in
      let ps = peaks_from (fresh s.window) [] (left ++ joined parts) in
      let told : peak_of s.window (since ++ take j part) ≡ told_peak (fed s part) = rw e (sym (u t)) in
      let rest : Feeding (fed s part).scanner [] (left ∷ parts) cs ps = rw (e, zero-add) (again j l h) in
      rw (chunks_cut s since part (joined parts) (fresh s.window) j c r a, peaks_cut s since part (joined parts) j c r a, told, ← q)
      (cutting {s = s} {part = part} (rw e) (rw e) rest)

-- a part of fewer than n bytes, where the parts after it can be fed
feed_part : (parts : List (List ℕ))
    → ((s : Scanner) (since : List ℕ) → Sound s → Tracks s since → Feeds s since parts)
    → (n : ℕ) (s : Scanner) (since part : List ℕ) → length part < n → Bytes part → Sound s → Tracks s since
    → Feeds s since (part ∷ parts)
feed_part parts later zero s since part l k h t = absurd (omega arith)
feed_part parts later (suc n) s since part l k h t =
    let f = fresh_sound s.window h.low h.high in
    let next = feed_part parts later n (fresh s.window) [] in
    feed_by s since part parts t
    (λ j a b. next (drop j part) (rw length-drop (omega arith)) (bytes_drop j part k) f (tracks_fresh s.window h.low))
    (λ r. later (after s part) (since ++ part) (after_sound s part k h) (rw r at (tracks_after s since part t)))
    (fed_scanned s since part (sound_ground s h))

-- the parts after one another
feed_parts : (parts : List (List ℕ)) → Bytes (joined parts) → (s : Scanner) (since : List ℕ) → Sound s
    → Tracks s since → Feeds s since parts
unfolding cut_chunks remaining finished
feed_parts [] k s since h t = let g = sound_ground s h in finishing {s = s} {since = since} (rw g) (rw g t.counts)
feed_parts (part ∷ parts) k s since h t =
    let b = bytes_parts part (joined parts) k in
    feed_part parts (feed_parts parts b.1) (suc (length part)) s since part (omega arith) b.0 h t

-- feeding the parts of a job, however it is split, gives the chunks of the job, and tells their peaks
pub every_splitting : (w : ℕ) → window_allowed w ≡ true → (parts : List (List ℕ)) → Bytes (joined parts)
    → Feeding (opened w).scanner [] parts (chunks w (joined parts)) (peaks w (joined parts))
unfolding chunks peaks
every_splitting w e parts k =
    let b = window_bounds w e in
    rw (opened_fresh w e) (feed_parts parts k (fresh w) [] (fresh_sound w b.0 b.1) (tracks_fresh w b.0))

-- the chunks after a part with a cut
cut_chunks_lem : (s : Scanner) (since part rest : List ℕ) (cs : List (List ℕ)) (f : Fed) → Scanned s since 0 part f
    → f.cut ≡ true → cs ≡ chunks_from f.scanner [] (drop f.consumed part ++ rest)
    → (since ++ take f.consumed part) ∷ cs ≡ chunks_from s since (part ++ rest)
cut_chunks_lem s since part rest cs f (whole e c r) t g = cc
cut_chunks_lem s since part rest cs f (up_to j p l h e u c r a) t g =
    rw (g, chunks_cut s since part rest (fresh s.window) j c r a, e, zero-add)

-- the peaks from that cut on
cut_peaks : (s : Scanner) (since part rest : List ℕ) (ps : List Peak) (f : Fed) → Scanned s since 0 part f → Tracks s since
    → f.cut ≡ true → ps ≡ peaks_from f.scanner [] (drop f.consumed part ++ rest)
    → told_peak f ∷ ps ≡ peaks_from s since (part ++ rest)
cut_peaks s since part rest ps f (whole e c r) k t g = cc
cut_peaks s since part rest ps f (up_to j p l h e u c r a) k t g =
    rw (g, peaks_cut s since part rest j c r a, ← (u k), e, zero-add)

-- the chunks and the peaks after a part with no cut, and the scanner there
passed_chunks : (s : Scanner) (since part rest : List ℕ) (f : Fed) → Scanned s since 0 part f → f.cut ≡ false
    → chunks_from f.scanner (since ++ part) rest ≡ chunks_from s since (part ++ rest)
passed_chunks s since part rest f (whole e c r) t = rw (chunks_whole s since part rest c r, e)
passed_chunks s since part rest f (up_to j p l h e u c r a) t = cc

passed_peaks : (s : Scanner) (since part rest : List ℕ) (f : Fed) → Scanned s since 0 part f → f.cut ≡ false
    → peaks_from f.scanner (since ++ part) rest ≡ peaks_from s since (part ++ rest)
passed_peaks s since part rest f (whole e c r) t = rw (peaks_whole s since part rest c r, e)
passed_peaks s since part rest f (up_to j p l h e u c r a) t = cc

passed_tracks : (s : Scanner) (since part : List ℕ) (f : Fed) → Scanned s since 0 part f → f.cut ≡ false → Tracks s since
    → Tracks f.scanner (since ++ part)
passed_tracks s since part f (whole e c r) t k = rw e (rw r at (tracks_after s since part k))
passed_tracks s since part f (up_to j p l h e u c r a) t k = absurd (true≢false (sym (ap (λ y. y.cut) e) ∙ t))

-- feeding gives no other chunks than the computed ones
fed_chunks : {s : Scanner} {since : List ℕ} {parts cs : List (List ℕ)} {ps : List Peak} → Feeding s since parts cs ps
    → cs ≡ chunks_from s since (joined parts)
unfolding cut_chunks remaining
fed_chunks (cutting {s} {since} {part} {parts} {cs} r c g) =
    let h = fed_scanned s since part (fed_ground s part r) in
    cut_chunks_lem s since part (joined parts) cs (fed s part) h c (fed_chunks g)
fed_chunks (passing {s} {since} {part} {parts} {cs} r c n g) =
    let h = fed_scanned s since part (fed_ground s part r) in
    fed_chunks g ∙ passed_chunks s since part (joined parts) (fed s part) h c
fed_chunks (finishing r n) = refl

-- and tells no other peaks
fed_peaks : {s : Scanner} {since : List ℕ} {parts cs : List (List ℕ)} {ps : List Peak} → Feeding s since parts cs ps
    → Tracks s since → ps ≡ peaks_from s since (joined parts)
unfolding cut_chunks
fed_peaks (cutting {s} {since} {part} {parts} {cs} {ps} r c g) t =
    let h = fed_scanned s since part (fed_ground s part r) in
    let again : Tracks (fed s part).scanner [] = rw (cut_fresh s part c) (tracks_fresh s.window t.positive) in
    cut_peaks s since part (joined parts) ps (fed s part) h t c (fed_peaks g again)
fed_peaks (passing {s} {since} {part} {parts} {cs} {ps} r c n g) t =
    let h = fed_scanned s since part (fed_ground s part r) in
    fed_peaks g (passed_tracks s since part (fed s part) h c t) ∙ passed_peaks s since part (joined parts) (fed s part) h c
fed_peaks (finishing r n) t = refl

-- feeding the parts of a job gives no chunks but those of the job, and tells no peaks but theirs
pub only_splitting : (w : ℕ) → window_allowed w ≡ true → (parts cs : List (List ℕ)) (ps : List Peak)
    → Feeding (opened w).scanner [] parts cs ps → (cs ≡ chunks w (joined parts)) × (ps ≡ peaks w (joined parts))
unfolding chunks peaks
only_splitting w e parts cs ps g =
    let fed_from = rw (opened_fresh w e) at g in
    (fed_chunks fed_from, fed_peaks fed_from (tracks_fresh w (window_bounds w e).0))
