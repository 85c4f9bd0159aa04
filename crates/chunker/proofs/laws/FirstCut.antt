-- What reading a part comes to, and the chunks of a job whose part has been read.
use Prim.Native.Nat.{ℕ, suc, ◌+◌, ◌≤◌}
use native.Mathlib.Omega.{arith}
use native.Mathlib.Nat.{add-zero, add-suc, suc-add}
use native.Mathlib.Numerals.{add-one}
use mathlib.Core.Path.{◌≡◌, refl, ap, sym, ◌∙◌}
use mathlib.Core.List.{List, [], ◌∷◌, ◌++◌, map, append_assoc, append-nil}
use lib.ListN.{length, take, drop}
use Rattle.scan.specs.declared.Scanner.{Scanner}
use Rattle.scan.specs.declared.Fed.{Fed}
use Rattle.scan.specs.Scanner.{fresh}
use Rattle.scan.specs.Move.{Move, Rise, Hold, Cut, move, next}
use Rattle.scan.specs.Scan.{uncut, cut_after, stop_at_cut, scan}
use Rattle.chunker.specs.Chunks.{kept, ended, after, cut_chunks, remaining, last_chunk}
use Rattle.chunker.specs.Peaks.{Peak, peak_of}
use Rattle.scan.proofs.laws.Moves.{Moved, cuts, facts, next_by}
use Rattle.chunker.proofs.laws.Appending.{next_window, after_window, cut_chunks_append, remaining_append}
use Rattle.chunker.proofs.laws.Tracking.{Tracks, tracks_peak, tracks_next}

-- the answer f to the part xs, with n bytes consumed before it: the part is consumed whole, with no cut, or up to its
-- byte j, which ends a chunk; then the peak of that chunk is told, if the scanner fits the bytes since the last cut
pub data Scanned (s : Scanner) (since : List ℕ) (n : ℕ) (xs : List ℕ) (f : Fed) : Type 0 where
  whole : f ≡ uncut (after s xs) (n + length xs) → cut_chunks s since xs ≡ []
      → remaining s since xs ≡ since ++ xs → Scanned s since n xs f
  up_to : (j : ℕ) (p : Peak) → 1 ≤ j → j ≤ length xs → f ≡ cut_after s.window (n + j) p.place p.value
      → (Tracks s since → p ≡ peak_of s.window (since ++ take j xs))
      → cut_chunks s since xs ≡ (since ++ take j xs) ∷ cut_chunks (fresh s.window) [] (drop j xs)
      → remaining s since xs ≡ remaining (fresh s.window) [] (drop j xs)
      → after s xs ≡ after (fresh s.window) (drop j xs) → Scanned s since n xs f

module _ (s : Scanner) (since : List ℕ) (n b : ℕ) (bs : List ℕ) where
  -- a byte that ends no chunk, before the rest of a part
  on : (f : Fed) → ((x : List ℕ) → kept (move s b) x ≡ x) → ((x : List ℕ) → ended (move s b) x ≡ [])
      → Scanned (next s b) (since ++ (b ∷ [])) (suc n) bs f → Scanned s since n (b ∷ bs) f
  unfolding after cut_chunks remaining
  on f k d (whole e c r) =
      whole (e ∙ ap (uncut (after (next s b) bs)) (omega arith))
      (rw (k (since ++ (b ∷ [])), d (since ++ (b ∷ []))) c)
      (rw (k (since ++ (b ∷ []))) (r ∙ append_assoc since (b ∷ []) bs))
  on f k d (up_to j p l h e u c r a) =
      let w = ap fresh (next_window s b) in
      let grown = append_assoc since (b ∷ []) (take j bs) in
      up_to (suc j) p (omega arith) (omega arith) (rw add-suc (rw (w, suc-add) at e))
      (λ t. rw (next_window s b, grown) at (u (rw (k (since ++ (b ∷ []))) at (tracks_next s since b t))))
      (rw (k (since ++ (b ∷ [])), d (since ++ (b ∷ []))) (rw (w, grown) at c))
      (rw (k (since ++ (b ∷ []))) (rw w at r)) (rw w at a)

  -- a byte that ends a chunk
  ends : Moved s b Cut → move s b ≡ Cut
      → Scanned s since n (b ∷ bs) (cut_after s.window (suc n) s.place s.value)
  unfolding after cut_chunks remaining
  ends (cuts h g k) e =
      let t = next_by s b Cut e in
      up_to 1 (record { place = s.place; value = s.value }) (omega arith) (omega arith) (rw add-one)
      (λ u. tracks_peak s since b u h k) (rw (e, t)) (rw (e, t)) (rw t)

  -- a byte, by its move, before the rest of a part
  by_move : (f : Fed) (m : Move) → move s b ≡ m → Moved s b m → Scanned (next s b) (since ++ (b ∷ [])) (suc n) bs f
      → Scanned s since n (b ∷ bs) (stop_at_cut m (cut_after s.window (suc n) s.place s.value) f)
  by_move f Rise e k h = on f (λ x. rw e) (λ x. rw e) h
  by_move f Hold e k h = on f (λ x. rw e) (λ x. rw e) h
  by_move f Cut e k h = ends k e

-- the answer that `scan` computes
pub scanned : (s : Scanner) (since : List ℕ) (n : ℕ) (xs : List ℕ) → Scanned s since n xs (scan s n xs)
unfolding scan after cut_chunks remaining
scanned s since n [] = whole (rw add-zero) refl (sym (append-nil since))
scanned s since n (b ∷ bs) =
    by_move s since n b bs _ (move s b) refl (facts s b) (scanned (next s b) (since ++ (b ∷ [])) (suc n) bs)

-- the chunks of a job of which `since` are the bytes since the last cut, and xs the bytes to come
abbrev pub chunks_from : Scanner → List ℕ → List ℕ → List (List ℕ)
chunks_from s since xs = cut_chunks s since xs ++ last_chunk (remaining s since xs)

module _ (s : Scanner) (since x y : List ℕ) where
  -- a part with no cut
  pub chunks_whole : cut_chunks s since x ≡ [] → remaining s since x ≡ since ++ x
      → chunks_from s since (x ++ y) ≡ chunks_from (after s x) (since ++ x) y
  chunks_whole c r = rw (cut_chunks_append s since x y, remaining_append s since x y, c, r)

  -- a part whose byte j ends a chunk
  pub chunks_cut : (t : Scanner) (j : ℕ) → cut_chunks s since x ≡ (since ++ take j x) ∷ cut_chunks t [] (drop j x)
      → remaining s since x ≡ remaining t [] (drop j x) → after s x ≡ after t (drop j x)
      → chunks_from s since (x ++ y) ≡ (since ++ take j x) ∷ chunks_from t [] (drop j x ++ y)
  chunks_cut t j c r a =
      rw (
        cut_chunks_append s since x y,
        remaining_append s since x y,
        c,
        r,
        a,
        cut_chunks_append t [] (drop j x) y,
        remaining_append t [] (drop j x) y,
      )

-- the peaks of the chunks that cuts end there
abbrev pub peaks_from : Scanner → List ℕ → List ℕ → List Peak
peaks_from s since xs = map (peak_of s.window) (cut_chunks s since xs)

module _ (s : Scanner) (since x y : List ℕ) where
  -- a part with no cut
  pub peaks_whole : cut_chunks s since x ≡ [] → remaining s since x ≡ since ++ x
      → peaks_from s since (x ++ y) ≡ peaks_from (after s x) (since ++ x) y
  peaks_whole c r = rw (cut_chunks_append s since x y, c, r, after_window s x)

  -- a part whose byte j ends a chunk
  pub peaks_cut : (j : ℕ) → cut_chunks s since x ≡ (since ++ take j x) ∷ cut_chunks (fresh s.window) [] (drop j x)
      → remaining s since x ≡ remaining (fresh s.window) [] (drop j x) → after s x ≡ after (fresh s.window) (drop j x)
      → peaks_from s since (x ++ y)
      ≡ peak_of s.window (since ++ take j x) ∷ peaks_from (fresh s.window) [] (drop j x ++ y)
  peaks_cut j c r a =
      rw (cut_chunks_append s since x y, c, r, a, cut_chunks_append (fresh s.window) [] (drop j x) y)
