-- Whatever bytes stand before an ending with a kept maximum, a chunk ends w places after the maximum.
use Prim.Native.Nat.{ℕ, suc, ◌+◌, ◌-◌, ◌≤◌, ◌<◌}
use native.Mathlib.Omega.{arith}
use mathlib.Core.Path.{◌≡◌, refl}
use mathlib.Core.List.{List, [], ◌∷◌, ◌++◌, append_assoc}
use lib.ListN.{length, get_or, take, drop, length-take, length-drop}
use lib.Seq.{take-add, take-suc, get_or-take, get_or-drop}
use Rattle.scan.specs.declared.Scanner.{Scanner}
use Rattle.scan.specs.Scanner.{fresh}
use Rattle.scan.specs.Move.{Move, Rise, Hold, Cut, move, moved, next, rise, hold}
use Rattle.chunker.specs.Chunks.{kept, after, remaining}
use Rattle.chunker.specs.KeptMaximum.{KeptMaximum}
use Rattle.scan.proofs.laws.Moves.{Moved, starts, rises, holds, cuts, facts}
use Rattle.chunker.proofs.laws.Appending.{after_append, remaining_append, after_window}
use Rattle.chunker.proofs.laws.Tracking.{Tracks, tracks_fresh, tracks_rise, tracks_hold}

-- a scanner that fits the bytes since the last cut fits them after each of the moves
tracks_moved : (s : Scanner) (o : List ℕ) (b : ℕ) → Tracks s o → {m : Move} → Moved s b m
    → Tracks (moved m s b) (kept m (o ++ (b ∷ [])))
tracks_moved s o b t (starts h) = tracks_rise s o b t (λ q l r. omega arith)
tracks_moved s o b t (rises h) = tracks_rise s o b t (λ q l r. omega (arith, t.most q r))
tracks_moved s o b t (holds h g k) = tracks_hold s o b t h g k
tracks_moved s o b t (cuts h g k) = tracks_fresh s.window t.positive

-- a scanner that fits the bytes since the last cut fits them after any bytes
pub tracks_after : (x : List ℕ) (s : Scanner) (o : List ℕ) → Tracks s o → Tracks (after s x) (remaining s o x)
unfolding after remaining next
tracks_after [] s o t = t
tracks_after (b ∷ x) s o t = tracks_after x _ _ (tracks_moved s o b t (facts s b))

-- each byte of a list is smaller than v
abbrev Smaller : ℕ → List ℕ → Type 0
Smaller v m = (i : ℕ) → i < length m → get_or m i 0 < v

-- no byte of a list is larger than v
abbrev NoLarger : ℕ → List ℕ → Type 0
NoLarger v t = (i : ℕ) → i < length t → get_or t i 0 ≤ v

module _ (v : ℕ) (positive : 1 ≤ v) where
  -- a byte smaller than v keeps the value smaller than v, whatever the move
  value_moved : (m : Move) (s : Scanner) (b : ℕ) → s.value < v → b < v → (moved m s b).value < v
  value_moved Rise s b h g = g
  value_moved Hold s b h g = h
  value_moved Cut s b h g = positive

  -- the value stays smaller than v through bytes smaller than v
  value_after : (m : List ℕ) (s : Scanner) → Smaller v m → s.value < v → (after s m).value < v
  unfolding after next
  value_after [] s u h = h
  value_after (b ∷ m) s u h =
      value_after m (next s b) (λ i l. u (suc i) (omega arith)) (value_moved (move s b) s b h (u 0 (omega arith)))

  -- after the bytes m, within which its largest byte's window ends, a scanner's value is smaller than v
  abbrev EndsBelow : List ℕ → Type 0
  EndsBelow m = (s : Scanner) → s.count < s.place + s.window → s.place + s.window ≤ s.count + length m
      → (after s m).value < v

  -- the first of the bytes m makes one of the moves
  ends_below_moved : (b : ℕ) (m : List ℕ) → Smaller v (b ∷ m) → EndsBelow m → (s : Scanner)
      → s.place + s.window ≤ s.count + suc (length m) → {a : Move} → Moved s b a → (after (moved a s b) m).value < v
  ends_below_moved b m u ih s h (starts g) = value_after m _ (λ i l. u (suc i) (omega arith)) (u 0 (omega arith))
  ends_below_moved b m u ih s h (rises g) = value_after m _ (λ i l. u (suc i) (omega arith)) (u 0 (omega arith))
  ends_below_moved b m u ih s h (holds g l k) = ih (hold s) (omega arith) (omega arith)
  ends_below_moved b m u ih s h (cuts g l k) = value_after m _ (λ i l. u (suc i) (omega arith)) positive

  -- it is so where each byte of m is smaller than v
  ends_below : (m : List ℕ) → Smaller v m → EndsBelow m
  unfolding after next
  ends_below [] u s h g = absurd (omega arith)
  ends_below (b ∷ m) u s h g =
      ends_below_moved b m u (ends_below m (λ i l. u (suc i) (omega arith))) s (omega arith) (facts s b)

-- a byte larger than the value becomes the largest
rise_moved : (s : Scanner) (v : ℕ) → s.value < v → {m : Move} → Moved s v m → moved m s v ≡ rise s v
rise_moved s v h (starts g) = refl
rise_moved s v h (rises g) = refl
rise_moved s v h (holds g l k) = absurd (omega arith)
rise_moved s v h (cuts g l k) = absurd (omega arith)

-- after the bytes t, with which its largest byte's window ends, a scanner is fresh and no byte remains
abbrev EndsFresh : List ℕ → Type 0
EndsFresh t = (s : Scanner) (since : List ℕ) → 1 ≤ s.count → NoLarger s.value t → s.count < s.place + s.window
    → s.place + s.window ≡ s.count + length t → (after s t ≡ fresh s.window) × (remaining s since t ≡ [])

-- a list of no length has no member
no_bytes : (t : List ℕ) → length t ≡ 0 → t ≡ []
no_bytes [] h = refl
no_bytes (b ∷ t) h = absurd (omega arith)

-- the first of the bytes t makes one of the moves
ends_fresh_moved : (b : ℕ) (t : List ℕ) → EndsFresh t → (s : Scanner) (since : List ℕ) → 1 ≤ s.count
    → NoLarger s.value (b ∷ t) → s.place + s.window ≡ s.count + suc (length t) → {m : Move} → Moved s b m
    → (after (moved m s b) t ≡ fresh s.window) × (remaining (moved m s b) (kept m since) t ≡ [])
unfolding after remaining
ends_fresh_moved b t ih s since h u e (starts g) = absurd (omega arith)
ends_fresh_moved b t ih s since h u e (rises g) = absurd (omega (arith, u 0 (omega arith)))
ends_fresh_moved b t ih s since h u e (holds g l k) =
    ih (hold s) since (omega arith) (λ i l. u (suc i) (omega arith)) (omega arith) (omega arith)
ends_fresh_moved b t ih s since h u e (cuts g l k) = rw (no_bytes t (omega arith)) (refl, refl)

-- it is so where no byte of t is larger than the value
ends_fresh : (t : List ℕ) → EndsFresh t
unfolding after remaining next
ends_fresh [] s since h u l e = absurd (omega arith)
ends_fresh (b ∷ t) s since h u l e = ends_fresh_moved b t (ends_fresh t) s (since ++ (b ∷ [])) h u e (facts s b)

-- after the job a scanner is fresh, and no byte remains
pub record CutAfter (w : ℕ) (job : List ℕ) : Type 0 where
  pub afresh : after (fresh w) job ≡ fresh w
  pub none : remaining (fresh w) [] job ≡ []

module _ (w : ℕ) (h : 1 ≤ w) where
  -- a chunk ends w places after a byte v that has w smaller bytes before it and w bytes after it that are not larger
  cut_after_lem : (z m : List ℕ) (v : ℕ) (t : List ℕ) → length m ≡ w → length t ≡ w → Smaller v m → NoLarger v t
      → CutAfter w (z ++ (m ++ v ∷ t))
  unfolding after remaining next
  cut_after_lem z m v t lm lt u n =
      let s = after (fresh w) z in
      let tracks = tracks_after z (fresh w) [] (tracks_fresh w h) in
      let window = after_window (fresh w) z in
      let low = ends_below v (omega (arith, u 0 (omega arith))) m u s tracks.live (omega arith) in
      let s' = after s m in
      let since = remaining s (remaining (fresh w) [] z) m in
      let window' = after_window s m in
      let up = rise_moved s' v low (facts s' v) in
      let done = ends_fresh t (rise s' v) (kept (move s' v) (since ++ (v ∷ []))) (omega arith) n (omega arith) (omega arith) in
      record {
        afresh = rw (after_append (fresh w) z (m ++ v ∷ t), after_append s m (v ∷ t), up, done.0, window', window);
        none = rw (remaining_append (fresh w) [] z (m ++ v ∷ t), remaining_append s _ m (v ∷ t), up) done.1;
      }

  -- the bytes up to w places after the place k = n + w + 1
  kept_split : (e : List ℕ) (n : ℕ) → suc (n + w) + w ≤ length e → take (suc (n + w) + w) e
      ≡ take n e ++ (take w (drop n e) ++ get_or e (n + w) 0 ∷ take w (drop (suc (n + w)) e))
  kept_split e n g =
      rw (take-add (suc (n + w)) w e, take-suc e (n + w) 0 (omega arith), take-add n w e)
      (simp append_assoc)

  -- the maximum is at the place k = n + w + 1
  kept_cut_from : (x e : List ℕ) (n : ℕ) → KeptMaximum w e (suc (n + w)) → CutAfter w (x ++ take (suc (n + w) + w) e)
  kept_cut_from x e n k =
      rw (kept_split e n k.after, ← append_assoc x (take n e) _)
      (cut_after_lem (x ++ take n e) (take w (drop n e)) _ (take w (drop (suc (n + w)) e)) before behind smaller no_larger)
    where
      before : length (take w (drop n e)) ≡ w
      before = omega (arith, k.after, length-take w (drop n e), length-drop n e)

      behind : length (take w (drop (suc (n + w)) e)) ≡ w
      behind = omega (arith, k.after, length-take w (drop (suc (n + w)) e), length-drop (suc (n + w)) e)

      smaller : Smaller (get_or e (n + w) 0) (take w (drop n e))
      smaller i l =
          rw (get_or-take w (drop n e) i 0 (omega (arith, before)), get_or-drop n e i 0)
          (k.larger (suc (n + i)) (omega arith) (omega (arith, before)))

      no_larger : NoLarger (get_or e (n + w) 0) (take w (drop (suc (n + w)) e))
      no_larger i l =
          rw (get_or-take w (drop (suc (n + w)) e) i 0 (omega (arith, behind)), get_or-drop (suc (n + w)) e i 0)
          (k.not_smaller (suc (suc (n + w) + i)) (omega arith) (omega (arith, behind)))

  -- w places after a kept maximum a chunk ends, whatever stands before
  pub kept_cut : (x e : List ℕ) (k : ℕ) → KeptMaximum w e k → CutAfter w (x ++ take (k + w) e)
  kept_cut x e k m =
      let at : suc (k - suc w + w) ≡ k = omega (arith, m.before) in
      rw at at (kept_cut_from x e (k - suc w) (rw at m))
