-- What the tests of a scanner's soundness say, as facts, and that feeding bytes keeps them.
use Prim.Native.Nat.{ℕ, zero, suc, ◌+◌, ◌*◌, ◌≤◌, ◌<◌}
use native.Mathlib.Omega.{arith}
use mathlib.Core.Path.{◌≡◌, refl, sym, ◌∙◌, ap}
use mathlib.Core.Bool.{Bool, true, false, ◌||◌, and-eq-true_iff}
use mathlib.Core.List.{List, [], ◌∷◌, ◌++◌}
use lib.Dec.{leb}
use lib.ListN.{get_or, length, drop}
use borrow.Author.Tests.{leb-true, ltb-true, eqb-true, le-leb, lt-ltb, eq-eqb, ne_eqb}
use Rattle.refusal.specs.declared.Refusal.TheVariants.{Window, Unsound}
use Rattle.refusal.specs.Number.{accepted}
use Rattle.scan.specs.declared.Scanner.{Scanner}
use Rattle.scan.specs.declared.Fed.{Fed}
use Rattle.scan.specs.Scanner.{fresh}
use Rattle.chunker.specs.Scanner.{window_allowed, untouched, consistent, sound, scanner_ground, window_ground}
use Rattle.scan.specs.Move.{Move, Rise, Hold, Cut, move, next}
use Rattle.chunker.specs.Answers.{opened, unmoved, fed}
use Rattle.scan.specs.Scan.{stop_at_cut, scan}
use Rattle.chunker.specs.Bytes.{Bytes}
use Rattle.chunker.specs.Chunks.{after}
use Rattle.scan.specs.Limits.{window_limit}
use Rattle.scan.proofs.laws.Soundness.{fresh_sound, next_sound}
use Rattle.scan.proofs.laws.run.Scanning.{stays}
use Rattle.refusal.proofs.laws.Grounds.{none_holds, passed}
use Rattle.refusal.proofs.laws.NoGround.{no_ground}
use Rattle.scan.specs.internal.Sound.{Sound}
use Rattle.refusal.specs.Grounds.{unless}
use Rattle.std.specs.Prelude.{None, Some}

-- what the test of a window says
pub window_bounds : (w : ℕ) → window_allowed w ≡ true → (1 ≤ w) × (w ≤ window_limit)
unfolding window_allowed
window_bounds w e = let k = (and-eq-true_iff (leb 1 w) (leb w window_limit)).0 e in omega (arith, leb-true)

-- the numbers of a scanner of an allowed window, by the tests that make up `sound`
module _ (s : Scanner) (byte : s.value < 256) (low : 1 ≤ s.window) (high : s.window ≤ window_limit) where
  by_tests : (x y : Bool) → untouched s ≡ x → consistent s ≡ y → x || y ≡ true → Sound s
  unfolding untouched consistent
  by_tests true y p q e = let k = simp and-eq-true_iff at p in omega (arith, eqb-true)
  by_tests false y p q e = let k = simp and-eq-true_iff at (q ∙ e) in omega (arith, leb-true, ltb-true)

-- an accepted scanner is sound
pub ground_sound : (s : Scanner) → s.value < 256 → scanner_ground s ≡ None → Sound s
unfolding scanner_ground sound
ground_sound s h e =
    let none = none_holds (window_ground s.window ∷ unless (sound s) Unsound ∷ []) (ap accepted e) in
    let b = window_bounds s.window (passed (window_allowed s.window) Window none.0) in
    by_tests s h b.0 b.1 _ _ refl refl (passed (sound s) Unsound none.1.0)

-- a scanner with no byte since the last cut is untouched, any other consistent
by_count : (s : Scanner) (n : ℕ) → s.count ≡ n → Sound s → sound s ≡ true
unfolding sound untouched consistent
by_count s zero e h =
    rw (eq-eqb s.count 0 (omega arith), eq-eqb s.place 0 (omega arith), eq-eqb s.value 0 (omega arith))
by_count s (suc n) e h =
    rw (
      ne_eqb s.count 0 (λ z. omega arith),
      le-leb 1 s.place (omega arith),
      le-leb s.place s.count h.within,
      lt-ltb s.count (s.place + s.window) h.live,
      le-leb s.place (s.value * s.window + 1) h.reach,
    )

-- a window within the bounds passes the test
pub window_allowed_lem : (w : ℕ) → 1 ≤ w → w ≤ window_limit → window_allowed w ≡ true
unfolding window_allowed
window_allowed_lem w low high = rw (le-leb 1 w low, le-leb w window_limit high)

-- a sound scanner is accepted
pub sound_ground : (s : Scanner) → Sound s → scanner_ground s ≡ None
unfolding scanner_ground
sound_ground s h = rw (window_allowed_lem s.window h.low h.high, by_count s _ refl h)

-- a list whose every member is below 256 is of bytes
pub all_bytes : (xs : List ℕ) → ((i : ℕ) → get_or xs i 0 < 256) → Bytes xs
all_bytes [] h = tt
all_bytes (b ∷ bs) h = (h 0, all_bytes bs (λ i. h (suc i)))

pub bytes_append : (x y : List ℕ) → Bytes x → Bytes y → Bytes (x ++ y)
bytes_append [] y k l = l
bytes_append (b ∷ x) y k l = (k.0, bytes_append x y k.1 l)

pub bytes_parts : (x y : List ℕ) → Bytes (x ++ y) → Bytes x × Bytes y
bytes_parts [] y k = (tt, k)
bytes_parts (b ∷ x) y k = let h = bytes_parts x y k.1 in ((k.0, h.0), h.1)

pub bytes_drop : (j : ℕ) (xs : List ℕ) → Bytes xs → Bytes (drop j xs)
bytes_drop zero xs k = k
bytes_drop (suc j) [] k = k
bytes_drop (suc j) (b ∷ bs) k = bytes_drop j bs k.1

-- bytes keep a scanner sound
pub after_sound : (s : Scanner) (xs : List ℕ) → Bytes xs → Sound s → Sound (after s xs)
unfolding after
after_sound s [] k h = h
after_sound s (b ∷ bs) k h = after_sound (next s b) bs k.1 (next_sound s b k.0 h)

-- the answer to a part ends with one of two scanners
either : (m : Move) (x y : Fed) → Sound x.scanner → Sound y.scanner → Sound (stop_at_cut m x y).scanner
either Rise x y h k = k
either Hold x y h k = k
either Cut x y h k = h

-- reading a part keeps a scanner sound
pub scan_sound : (s : Scanner) (n : ℕ) (xs : List ℕ) → Bytes xs → Sound s → Sound (scan s n xs).scanner
unfolding scan
scan_sound s n [] k h = h
scan_sound s n (b ∷ bs) k h =
    either (move s b) _ _ (fresh_sound s.window h.low h.high)
    (scan_sound (next s b) (suc n) bs k.1 (next_sound s b k.0 h))

-- an accepted scanner reads the part
pub fed_accepted : (s : Scanner) (part : List ℕ) → scanner_ground s ≡ None → fed s part ≡ scan s 0 part
unfolding fed
fed_accepted s part e = rw e

-- any other is handed back
pub fed_refused : (s : Scanner) (part : List ℕ) → accepted (scanner_ground s) ≡ false
    → fed s part ≡ unmoved (scanner_ground s) s
unfolding fed
fed_refused s part e = rw e

-- reading a part finds no ground
scan_accepted : (s : Scanner) (n : ℕ) (xs : List ℕ) → (scan s n xs).refusal ≡ None
unfolding scan
scan_accepted s n [] = refl
scan_accepted s n (b ∷ bs) = by_move (move s b) _ _ refl (scan_accepted (next s b) (suc n) bs)
  where
    by_move : (m : Move) (x y : Fed) → x.refusal ≡ None → y.refusal ≡ None
        → (stop_at_cut m x y).refusal ≡ None
    by_move Rise x y h k = k
    by_move Hold x y h k = k
    by_move Cut x y h k = h

-- feeding reports the scanner's ground
pub fed_ground : (s : Scanner) (part : List ℕ) → (fed s part).refusal ≡ scanner_ground s
fed_ground s part = by_test (accepted (scanner_ground s)) refl
  where
    by_test : (t : Bool) → accepted (scanner_ground s) ≡ t → (fed s part).refusal ≡ scanner_ground s
    by_test true e =
        let g = no_ground _ e in rw (fed_accepted s part g, g) (scan_accepted s 0 part)
    by_test false e = rw (fed_refused s part e)

-- an allowed window is opened with a fresh scanner
pub opened_fresh : (w : ℕ) → window_allowed w ≡ true → (opened w).scanner ≡ fresh w
unfolding opened
opened_fresh w e = rw e

-- a fresh scanner is accepted where its window is allowed
pub fresh_ground : (w : ℕ) → window_allowed w ≡ true → scanner_ground (fresh w) ≡ None
fresh_ground w e = let k = window_bounds w e in sound_ground (fresh w) (fresh_sound w k.0 k.1)

-- and else refused
pub fresh_refused : (w : ℕ) → window_allowed w ≡ false → accepted (scanner_ground (fresh w)) ≡ false
unfolding scanner_ground
fresh_refused w e = rw e

-- .. by ground 1
pub fed_window : (w : ℕ) (part : List ℕ) → window_allowed w ≡ false
    → fed (fresh w) part ≡ unmoved (Some Window) (fresh w)
unfolding fed scanner_ground
fed_window w part e = rw e

-- .. and passes no byte of an empty part
pub fed_nothing : (w : ℕ) (part : List ℕ) → window_allowed w ≡ true → length part ≡ 0
    → fed (fresh w) part ≡ unmoved None (fresh w)
fed_nothing w part e h = rw (fed_accepted (fresh w) part (fresh_ground w e)) (sym (stays (fresh w) 0 part h))
