-- Demand 2 of a C program that feeds a job in parts: the cuts are those of the published method for every splitting, and so are
-- the peaks that are told.
use Prim.Native.Nat.{ℕ, ◌<◌}
use native.Mathlib.Omega.{arith}
use mathlib.Core.Path.{◌≡◌, refl, ap, ap₂, sym, ◌∙◌}
use mathlib.Core.Bool.{Bool, true, false, cond, ◌&&◌, and-eq-true_iff, false≢true}
use mathlib.Core.List.{List, [], ◌∷◌}
use lib.Dec.{leb}
use lib.ListN.{length, get_or, drop}
use borrow.Author.Tests.{eq-eqb, le-leb}
use Rattle.refusal.specs.Number.{number_of, accepted}
use Rattle.refusal.specs.Grounds.{unless}
use Rattle.refusal.specs.declared.Refusal.TheVariants.{Window, Unsound}
use Rattle.refusal.proofs.laws.Grounds.{none_holds, passed}
use Rattle.refusal.proofs.laws.NoGround.{no_ground, accepted_number}
use Rattle.scan.specs.declared.Scanner.{Scanner}
use Rattle.scan.specs.declared.Fed.{Fed}
use Rattle.chunker.specs.Bytes.{Bytes}
use Rattle.chunker.specs.Scanner.{window_allowed, window_ground, sound, scanner_ground}
use Rattle.chunker.specs.Answers as chunker
use Rattle.chunker.specs.Answers.{fed, finished}
use Rattle.chunker.specs.Chunks.{chunks}
use Rattle.chunker.specs.Peaks.{Peak, told_peak, peaks}
use Rattle.chunker.specs.Splitting as splitting
use Rattle.chunker.specs.Splitting.{joined, Feeding}
use Rattle.chunker.proofs.laws.ground.Soundness.{ground_sound, fed_ground, fed_accepted, scan_sound, bytes_parts, bytes_append, bytes_drop, opened_fresh}
use Rattle.chunker.proofs.theorems.Peaks.{untold}
use Rattle.chunker.proofs.theorems.EverySplitting.{every_splitting, only_splitting}
use Rattle.numbers.specs.Scanning.{numbers_of, scanner_of, told}
use Rattle.hirunvel.specs.Scanning.{numbers_ground, scanner_opened, scanner_fed, scanner_finished}
use Rattle.promises.specs.FeedCalls.{FeedCalls, cutting, passing, finishing}
use Rattle.std.specs.Prelude.{None}

-- where no ground holds of four numbers, none holds of their scanner
scanner_accepted : (n : List ℕ) → accepted (numbers_ground n) ≡ true → scanner_ground (scanner_of n) ≡ None
unfolding numbers_ground scanner_ground
scanner_accepted n h =
    let none = none_holds
    (window_ground (get_or n 0 0) ∷ unless (leb (get_or n 3 0) 255 && sound (scanner_of n)) Unsound ∷ [])
    h in
    let both = passed (leb (get_or n 3 0) 255 && sound (scanner_of n)) Unsound none.1.0 in
    let tests = (and-eq-true_iff (leb (get_or n 3 0) 255) (sound (scanner_of n))).0 both in
    let window = passed (window_allowed (get_or n 0 0)) Window none.0 in
    rw (window, tests.1)

-- a call of hirunvel_scanner_feed that returns 0 is a feed
record FeedCall (n part : List ℕ) : Type 0 where
  refusal : (fed (scanner_of n) part).refusal ≡ None
  scanner : (scanner_fed n part).scanner ≡ numbers_of (fed (scanner_of n) part).scanner
  tells : (scanner_fed n part).fed ≡ told (fed (scanner_of n) part)

feed_called : (n part : List ℕ) → (scanner_fed n part).refusal ≡ 0 → FeedCall n part
unfolding scanner_fed
feed_called n part r = by_test (accepted (numbers_ground n)) refl
  where
    by_test : (t : Bool) → accepted (numbers_ground n) ≡ t → FeedCall n part
    by_test true e =
        record {
          refusal = fed_ground (scanner_of n) part ∙ scanner_accepted n e;
          scanner = rw e;
          tells = rw e;
        }
    by_test false e = absurd (false≢true (sym e ∙ accepted_number (numbers_ground n) ∙ eq-eqb (number_of (numbers_ground n)) 0 (rw e at r)))

-- a cut is told by 1, and none by 0
record Tells (f : Fed) (n m : ℕ) (p : Peak) : Type 0 where
  consumed : f.consumed ≡ n
  cut : cond f.cut 1 0 ≡ m
  peak : told_peak f ≡ p

tells_by : (f : Fed) (n m : ℕ) (p : Peak) → told f ≡ n ∷ m ∷ p.place ∷ p.value ∷ [] → Tells f n m p
tells_by f n m p e =
    record {
      consumed = ap (λ l. get_or l 0 0) e;
      cut = ap (λ l. get_or l 1 0) e;
      peak = ap₂ (λ (x y : ℕ). record { place = x; value = y }) (ap (λ l. get_or l 2 0) e) (ap (λ l. get_or l 3 0) e);
    }

one_cut : (t : Bool) → ◌≡◌ {A = ℕ} (cond t 1 0) 1 → t ≡ true
one_cut true e = refl
one_cut false e = absurd (omega arith)

no_cut : (t : Bool) → ◌≡◌ {A = ℕ} (cond t 1 0) 0 → t ≡ false
no_cut true e = absurd (omega arith)
no_cut false e = refl

-- a call of hirunvel_scanner_finish that returns 0 is a finish
finish_called : (n : List ℕ) → (scanner_finished n).refusal ≡ 0
    → ((finished (scanner_of n)).refusal ≡ None) × ((scanner_finished n).count ≡ (finished (scanner_of n)).count)
unfolding scanner_finished finished
finish_called n r = by_test (accepted (numbers_ground n)) refl
  where
    by_test : (t : Bool) → accepted (numbers_ground n) ≡ t
        → ((finished (scanner_of n)).refusal ≡ None) × ((scanner_finished n).count ≡ (finished (scanner_of n)).count)
    by_test true e = (rw (scanner_accepted n e), rw e)
    by_test false e = absurd (false≢true (sym e ∙ accepted_number (numbers_ground n) ∙ eq-eqb (number_of (numbers_ground n)) 0 (rw e at r)))

-- the calls are a feeding
pub calls_feeding : {n since : List ℕ} {parts cs : List (List ℕ)} {ps : List Peak} → FeedCalls n since parts cs ps
    → Feeding (scanner_of n) since parts cs ps
calls_feeding (cutting {n} {since} {part} {parts} {cs} {ps} {consumed} {p} r t g) =
    let c = feed_called n part r in
    let f = fed (scanner_of n) part in
    let told = tells_by f consumed 1 p (sym c.tells ∙ t) in
    let rest = rw (c.scanner, ← told.consumed) at (calls_feeding g) in
    rw (← told.consumed, ← told.peak)
    (splitting.cutting {s = scanner_of n} {part = part} c.refusal (one_cut f.cut told.cut) rest)
calls_feeding (passing {n} {since} {part} {parts} {cs} r t g) =
    let c = feed_called n part r in
    let f = fed (scanner_of n) part in
    let told = tells_by f (length part) 0 (record { place = 0; value = 0 }) (sym c.tells ∙ t) in
    splitting.passing {s = scanner_of n} {part = part} c.refusal (no_cut f.cut told.cut) told.consumed
    (rw c.scanner at (calls_feeding g))
calls_feeding (finishing {n} {since} r t) =
    let c = finish_called n r in
    splitting.finishing {s = scanner_of n} {since = since} c.0 (sym c.1 ∙ t)

-- numbers of a scanner whose value is a byte are accepted as the scanner is
numbers_of_lem : (s : Scanner) → s.value < 256 → numbers_ground (numbers_of s) ≡ scanner_ground s
unfolding numbers_ground scanner_ground
numbers_of_lem s h = rw (le-leb s.value 255 (omega arith))

-- feeding bytes leaves a byte for the value
value_byte : (s : Scanner) (part : List ℕ) → s.value < 256 → Bytes part → scanner_ground s ≡ None
    → (fed s part).scanner.value < 256
value_byte s part h k e = rw (fed_accepted s part e) (scan_sound s 0 part k (ground_sound s h e)).byte

-- a finish that is accepted has an accepted scanner
finish_accepts : (s : Scanner) → (finished s).refusal ≡ None → scanner_ground s ≡ None
unfolding finished
finish_accepts s e = by_test (accepted (scanner_ground s)) refl
  where
    by_test : (t : Bool) → accepted (scanner_ground s) ≡ t → scanner_ground s ≡ None
    by_test true a = no_ground _ a
    by_test false a = rw a at e

-- and a feeding is calls, as long as bytes are fed
pub feeding_calls : {s : Scanner} {since : List ℕ} {parts cs : List (List ℕ)} {ps : List Peak} → Feeding s since parts cs ps
    → s.value < 256 → Bytes (joined parts) → FeedCalls (numbers_of s) since parts cs ps
unfolding scanner_fed scanner_finished finished
feeding_calls (splitting.cutting {s} {since} {part} {parts} {cs} {ps} r c g) h k =
    let accepts = sym (fed_ground s part) ∙ r in
    let ground = numbers_of_lem s h ∙ accepts in
    let b = bytes_parts part (joined parts) k in
    let f = fed s part in
    let rest = feeding_calls g (value_byte s part h b.0 accepts)
    (bytes_append (drop f.consumed part) (joined parts) (bytes_drop f.consumed part b.0) b.1) in
    cutting {n = numbers_of s} {since = since} {part = part} {parts = parts} {cs = cs} {ps = ps} {consumed = f.consumed} {p = told_peak f} (rw ground)
    (rw (ground, c)) (rw ground rest)
feeding_calls (splitting.passing {s} {since} {part} {parts} {cs} {ps} r c n g) h k =
    let accepts = sym (fed_ground s part) ∙ r in
    let ground = numbers_of_lem s h ∙ accepts in
    let b = bytes_parts part (joined parts) k in
    let none = untold s part c in
    let place : (fed s part).place ≡ 0 = ap (λ p. p.place) none in
    let value : (fed s part).value ≡ 0 = ap (λ p. p.value) none in
    passing {n = numbers_of s} {since = since} {part = part} {parts = parts} {cs = cs} {ps = ps} (rw ground) (rw (ground, c, n, place, value))
    (rw ground (feeding_calls g (value_byte s part h b.0 accepts) b.1))
feeding_calls (splitting.finishing {s} {since} r n) h k =
    let ground = numbers_of_lem s h ∙ finish_accepts s r in
    finishing {n = numbers_of s} {since = since} (rw ground) (rw (ground, finish_accepts s r) (rw (finish_accepts s r) at n))

-- from hirunvel_scanner_open on
module _ (w : ℕ) (allowed : (scanner_opened w).refusal ≡ 0) where
  window : window_allowed w ≡ true
  unfolding scanner_opened chunker.opened
  window = by_test (window_allowed w) refl
    where
      by_test : (t : Bool) → window_allowed w ≡ t → t ≡ true
      by_test true e = refl
      by_test false e = absurd (let z : ◌≡◌ {A = ℕ} 1 0 = rw e at allowed in omega arith)

  -- feeding the parts of a job, however it is split, gives the chunks of the job, and tells their peaks
  pub every_splitting_called : (parts : List (List ℕ)) → Bytes (joined parts)
      → FeedCalls (scanner_opened w).scanner [] parts (chunks w (joined parts)) (peaks w (joined parts))
  unfolding scanner_opened
  every_splitting_called parts k =
      let byte : (chunker.opened w).scanner.value < 256 = rw (opened_fresh w window) (omega arith) in
      feeding_calls (every_splitting w window parts k) byte k

  -- and no others
  pub only_splitting_called : (parts cs : List (List ℕ)) (ps : List Peak) → FeedCalls (scanner_opened w).scanner [] parts cs ps
      → (cs ≡ chunks w (joined parts)) × (ps ≡ peaks w (joined parts))
  unfolding scanner_opened
  only_splitting_called parts cs ps g = only_splitting w window parts cs ps (calls_feeding g)
