-- The chunker's answers are those that the definitions over four numbers give.
use Prim.Native.Nat.{ℕ, zero, suc, ◌≤◌, ◌<◌}
use native.Mathlib.Omega.{arith}
use mathlib.Core.Path.{◌≡◌, refl, sym, ap, ◌∙◌}
use mathlib.Core.Bool.{Bool, true, false, cond}
use mathlib.Core.List.{List, [], ◌∷◌}
use lib.Dec.{leb}
use lib.ListN.{get_or}
use borrow.Author.Tests.{lt-leb, le-leb}
use Rattle.refusal.specs.Number.{number_of, accepted}
use Rattle.refusal.specs.Grounds.{unless, first}
use Rattle.refusal.specs.declared.Refusal.TheVariants.{Window, Unsound}
use Rattle.scan.specs.declared.Fed.{Fed}
use Rattle.scan.specs.Scanner.{fresh}
use Rattle.chunker.specs.declared.Finished.{Finished}
use Rattle.chunker.specs.Scanner.{window_allowed, untouched, consistent, sound, scanner_ground}
use Rattle.chunker.specs.Answers.{fed, finished}
use Rattle.chunker.proofs.laws.ground.Soundness.{fed_refused, fed_ground}
use Rattle.chunker.proofs.theorems.EverySplitting.{cut_fresh}
use Rattle.numbers.specs.Scanning.{numbers_of, scanner_of, unsound_ground, told}
use Rattle.hirunvel.specs.Scanning.{ScannerFeeding, ScannerFinishing, numbers_ground, scanner_fed, scanner_finished}
use Rattle.hirunvel.specs.internal.Fresh.{handed_over}
use Rattle.std.specs.Prelude.{Some}

-- a scanner that is not sound is refused
unsound_refused : (w : ℕ) → accepted (unsound_ground w) ≡ false
unsound_refused w = by_test (window_allowed w)
  where
    by_test : (t : Bool) → accepted (first (unless t Window ∷ Some Unsound ∷ [])) ≡ false
    by_test true = refl
    by_test false = refl

-- what an answer of the chunker writes over four numbers: accepted, it moves them on; refused, it leaves them
abbrev pub after_feed : List ℕ → Fed → ScannerFeeding
after_feed n f =
    record {
      refusal = number_of f.refusal;
      scanner = cond (accepted f.refusal) (numbers_of f.scanner) n;
      fed = told f;
    }

abbrev pub after_finish : List ℕ → Finished → ScannerFinishing
after_finish n f =
    record {
      refusal = number_of f.refusal;
      scanner = cond (accepted f.refusal) (numbers_of f.scanner) n;
      count = f.count;
    }

module _ (n : List ℕ) (over : 255 < get_or n 3 0) where
  -- a feed over four numbers of which the last is over 255
  pub fed_over : (part : List ℕ) →
      scanner_fed n part
      ≡ record { refusal = number_of (unsound_ground (get_or n 0 0)); scanner = n; fed = 0 ∷ 0 ∷ 0 ∷ 0 ∷ [] }
  unfolding scanner_fed numbers_ground
  fed_over part = rw (lt-leb (get_or n 3 0) 255 over, unsound_refused (get_or n 0 0))

  -- a finish of these
  pub finished_over :
      scanner_finished n ≡ record { refusal = number_of (unsound_ground (get_or n 0 0)); scanner = n; count = 0 }
  unfolding scanner_finished numbers_ground
  finished_over = rw (lt-leb (get_or n 3 0) 255 over, unsound_refused (get_or n 0 0))

module _ (n : List ℕ) (byte : get_or n 3 0 ≤ 255) where
  -- the ground of four numbers of which the last is a byte is the scanner's
  ground : numbers_ground n ≡ scanner_ground (scanner_of n)
  unfolding numbers_ground scanner_ground
  ground = rw (le-leb (get_or n 3 0) 255 byte)

  -- a feed answers as the chunker's
  pub fed_after : (part : List ℕ) (f : Fed) → f ≡ fed (scanner_of n) part → scanner_fed n part ≡ after_feed n f
  unfolding scanner_fed
  fed_after part f e = by_test _ refl
    where
      by_test : (t : Bool) → accepted (scanner_ground (scanner_of n)) ≡ t → scanner_fed n part ≡ after_feed n f
      by_test true h = rw (e, ground, fed_ground (scanner_of n) part, h)
      by_test false h = rw (e, ground, fed_refused (scanner_of n) part h, h)

  -- a finish answers as the chunker's
  pub finished_after : (f : Finished) → f ≡ finished (scanner_of n) → scanner_finished n ≡ after_finish n f
  unfolding scanner_finished finished
  finished_after f e = by_test _ refl
    where
      by_test : (t : Bool) → accepted (scanner_ground (scanner_of n)) ≡ t → scanner_finished n ≡ after_finish n f
      by_test true h = rw (e, ground, h, h)
      by_test false h = rw (e, ground, h, h)

-- a count of 0, where place and value are not both 0
module _ (n : List ℕ) (count : get_or n 1 0 ≡ 0) (touched : untouched (scanner_of n) ≡ false) where
  -- then the place is 0, or larger than the count
  inconsistent : consistent (scanner_of n) ≡ false
  unfolding consistent
  inconsistent = by_place (get_or n 2 0) refl
    where
      by_place : (p : ℕ) → get_or n 2 0 ≡ p → consistent (scanner_of n) ≡ false
      by_place zero e = rw e
      by_place (suc p) e = rw (e, count, le-leb 1 (suc p) (omega arith), lt-leb (suc p) 0 (omega arith))

  -- a feed over these is refused
  pub fed_unsound : (part : List ℕ) →
      scanner_fed n part
      ≡ record { refusal = number_of (unsound_ground (get_or n 0 0)); scanner = n; fed = 0 ∷ 0 ∷ 0 ∷ 0 ∷ [] }
  unfolding scanner_fed numbers_ground sound
  fed_unsound part = by_value (leb (get_or n 3 0) 255) refl
    where
      by_value : (t : Bool) → leb (get_or n 3 0) 255 ≡ t → scanner_fed n part
          ≡ record { refusal = number_of (unsound_ground (get_or n 0 0)); scanner = n; fed = 0 ∷ 0 ∷ 0 ∷ 0 ∷ [] }
      by_value true e = rw (e, touched, inconsistent, unsound_refused (get_or n 0 0))
      by_value false e = rw (e, unsound_refused (get_or n 0 0))

-- the feed of a fresh scanner
module _ (n : List ℕ) (start : n ≡ numbers_of (fresh (get_or n 0 0))) (part : List ℕ) (f : Fed)
    (e : f ≡ fed (fresh (get_or n 0 0)) part) where
  same : f ≡ fed (scanner_of n) part
  same = e ∙ ap (λ l. fed (scanner_of l) part) (sym start)

  byte : get_or n 3 0 ≤ 255
  byte = let zero : get_or n 3 0 ≡ 0 = ap (λ l. get_or l 3 0) start in omega arith

  -- refused, it hands the fresh scanner back
  handed_back : (t : Bool) → accepted f.refusal ≡ t → cond t (numbers_of f.scanner) n ≡ numbers_of f.scanner
  handed_back true h = refl
  handed_back false h =
      let test = rw (e, fed_ground (fresh (get_or n 0 0)) part) at h in
      let back : f.scanner ≡ fresh (get_or n 0 0) = rw (e, fed_refused (fresh (get_or n 0 0)) part test) in
      start ∙ ap numbers_of (sym back)

  -- where a cut ends it, the numbers are as they were
  kept : (t : Bool) → f.cut ≡ t → numbers_of f.scanner ≡ cond t n (numbers_of f.scanner)
  kept true t = rw (e, cut_fresh (fresh (get_or n 0 0)) part (rw e at t)) (sym start)
  kept false _ = refl

  -- it is handed over
  pub fed_starts : scanner_fed n part ≡ handed_over f n
  fed_starts =
      fed_after n byte part f same
      ∙ ap (λ l. record { refusal = number_of f.refusal; scanner = l; fed = told f }) (handed_back _ refl ∙ kept _ refl)
