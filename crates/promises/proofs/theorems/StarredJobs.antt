-- The starred jobs of the scope's section "Jobs worked by hand" as one table, with two rows that the section lacks: the
-- one-byte job of the change request on packets, and the last.
use Prim.Native.Nat.{ℕ, zero, suc, ◌+◌, ◌-◌, ◌<◌, ◌≤◌}
use native.Mathlib.Omega.{arith}
use native.Mathlib.Nat.{eq-or-lt_of_le}
use mathlib.Core.Path.{◌≡◌, refl, subst, ap, ◌∙◌}
use mathlib.Core.Logic.{⊎_elim}
use mathlib.Core.List.{List, [], ◌∷◌, ◌++◌, map}
use lib.IntN.{ℤ, negsuc}
use lib.ListN.{length, replicate}
use Rattle.refusal.specs.declared.Refusal.{Refusal}
use Rattle.scan.specs.Scanner.{fresh}
use Rattle.chunker.specs.Scanner.{window_allowed}
use Rattle.scan.specs.Move.{move, next}
use Rattle.chunker.specs.Chunks.{cut_chunks, remaining, chunks}
use Rattle.chunker.specs.Peaks.{Peak, peak_of, peaks}
use Rattle.cut_counts.specs.CutCounts.{counts_of, cut_counts}
use Rattle.chunker.specs.Method.{byte_at, FirstMaximumPoint}
use Rattle.chunker.specs.KeptMaximum.{KeptMaximum}
use Rattle.store.specs.Memory.{chunks_from}
use Rattle.store.specs.Contents.{same, number, has, gain, added, repeated, numbers}
use Rattle.directory.specs.Layout.{laid_out}
use Rattle.store.specs.Grounds.{fits, memory_allowed, recipe_allowed}
use Rattle.tariff.specs.Tariff.{packets, saving_of}
use Rattle.survey.specs.Walk.{chunk_ground, walk}
use Rattle.admission.specs.Grounds.{job_allowed}
use Rattle.admission.specs.Quote.{Quotation, recipe_of}
use Rattle.admission.specs.Take.{quotation_of}
use Rattle.promises.specs.History.{Event, taking, State, start, take_in, before, AllBytes}
use Rattle.promises.proofs.laws.Untested as untested
use Rattle.promises.proofs.laws.Untested.{ground, quote_of, take_of, told_at, told_by_take}
use Rattle.std.specs.Prelude.{None, Option}

-- n numbers, counting up from b
abbrev pub rising_from : ℕ → ℕ → List ℕ
rising_from b zero = []
rising_from b (suc n) = b ∷ rising_from (suc b) n

-- "00 to FF rising"
abbrev pub rising : List ℕ
rising = rising_from 0 256

-- the lengths of the chunks that cuts end, in order, their peaks, and the number of bytes that remain
unfoldable pub cutting : ℕ → List ℕ → List ℕ × List Peak × ℕ
unfolding cut_chunks remaining move next peak_of peaks
cutting w job = (map length (cut_chunks (fresh w) [] job), peaks w job, length (remaining (fresh w) [] job))

-- the peak at a place, with its value
abbrev pub peak : ℕ → ℕ → Peak
peak p v = record { place = p; value = v }

-- the take of a job with a lent recipe of 8 numbers
abbrev pub handed : List ℕ → Event
handed job = taking job (replicate 8 0)

-- a fresh store with a pool of 32 bytes and 8 directory entries, after the takes of jobs
abbrev pub store_after : ℕ → List (List ℕ) → State
store_after w jobs = before (start w (replicate 32 0) (replicate 16 0)) (map handed jobs) (length jobs)

-- what is told of a job: refusal, recipe, new bytes, repeated bytes, saving, and the cuts of low, printable and high values
abbrev pub Told : Type 0
Told = Option Refusal × List ℕ × ℕ × ℕ × ℤ × ℕ × ℕ × ℕ

abbrev pub told : Quotation → Told
told q =
    let a = q.answer in
    (a.refusal, recipe_of q, a.new_bytes, a.repeated_bytes, a.saving, a.cuts.low, a.cuts.printable, a.cuts.high)

-- what the take of a further job comes to
unfoldable pub counts : ℕ → List (List ℕ) → List ℕ → Told
counts w jobs job = told (quotation_of (take_in (store_after w jobs) job (replicate 8 0)))

-- the same without the test of the index
-- (to unfold it is to unfold all that a quote and a take are computed with)
unfoldable pub computed : ℕ → List (List ℕ) → List ℕ → Told
unfolding
    cutting counts_of cut_counts window_allowed chunks chunks_from same number has gain added repeated numbers laid_out fits memory_allowed recipe_allowed
    job_allowed chunk_ground walk packets saving_of ground quote_of take_of untested.leaves untested.before
computed w jobs job =
    told (told_at w (replicate 32 0) (replicate 16 0) (map handed jobs) (length jobs) job (replicate 8 0))

-- so the counts can be computed without it
pub counts_as : (w : ℕ) (jobs : List (List ℕ)) (job : List ℕ) (expected : Told)
    → AllBytes (map handed jobs) → computed w jobs job ≡ expected → counts w jobs job ≡ expected
unfolding counts computed
counts_as w jobs job expected b e =
    ap told (told_by_take w (replicate 32 0) (replicate 16 0) (map handed jobs) b (length jobs) job (replicate 8 0)) ∙ e

pub data Row : Type 0 where
  -- the lengths and the peaks of the chunks of a job
  cut : (w : ℕ) (job : List ℕ) (expected : List ℕ × List Peak × ℕ) → Row
  -- the counts of a job that comes after others
  counting : (w : ℕ) (jobs : List (List ℕ)) (job : List ℕ) (expected : Told) → Row
  -- place p is the first maximum point of a chunk, by the published method
  peaking : (w : ℕ) (chunk : List ℕ) (p : ℕ) → Row
  -- place k of an ending is one from which jobs line up
  kept : (w : ℕ) (ending : List ℕ) (k : ℕ) → Row
  -- it is none
  not_kept : (w : ℕ) (ending : List ℕ) (k : ℕ) → Row

abbrev pub Holds : Row → Type 0
Holds (cut w job expected) = cutting w job ≡ expected
Holds (counting w jobs job expected) = counts w jobs job ≡ expected
Holds (peaking w chunk p) = FirstMaximumPoint w chunk p
Holds (kept w ending k) = KeptMaximum w ending k
Holds (not_kept w ending k) = KeptMaximum w ending k → ⊥

infixr 5 ◌and◌
pub data AllHold : List Row → Type 0 where
  none : AllHold []
  ◌and◌ : {r : Row} {rs : List Row} → Holds r → AllHold rs → AllHold (r ∷ rs)

abbrev pub rows : List Row
rows =
    cut 1 (5 ∷ 5 ∷ 5 ∷ 5 ∷ []) (2 ∷ 2 ∷ [], peak 1 5 ∷ peak 1 5 ∷ [], 0)
    ∷ cut 2 (3 ∷ 1 ∷ 2 ∷ []) (3 ∷ [], peak 1 3 ∷ [], 0)
    ∷ cut 2 (3 ∷ 1 ∷ []) ([], [], 2)
    ∷ cut 2 (3 ∷ 1 ∷ 3 ∷ []) (3 ∷ [], peak 1 3 ∷ [], 0)
    ∷ peaking 2 (3 ∷ 1 ∷ 3 ∷ []) 1
    ∷ cut 2 (3 ∷ 1 ∷ 4 ∷ 1 ∷ 1 ∷ []) (5 ∷ [], peak 3 4 ∷ [], 0)
    ∷ cut 2 (1 ∷ 2 ∷ 3 ∷ 4 ∷ []) ([], [], 4)
    ∷ cut 1 rising ([], [], 256)
    ∷ cut 1 (rising ++ (0 ∷ [])) (257 ∷ [], peak 256 255 ∷ [], 0)
    ∷ counting 2 [] (3 ∷ 1 ∷ 2 ∷ 3 ∷ 1 ∷ 2 ∷ 7 ∷ []) (None, 0 ∷ 0 ∷ 1 ∷ [], 4, 3, negsuc 68, 2, 0, 0)
    ∷ counting 2 [] (9 ∷ []) (None, 0 ∷ [], 1, 0, negsuc 71, 0, 0, 0)
    ∷ counting 2 [] (5 ∷ 1 ∷ 1 ∷ 9 ∷ 2 ∷ 3 ∷ 4 ∷ []) (None, 0 ∷ 1 ∷ 2 ∷ [], 7, 0, negsuc 71, 2, 0, 0)
    ∷ counting 2 ((5 ∷ 1 ∷ 1 ∷ 9 ∷ 2 ∷ 3 ∷ 4 ∷ []) ∷ []) (6 ∷ 6 ∷ 1 ∷ 1 ∷ 9 ∷ 2 ∷ 3 ∷ 4 ∷ [])
    (None, 3 ∷ 4 ∷ 2 ∷ [], 7, 1, negsuc 70, 2, 0, 0)
    ∷ kept 2 (1 ∷ 1 ∷ 9 ∷ 2 ∷ 3 ∷ 4 ∷ []) 3
    ∷ cut 2 (9 ∷ 1 ∷ 9 ∷ 2 ∷ 3 ∷ []) (3 ∷ [], peak 1 9 ∷ [], 2)
    ∷ not_kept 2 (9 ∷ 1 ∷ 9 ∷ 2 ∷ 3 ∷ []) 3
    ∷ cut 2 (5 ∷ 1 ∷ 1 ∷ 1 ∷ 2 ∷ 1 ∷ 1 ∷ 1 ∷ []) (3 ∷ 4 ∷ [], peak 1 5 ∷ peak 2 2 ∷ [], 1)
    ∷ []

-- what is said of a place holds of the n places from place a on
abbrev pub Each : (ℕ → Type 0) → ℕ → ℕ → Type 0
Each P a zero = Unit {0}
Each P a (suc n) = P a × Each P (suc a) n

pub each : (P : ℕ → Type 0) (a n : ℕ) → Each P a n → (q : ℕ) → a ≤ q → q < a + n → P q
each P a zero h q l g = absurd (omega arith)
each P a (suc n) h q l g =
    ⊎_elim (λ p. subst P p h.0) (λ m. each P (suc a) n h.1 q m (omega arith)) (eq-or-lt_of_le l)

-- the facts of a kept maximum, one for each of the w places before it and of the w after it
pub kept_maximum : (w : ℕ) (e : List ℕ) (k : ℕ) → w < k → k + w ≤ length e
    → Each (λ q. byte_at e q < byte_at e k) (k - w) w → Each (λ q. byte_at e q ≤ byte_at e k) (suc k) w → KeptMaximum w e k
kept_maximum w e k before after larger not_smaller =
    record {
      before = before;
      after = after;
      larger = λ q h l. each _ (k - w) w larger q (omega arith) (omega arith);
      not_smaller = λ q h l. each _ (suc k) w not_smaller q h (omega arith);
    }

-- "k is 3 in the ending 01 01 09 02 03 04"
pub premise_met : KeptMaximum 2 (1 ∷ 1 ∷ 9 ∷ 2 ∷ 3 ∷ 4 ∷ []) 3
premise_met = kept_maximum 2 _ 3 (omega arith) (omega arith) (omega arith) (omega arith)

-- "cut after 3, the tie leaving the place at 1"
pub tie_peak : FirstMaximumPoint 2 (3 ∷ 1 ∷ 3 ∷ []) 1
tie_peak =
    record {
      maximum = record {
        place = omega arith;
        window = omega arith;
        larger = λ q a l. absurd (omega arith);
        not_smaller = λ q a l. each (λ q. byte_at (3 ∷ 1 ∷ 3 ∷ []) q ≤ 3) 2 2 (omega arith) q a (omega arith);
      };
      first = λ q l m. omega (arith, m.place);
    }

-- "because an equal byte stands w before the second 09"
pub premise_not_met : KeptMaximum 2 (9 ∷ 1 ∷ 9 ∷ 2 ∷ 3 ∷ []) 3 → ⊥
premise_not_met m = omega (arith, m.larger 1 (omega arith) (omega arith))

pub starred : AllHold rows
unfolding cutting computed
starred =
    refl
    and refl
    and refl
    and refl
    and tie_peak
    and refl
    and refl
    and refl
    and refl
    and counts_as 2 [] _ _ tt refl
    and counts_as 2 [] _ _ tt refl
    and counts_as 2 [] _ _ tt refl
    and counts_as 2 ((5 ∷ 1 ∷ 1 ∷ 9 ∷ 2 ∷ 3 ∷ 4 ∷ []) ∷ []) _ _ (omega arith) refl
    and premise_met
    and refl
    and premise_not_met
    and refl
    and none
