-- Revisions that change two fields: one that is charged the whole sum, and a label with another date and another address.
use Prim.Native.Nat.{ℕ, ◌+◌, ◌*◌, ◌≤◌, ◌<◌}
use Prim.Native.Char.{code}
use Prim.Native.String.{String, [] as []ˢ, ◌∷◌ as ◌∷ˢ◌}
use native.Mathlib.Omega.{arith}
use mathlib.Core.Path.{◌≡◌, refl, ap}
use mathlib.Core.List.{List, [], ◌∷◌}
use lib.ListN.{length, replicate}
use Rattle.admission.specs.Quote.{Quotation}
use Rattle.admission.specs.Take.{quotation_of}
use Rattle.promises.specs.History.{Event, taking, start, take_in, before, takes, by_take, AllBytes}
use Rattle.promises.specs.Fields.{Field, old_job, revision, ceiling_of}
use Rattle.promises.proofs.laws.Untested.{told_at, told_by_take}
use Rattle.promises.proofs.theorems.SeveralFields.{several_fields}
use Rattle.promises.proofs.theorems.StarredJobs.{rising, handed, computed, kept_maximum}
use Rattle.promises.proofs.theorems.Witnesses.{Premises, not_refused, charge_of, bytes_below}

-- what meets the premises is charged at most the sum
pub charged : (w : ℕ) (pool directory : List ℕ) (events : List Event) (i j : ℕ) (opening : List ℕ) (fields : List Field)
    (old new : Quotation) → Premises w pool directory events i j opening fields old new
    → new.answer.new_bytes ≤ ceiling_of w fields
charged w pool directory events i j opening fields old new p =
    several_fields w pool directory events p.bytes i j p.order old new opening fields p.taken p.asked p.kept

-- a byte comes in at two places, each after 00 to FF rising
abbrev pub two_bytes : List Field
two_bytes =
    record { replaced = []; changed = 3 ∷ []; kept = 1 ∷ 2 ∷ 0 ∷ rising; place = 2 }
    ∷ record { replaced = []; changed = 4 ∷ []; kept = 5 ∷ 6 ∷ 0 ∷ []; place = 2 }
    ∷ []

-- the job and its revision
abbrev pub tight_twice : List Event
tight_twice = handed (old_job rising two_bytes) ∷ handed (revision rising two_bytes) ∷ []

-- what is told of the job at each place
abbrev pub twice_told : ℕ → List ℕ → Quotation
twice_told i job =
    quotation_of (take_in (before (start 1 (replicate 1038 0) (replicate 16 0)) tight_twice i) job (replicate 8 0))

-- computed without the test of the index
twice_bytes : AllBytes tight_twice
twice_bytes = (
  bytes_below (old_job rising two_bytes) refl,
  (bytes_below (revision rising two_bytes) refl, tt),
)

twice_told_lem : (i : ℕ) (job : List ℕ)
    → twice_told i job ≡ told_at 1 (replicate 1038 0) (replicate 16 0) tight_twice i job (replicate 8 0)
twice_told_lem i job = told_by_take 1 _ _ tight_twice twice_bytes i job (replicate 8 0)

-- they meet all that is asked of several fields
pub twice_premises : Premises 1 (replicate 1038 0) (replicate 16 0) tight_twice 0 1 rising two_bytes
    (twice_told 0 (old_job rising two_bytes)) (twice_told 1 (revision rising two_bytes))
unfolding computed
twice_premises =
    record {
      bytes = twice_bytes;
      order = omega arith;
      taken = record { stands = takes; accepted = ap not_refused (twice_told_lem 0 (old_job rising two_bytes)) };
      asked = record { stands = by_take; accepted = ap not_refused (twice_told_lem 1 (revision rising two_bytes)) };
      kept = (
        kept_maximum 1 _ 2 (omega arith) (omega arith) (omega arith) (omega arith),
        (kept_maximum 1 _ 2 (omega arith) (omega arith) (omega arith) (omega arith), tt),
      );
    }

-- the charge of the revision
abbrev pub twice_charge : ℕ
twice_charge = (twice_told 1 (revision rising two_bytes)).answer.new_bytes

-- is at most the sum
pub twice_charged : twice_charge ≤ ceiling_of 1 two_bytes
twice_charged = charged 1 _ _ tight_twice 0 1 rising two_bytes _ _ twice_premises

-- and just that, (1 + 2 + 257) + (1 + 2 + 257)
pub tight_twice_lem : (twice_charge ≡ 520) × (ceiling_of 1 two_bytes ≡ 520)
unfolding computed
tight_twice_lem = (ap charge_of (twice_told_lem 1 (revision rising two_bytes)), refl)

-- so 257 × w once for both fields would be too few
pub once_too_few : (1 + 2) + (1 + 2) + 257 * 1 < twice_charge
once_too_few = rw tight_twice_lem.0 (omega arith)

-- the bytes of a text in ASCII
abbrev pub bytes_of : String → List ℕ
bytes_of []ˢ = []
bytes_of (c ∷ˢ rest) = code c ∷ bytes_of rest

-- a label up to its date
abbrev pub opening : List ℕ
opening = bytes_of "^XA^FO40,30^FDHOSE CLAMP 12-20^FS^FO40,80^FDPacked "

-- the date, then the address
abbrev pub date_and_address : List Field
date_and_address =
    record {
      replaced = bytes_of "24.05.2024";
      changed = bytes_of "03.11.2026";
      kept = bytes_of "^FS^FO40,120^FDShip to ";
      place = 4;
    }
    ∷ record {
      replaced = bytes_of "12 Mill Lane, Leeds";
      changed = bytes_of "7 Dock Road, Hull";
      kept = bytes_of "^FS^FO40,160^FDQty 25^FS^XZ\n";
      place = 4;
    }
    ∷ []

-- the label, its revision, and the revision again
abbrev pub labels : List Event
labels =
    taking (old_job opening date_and_address) (replicate 40 0)
    ∷ taking (revision opening date_and_address) (replicate 40 0)
    ∷ taking (revision opening date_and_address) (replicate 40 0)
    ∷ []

-- what is told of each
abbrev pub label_told : ℕ → List ℕ → Quotation
label_told i job = quotation_of (take_in (before (start 2 (replicate 160 0) (replicate 80 0)) labels i) job (replicate 40 0))

-- computed without the test of the index
label_bytes : AllBytes labels
label_bytes =
    let new = bytes_below (revision opening date_and_address) refl in
    (bytes_below (old_job opening date_and_address) refl, (new, (new, tt)))

label_told_lem : (i : ℕ) (job : List ℕ)
    → label_told i job ≡ told_at 2 (replicate 160 0) (replicate 80 0) labels i job (replicate 40 0)
label_told_lem i job = told_by_take 2 _ _ labels label_bytes i job (replicate 40 0)

-- the first two meet all that is asked
pub label_premises : Premises 2 (replicate 160 0) (replicate 80 0) labels 0 1 opening date_and_address
    (label_told 0 (old_job opening date_and_address)) (label_told 1 (revision opening date_and_address))
unfolding computed
label_premises =
    record {
      bytes = label_bytes;
      order = omega arith;
      taken = record { stands = takes; accepted = ap not_refused (label_told_lem 0 (old_job opening date_and_address)) };
      asked = record { stands = by_take; accepted = ap not_refused (label_told_lem 1 (revision opening date_and_address)) };
      kept = (
        kept_maximum 2 _ 4 (omega arith) (omega arith) (omega arith) (omega arith),
        (kept_maximum 2 _ 4 (omega arith) (omega arith) (omega arith) (omega arith), tt),
      );
    }

-- the charge of the revision at a place of the list
abbrev pub label_charge : ℕ → ℕ
label_charge j = (label_told j (revision opening date_and_address)).answer.new_bytes

-- is at most the sum
pub label_charged : label_charge 1 ≤ ceiling_of 2 date_and_address
label_charged = charged 2 _ _ labels 0 1 opening date_and_address _ _ label_premises

-- it is 34 of 129 bytes, where the sum is (10 + 4 + 257 × 2) + (17 + 4 + 257 × 2), and then, with no field changed, 0
pub label_charges : (label_charge 1 ≡ 34) × (length (revision opening date_and_address) ≡ 129)
    × (ceiling_of 2 date_and_address ≡ 1063) × (label_charge 2 ≡ 0)
unfolding computed
label_charges = (
  ap charge_of (label_told_lem 1 (revision opening date_and_address)),
  refl,
  refl,
  ap charge_of (label_told_lem 2 (revision opening date_and_address)),
)
