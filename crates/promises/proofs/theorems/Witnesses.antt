-- The promise is not empty, and no smaller ceiling holds.
use Prim.Native.Nat.{ℕ, ◌+◌, ◌*◌, ◌<◌}
use native.Mathlib.Omega.{arith}
use mathlib.Core.Path.{◌≡◌, refl, ap, sym, ◌∙◌}
use mathlib.Core.Bool.{Bool, true, ◌&&◌, and-eq-true_iff}
use mathlib.Core.List.{List, [], ◌∷◌, ◌++◌}
use lib.Dec.{leb}
use lib.ListN.{length, replicate}
use borrow.Author.Tests.{leb-true}
use Rattle.refusal.specs.Number.{accepted}
use Rattle.chunker.specs.Bytes.{Bytes}
use Rattle.admission.specs.Quote.{Quotation, recipe_of}
use Rattle.admission.specs.Take.{quotation_of}
use Rattle.promises.specs.History.{Event, quoting, State, start, quote_in, take_in, before, TakenAt, AskedAt, AllBytes}
use Rattle.promises.specs.History.{takes, by_quote, by_take}
use Rattle.promises.specs.Fields.{Field, old_job, revision, AllKept}
use Rattle.promises.specs.Promise.{PromisedOf}
use Rattle.promises.proofs.laws.Untested.{told_at, told_by_quote, told_by_take}
use Rattle.promises.proofs.theorems.Promise.{promise}
use Rattle.promises.proofs.theorems.StarredJobs.{rising, handed, computed, kept_maximum, premise_met}

-- what is asked of a revision that changes several fields; demand 3 asks it of one
pub record Premises (w : ℕ) (pool directory : List ℕ) (events : List Event) (i j : ℕ)
    (opening : List ℕ) (fields : List Field) (old new : Quotation) : Type 0 where
  pub bytes : AllBytes events
  pub order : i < j
  pub taken : TakenAt (start w pool directory) events i (old_job opening fields) old
  pub asked : AskedAt (start w pool directory) events j (revision opening fields) new
  pub kept : AllKept w fields

-- where one field meets it, demand 3 holds
pub promised : (w : ℕ) (pool directory : List ℕ) (events : List Event) (i j : ℕ)
    (opening : List ℕ) (f : Field) (old new : Quotation) → Premises w pool directory events i j opening (f ∷ []) old new
    → PromisedOf w opening f.replaced f.changed f.kept f.place old new
promised w pool directory events i j opening f old new p =
    promise w pool directory events p.bytes i j p.order opening f.replaced f.changed f.kept old new
    p.taken p.asked f.place p.kept.0

-- what is told of a job is no refusal
abbrev pub not_refused : Quotation → Bool
not_refused q = accepted q.answer.refusal

-- the bytes that it is charged
abbrev pub charge_of : Quotation → ℕ
charge_of q = q.answer.new_bytes

-- the starred pair, in a fresh store: the old job is taken, its revision is quoted and then taken
abbrev pub old_label : List ℕ
old_label = 5 ∷ 1 ∷ 1 ∷ 9 ∷ 2 ∷ 3 ∷ 4 ∷ []

abbrev pub new_label : List ℕ
new_label = 6 ∷ 6 ∷ 1 ∷ 1 ∷ 9 ∷ 2 ∷ 3 ∷ 4 ∷ []

abbrev pub pair : List Event
pair = handed old_label ∷ quoting new_label (replicate 8 0) ∷ handed new_label ∷ []

-- and the field that it changes
abbrev pub pair_field : Field
pair_field = record { replaced = 5 ∷ []; changed = 6 ∷ 6 ∷ []; kept = 1 ∷ 1 ∷ 9 ∷ 2 ∷ 3 ∷ 4 ∷ []; place = 3 }

-- the store before each place
abbrev pub pair_at : ℕ → State
pair_at i = before (start 2 (replicate 32 0) (replicate 16 0)) pair i

-- what is told of the old job, of the revision when it is quoted, and when it is taken
abbrev pub old_take : Quotation
old_take = quotation_of (take_in (pair_at 0) old_label (replicate 8 0))

abbrev pub new_quote : Quotation
new_quote = quote_in (pair_at 1) new_label (replicate 8 0)

abbrev pub new_take : Quotation
new_take = quotation_of (take_in (pair_at 2) new_label (replicate 8 0))

-- the jobs are bytes
pair_bytes : AllBytes pair
pair_bytes = omega arith

-- so what is told of them can be computed without the test of the index
abbrev computed_at : ℕ → List ℕ → Quotation
computed_at i job = told_at 2 (replicate 32 0) (replicate 16 0) pair i job (replicate 8 0)

old_take_lem : old_take ≡ computed_at 0 old_label
old_take_lem = told_by_take 2 _ _ pair pair_bytes 0 old_label (replicate 8 0)

new_quote_lem : new_quote ≡ computed_at 1 new_label
new_quote_lem = told_by_quote 2 _ _ pair pair_bytes 1 new_label (replicate 8 0)

new_take_lem : new_take ≡ computed_at 2 new_label
new_take_lem = told_by_take 2 _ _ pair pair_bytes 2 new_label (replicate 8 0)

-- the quote meets all that the promise asks for
pub quote_premises : Premises 2 (replicate 32 0) (replicate 16 0) pair 0 1 [] (pair_field ∷ []) old_take new_quote
unfolding computed
quote_premises =
    record {
      bytes = pair_bytes;
      order = omega arith;
      taken = record { stands = takes; accepted = ap not_refused old_take_lem };
      asked = record { stands = by_quote; accepted = ap not_refused new_quote_lem };
      kept = (premise_met, tt);
    }

-- and the take
pub take_premises : Premises 2 (replicate 32 0) (replicate 16 0) pair 0 2 [] (pair_field ∷ []) old_take new_take
unfolding computed
take_premises =
    record {
      bytes = pair_bytes;
      order = omega arith;
      taken = record { stands = takes; accepted = ap not_refused old_take_lem };
      asked = record { stands = by_take; accepted = ap not_refused new_take_lem };
      kept = (premise_met, tt);
    }

-- so both have what is promised
pub pair_promised : PromisedOf 2 [] (5 ∷ []) (6 ∷ 6 ∷ []) (1 ∷ 1 ∷ 9 ∷ 2 ∷ 3 ∷ 4 ∷ []) 3 old_take new_quote
    × PromisedOf 2 [] (5 ∷ []) (6 ∷ 6 ∷ []) (1 ∷ 1 ∷ 9 ∷ 2 ∷ 3 ∷ 4 ∷ []) 3 old_take new_take
pair_promised = (
  promised 2 _ _ _ _ _ [] pair_field old_take new_quote quote_premises,
  promised 2 _ _ _ _ _ [] pair_field old_take new_take take_premises,
)

-- and both tell the same: "second recipe 3, 4, 2; new 7, repeated 1"
pub pair_told : (new_quote ≡ new_take) × (recipe_of new_take ≡ 3 ∷ 4 ∷ 2 ∷ []) × (new_take.answer.new_bytes ≡ 7)
    × (new_take.answer.repeated_bytes ≡ 1)
unfolding computed
pair_told = (
  new_quote_lem ∙ sym new_take_lem,
  ap recipe_of new_take_lem,
  ap charge_of new_take_lem,
  ap (λ q. q.answer.repeated_bytes) new_take_lem,
)

-- each number of a list is at most 255
abbrev below : List ℕ → Bool
below [] = true
below (b ∷ bs) = leb b 255 && below bs

-- so these are bytes
pub bytes_below : (xs : List ℕ) → below xs ≡ true → Bytes xs
bytes_below [] e = tt
bytes_below (b ∷ bs) e =
    let both = (and-eq-true_iff (leb b 255) (below bs)).0 e in
    (omega (arith, leb-true b 255 both.0), bytes_below bs both.1)

-- the same beginning 00 to FF and ending 01 02 00, first with nothing between them and then with 03, which is only quoted
abbrev pub tight_pair : List Event
tight_pair = handed (rising ++ (1 ∷ 2 ∷ 0 ∷ [])) ∷ quoting (rising ++ (3 ∷ 1 ∷ 2 ∷ 0 ∷ [])) (replicate 8 0) ∷ []

-- the field between them
abbrev pub tight_field : Field
tight_field = record { replaced = []; changed = 3 ∷ []; kept = 1 ∷ 2 ∷ 0 ∷ []; place = 2 }

-- the store before each place
abbrev pub tight_at : ℕ → State
tight_at i = before (start 1 (replicate 519 0) (replicate 16 0)) tight_pair i

-- what is told of both
abbrev pub tight_old : Quotation
tight_old = quotation_of (take_in (tight_at 0) (rising ++ (1 ∷ 2 ∷ 0 ∷ [])) (replicate 8 0))

abbrev pub tight_new : Quotation
tight_new = quote_in (tight_at 1) (rising ++ (3 ∷ 1 ∷ 2 ∷ 0 ∷ [])) (replicate 8 0)

-- computed without the test of the index
tight_bytes : AllBytes tight_pair
tight_bytes = (
  bytes_below (old_job rising (tight_field ∷ [])) refl,
  (bytes_below (revision rising (tight_field ∷ [])) refl, tt),
)

tight_old_lem : tight_old ≡ told_at 1 (replicate 519 0) (replicate 16 0) tight_pair 0 (rising ++ (1 ∷ 2 ∷ 0 ∷ [])) (replicate 8 0)
tight_old_lem = told_by_take 1 _ _ tight_pair tight_bytes 0 (rising ++ (1 ∷ 2 ∷ 0 ∷ [])) (replicate 8 0)

tight_new_lem : tight_new ≡ told_at 1 (replicate 519 0) (replicate 16 0) tight_pair 1 (rising ++ (3 ∷ 1 ∷ 2 ∷ 0 ∷ [])) (replicate 8 0)
tight_new_lem = told_by_quote 1 _ _ tight_pair tight_bytes 1 (rising ++ (3 ∷ 1 ∷ 2 ∷ 0 ∷ [])) (replicate 8 0)

pub tight_premises : Premises 1 (replicate 519 0) (replicate 16 0) tight_pair 0 1 rising (tight_field ∷ []) tight_old tight_new
unfolding computed
tight_premises =
    record {
      bytes = tight_bytes;
      order = omega arith;
      taken = record { stands = takes; accepted = ap not_refused tight_old_lem };
      asked = record { stands = by_quote; accepted = ap not_refused tight_new_lem };
      kept = (kept_maximum 1 _ 2 (omega arith) (omega arith) (omega arith) (omega arith), tt);
    }

-- the charge is the ceiling: 260 = 1 + 2 + 257
pub tight : tight_new.answer.new_bytes ≡ length {A = ℕ} (3 ∷ []) + 2 + 257 * 1
unfolding computed
tight = ap charge_of tight_new_lem

-- what the premise that the old job was taken is for: the first of these jobs is only quoted
abbrev pub only_quoted : List Event
only_quoted = quoting (rising ++ (0 ∷ rising ++ (1 ∷ 2 ∷ 0 ∷ []))) (replicate 8 0) ∷ []

-- so its revision, which is longer than the ceiling, is charged whole
pub only_quoted_lem :
    (quote_in (before (start 1 (replicate 519 0) (replicate 16 0)) only_quoted 1)
    (rising ++ (0 ∷ rising ++ (3 ∷ 1 ∷ 2 ∷ 0 ∷ []))) (replicate 8 0)).answer.new_bytes ≡ 517
unfolding computed
only_quoted_lem =
    let bytes = bytes_below (rising ++ (0 ∷ rising ++ (1 ∷ 2 ∷ 0 ∷ []))) refl in
    ap charge_of (told_by_quote 1 _ _ only_quoted (bytes, tt) 1 _ _)
