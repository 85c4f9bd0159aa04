-- What the premises on several fields are for: where one of these three fails, a charge is over the sum.
use Prim.Native.Nat.{ℕ, ◌+◌, ◌*◌, ◌<◌}
use native.Mathlib.Omega.{arith}
use mathlib.Core.Path.{◌≡◌, refl, ap}
use mathlib.Core.List.{List, [], ◌∷◌, ◌++◌}
use lib.ListN.{length, replicate}
use Rattle.chunker.specs.KeptMaximum.{KeptMaximum}
use Rattle.promises.specs.History.{Event, start, take_in, before}
use Rattle.promises.specs.Fields.{Field, old_job, revision, ceiling_of}
use Rattle.promises.proofs.laws.Untested.{told_by_take}
use Rattle.promises.proofs.theorems.StarredJobs.{rising, handed, computed, kept_maximum}
use Rattle.promises.proofs.theorems.Witnesses.{charge_of, bytes_below}

-- a field whose kept stretch never lines up: no place of it has both windows in it
abbrev pub field : Field
field = record { replaced = 9 ∷ []; changed = 0 ∷ 1 ∷ 0 ∷ []; kept = 3 ∷ 3 ∷ 2 ∷ 2 ∷ 1 ∷ 1 ∷ rising; place = 1 }

-- the job and its revision
abbrev pub events : List Event
events = handed (old_job [] (field ∷ [])) ∷ handed (revision [] (field ∷ [])) ∷ []

-- the charge of the revision
abbrev pub charge : ℕ
charge =
    (take_in (before (start 1 (replicate 528 0) (replicate 32 0)) events 1) (revision [] (field ∷ [])) (replicate 8 0)).answer.quoted.new_bytes

-- is its length
pub charged_whole : (charge ≡ 265) × (length (revision [] (field ∷ [])) ≡ 265)
unfolding computed
charged_whole =
    let old = bytes_below (old_job [] (field ∷ [])) refl in
    let new = bytes_below (revision [] (field ∷ [])) refl in
    (ap charge_of (told_by_take 1 _ _ events (old, (new, tt)) 1 _ _), refl)

-- "with its two windows inside the stretch": the window before the first 03 is in the changed stretch
pub window_outside : KeptMaximum 1 (field.changed ++ field.kept) (length field.changed + field.place)
    × (ceiling_of 1 (field ∷ []) < charge)
window_outside = (
  kept_maximum 1 _ 4 (omega arith) (omega arith) (omega arith) (omega arith),
  rw charged_whole.0 (omega arith),
)

-- "k of the kept stretch": 01 is the place 2 from the start of the changed stretch
pub place_outside : KeptMaximum 1 (field.changed ++ field.kept) 2 × (length field.changed + 2 + 257 * 1 < charge)
place_outside = (
  kept_maximum 1 _ 2 (omega arith) (omega arith) (omega arith) (omega arith),
  rw charged_whole.0 (omega arith),
)

-- "the last reaching the end of both jobs": 00 to FF rising, where the old job has one more byte; no field is changed
pub end_outside :
    (take_in (before (start 1 (replicate 513 0) (replicate 4 0)) (handed (rising ++ (0 ∷ [])) ∷ handed rising ∷ []) 1) rising
    (replicate 8 0)).answer.quoted.new_bytes ≡ 256
unfolding computed
end_outside =
    let old = bytes_below (rising ++ (0 ∷ [])) refl in
    ap charge_of (told_by_take 1 _ _ (handed (rising ++ (0 ∷ [])) ∷ handed rising ∷ []) (old, (bytes_below rising refl, tt)) 1 _ _)
