-- The ceiling on the charge of a revision that changes several fields, of any list of quotes and takes from a fresh store.
use Prim.Native.Nat.{ℕ, ◌≤◌, ◌<◌}
use native.Mathlib.Omega.{arith}
use mathlib.Core.Path.{◌≡◌}
use mathlib.Core.List.{List, []}
use Rattle.chunker.proofs.laws.ground.Soundness.{window_bounds}
use Rattle.admission.specs.Quote.{Quotation}
use Rattle.promises.specs.History.{Event, start, holds, before, TakenAt, AskedAt, AllBytes}
use Rattle.promises.specs.Fields.{Field, old_job, revision, AllKept, ceiling_of}
use Rattle.promises.proofs.laws.Events.{bytes_at, told_at, named_at, start_fits}
use Rattle.promises.proofs.laws.Fields.{gained_fields}

module _ (w : ℕ) (pool directory : List ℕ) (events : List Event) (bytes : AllBytes events) (i j : ℕ) (l : i < j)
    (old new : Quotation) where
  -- "the charge must be at most the sum, over the changed stretches, of changed length + k of the kept stretch after it +
  -- 257 × w": of each job that is taken, each later quote or take of a revision, and each division into fields
  pub several_fields : (opening : List ℕ) (fields : List Field)
      → TakenAt (start w pool directory) events i (old_job opening fields) old
      → AskedAt (start w pool directory) events j (revision opening fields) new
      → AllKept w fields → new.answer.new_bytes ≤ ceiling_of w fields
  several_fields opening fields taken asked kept =
      let s = start w pool directory in
      let f = start_fits w pool directory in
      let told = told_at s f events bytes j (revision opening fields) new asked in
      let bounds = window_bounds w told.allowed in
      let job = bytes_at s f events bytes j (revision opening fields) new asked in
      let had = (named_at s f events bytes i (old_job opening fields) old taken j l).among in
      rw told.tells.new (gained_fields w bounds.0 bounds.1 fields kept opening job (holds (before s events j)) had)

  -- no field at all: a job that comes again is charged nothing
  pub no_field : (job : List ℕ) → TakenAt (start w pool directory) events i job old
      → AskedAt (start w pool directory) events j job new → new.answer.new_bytes ≡ 0
  no_field job taken asked = omega (arith, several_fields job [] taken asked tt)
