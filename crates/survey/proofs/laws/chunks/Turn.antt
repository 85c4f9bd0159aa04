-- One turn of a survey: the call that finds the next chunk, and what its answer brings.
use Prim.Native.Nat.{ℕ, ◌+◌, ◌-◌, ◌≤◌, ◌<◌}
use native.Mathlib.Omega.{arith}
use mathlib.Core.Path.{◌≡◌, sym, ap, ◌∙◌}
use mathlib.Core.List.{List}
use lib.ListN.{length, take, drop, length-drop}
use Rattle.scan.specs.declared.FirstChunk.{FirstChunk}
use Rattle.scan.specs.Scanner.{fresh}
use Rattle.scan.specs.Scan.{scan, first_chunk}
use Rattle.chunker.specs.Answers.{fed}
use Rattle.chunker.proofs.laws.ground.Soundness.{fed_accepted, fresh_ground}
use Rattle.chunker.proofs.laws.NextChunk.{NextChunk, rest_whole, next_of_rest}
use Rattle.store.specs.declared.Head.{Head}
use Rattle.survey.specs.internal.Snapshot.{Snapshot}
use Rattle.survey.proofs.laws.chunks.Surveying.{Surveying}

module _ {head : Head} {pool directory index recipe job : List ℕ} {f : Snapshot} {heads starts : List ℕ} {at : ℕ}
    (s : Surveying head pool directory index recipe job f heads starts at) (more : at < length job) (r : FirstChunk)
    (e : r ≡ first_chunk (scan (fresh head.window) 0 (take (length job - at) (drop at job)))) where
  -- the call answers by a feed of a fresh scanner
  pub turn_fed : r ≡ first_chunk (fed (fresh head.window) (drop at job))
  turn_fed =
      e ∙ rw (rest_whole job at) (sym (ap first_chunk (fed_accepted _ _ (fresh_ground _ s.begun.window))))

  -- it finds the next chunk
  pub turn_next : NextChunk head.window (drop at job) r.length
  turn_next =
      next_of_rest _ s.begun.window _ _ more _
      (ap (λ f. f.length) e ∙ sym (ap (λ f. f.consumed) (fed_accepted _ _ (fresh_ground _ s.begun.window))))

  -- which ends no later than the job
  pub turn_within : at + r.length ≤ length job
  turn_within = omega (arith, turn_next.within, length-drop at job, more)

  -- the code hands on as many bytes
  pub turn_part : take (at + r.length - at) (drop at job) ≡ take r.length (drop at job)
  turn_part = let n : at + r.length - at ≡ r.length = omega arith in rw n
