-- Demand 2: "New bytes count exactly the first appearances; new plus repeated bytes are the accepted job's length".
use Prim.Native.Nat.{ℕ, suc}
use mathlib.Core.Path.{◌≡◌, refl, ap, ◌∙◌}
use mathlib.Core.List.{List, [], ◌++◌}
use Rattle.chunker.specs.Chunks.{chunks, total}
use Rattle.store.proofs.laws.contents.Members.{SameMembers, grown_members}
use Rattle.store.proofs.laws.contents.Additions.{grown_added}
use Rattle.admission.specs.Quote.{Quotation}
use Rattle.promises.specs.History.{Event, start, holds, before, chunks_before, TakenAt, AskedAt, AllBytes}
use Rattle.promises.specs.FirstAppearances.{first_appearances, FirstAppearances}
use Rattle.promises.proofs.laws.Appearances.{added_first, repeated_later}
use Rattle.promises.proofs.laws.Events.{told_at, next_holds, start_fits, standing}

module _ (w : ℕ) (pool directory : List ℕ) (events : List Event) (b : AllBytes events) where
  -- the store holds the chunks of the jobs accepted before, and no others
  same_members : (j : ℕ)
      → SameMembers (holds (before (start w pool directory) events j)) (chunks_before (start w pool directory) events j)
  same_members j =
      rw (standing w pool directory events b j)
      (grown_members [] [] (λ c. refl) (chunks_before (start w pool directory) events j))

  -- "a piece is thus new when no job accepted before, and no earlier place of this job, has it": of a job that is quoted or
  -- taken
  pub first_appearances_lem : (j : ℕ) (job : List ℕ) (q : Quotation) → AskedAt (start w pool directory) events j job q
      → FirstAppearances w (chunks_before (start w pool directory) events j) job q.answer.new_bytes
      q.answer.repeated_bytes
  first_appearances_lem j job q a =
      let s = start w pool directory in
      let t = (told_at s (start_fits w pool directory) events b j job q a).tells in
      let members = same_members j in
      record {
        first = t.new ∙ ap total (added_first _ _ members (chunks w job));
        others = t.others ∙ ap total (repeated_later _ _ members (chunks w job));
        all = t.all;
      }

  -- after a take the store holds what it held, then the first appearances in their order
  pub holds_first_appearances : (i : ℕ) (job : List ℕ) (q : Quotation) → TakenAt (start w pool directory) events i job q
      → holds (before (start w pool directory) events (suc i))
      ≡ holds (before (start w pool directory) events i)
      ++ first_appearances (chunks_before (start w pool directory) events i) (chunks w job)
  holds_first_appearances i job q a =
      let s = start w pool directory in
      let held = holds (before s events i) in
      next_holds s (start_fits w pool directory) events b i job q a ∙ grown_added held (chunks w job)
      ∙ ap (λ new. held ++ new) (added_first _ _ (same_members i) (chunks w job))
