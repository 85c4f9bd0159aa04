-- A count of chunks under way, as the loop keeps it: what is counted and what is left make up what was asked.
use Prim.Native.Nat.{ℕ, ◌+◌, ◌-◌, ◌≤◌}
use native.Mathlib.Omega.{arith}
use native.Mathlib.Nat.{zero-add}
use mathlib.Core.Path.{◌≡◌, ap}
use mathlib.Core.Bool.{true}
use mathlib.Core.List.{List, [], ◌∷◌}
use lib.ListN.{length, take, drop, length-drop}
use lib.Seq.{take_all}
use Rattle.scan.specs.declared.Fed.{Fed}
use Rattle.chunker.specs.Scanner.{window_allowed}
use Rattle.scan.specs.Scanner.{fresh}
use Rattle.chunker.specs.Answers.{fed}
use Rattle.chunker.specs.Chunks.{chunks}
use Rattle.chunker.proofs.laws.NextChunk.{NextChunk, no_chunks, next_chunk_lem}
use Rattle.chunk_count.specs.ChunkCount.{chunk_count}

-- After n chunks, where `rest` is what the job has left
pub record Counted (w : ℕ) (job : List ℕ) (n : ℕ) (rest : List ℕ) : Type 0 where
  pub allowed : window_allowed w ≡ true
  pub few : n + length rest ≤ length job
  pub counts : n + length (chunks w rest) ≡ chunk_count w job

-- The feed whose answer is f takes one chunk more
pub record Turned (w : ℕ) (job : List ℕ) (n : ℕ) (rest : List ℕ) (f : Fed) : Type 0 where
  pub moves : 1 ≤ f.consumed
  pub within : f.consumed ≤ length rest
  pub on : Counted w job (n + 1) (take (length rest - f.consumed) (drop f.consumed rest))

-- no chunk is counted yet
pub sets_out : (w : ℕ) (job : List ℕ) → window_allowed w ≡ true → Counted w job 0 job
unfolding chunk_count
sets_out w job e = record { allowed = e; few = omega arith; counts = rw (e, zero-add) }

-- nothing is left of a job whose length is 0
used_up : (w : ℕ) (rest : List ℕ) → length rest ≡ 0 → length (chunks w rest) ≡ 0
used_up w [] h = rw no_chunks
used_up w (b ∷ bs) h = absurd (omega arith)

module _ {w : ℕ} {job : List ℕ} {n : ℕ} {rest : List ℕ} (u : Counted w job n rest) where
  -- feeding what the job has left takes one chunk more
  pub counts_one : 1 ≤ length rest → (f : Fed) → f ≡ fed (fresh w) rest → Turned w job n rest f
  counts_one more f e =
      let chunk : NextChunk w rest f.consumed = rw (ap (λ x. x.consumed) e) (next_chunk_lem w u.allowed rest more) in
      let left = length-drop f.consumed rest in
      let whole = take_all (length rest - f.consumed) (drop f.consumed rest) (omega arith) in
      record {
        moves = chunk.some;
        within = chunk.within;
        on = rw whole
            (record {
              allowed = u.allowed;
              few = omega (arith, chunk.some, chunk.within, u.few);
              counts = omega (arith, ap length chunk.first, u.counts);
            });
      }

  -- the job is used up
  pub stops : length rest ≡ 0 → n ≡ chunk_count w job
  stops h = omega (arith, used_up w rest h, u.counts)
