-- The chunks of a job: their lengths, one by one and together.
use Prim.Native.Nat.{ℕ, ◌+◌, ◌*◌, ◌≤◌}
use native.Mathlib.Omega.{arith}
use mathlib.Core.Path.{◌≡◌, refl, ap, ◌∙◌}
use mathlib.Core.Logic.{⊎_elim}
use mathlib.Core.Bool.{true, false, cond}
use mathlib.Core.List.{List, [], ◌∷◌, Memᴰ}
use lib.ListN.{length, length-append}
use Rattle.scan.specs.Limits.{window_limit}
use Rattle.scan.specs.Scanner.{fresh}
use Rattle.chunker.specs.Bytes.{Bytes}
use Rattle.chunker.specs.Chunks.{cut_chunks, remaining, last_chunk, chunks, total}
use Rattle.chunker.specs.Splitting.{joined}
use Rattle.chunker.proofs.theorems.ChunkSizes.{cut_size, last_size, chunks_joined}
use Rattle.store.specs.Contents.{has, gain, added}
use Rattle.storing.proofs.laws.Adding.{Allowed}

-- what remains of a job at its end
last_allowed : (w : ℕ) (bytes : List ℕ) → length bytes ≤ 256 * w → Allowed w (last_chunk bytes)
last_allowed w [] h c m = absurd (mathlib.Core.List.Memᴰ.not-nil m)
last_allowed w (b ∷ bs) h c m = rw (mathlib.Core.List.Memᴰ.eq_of_singleton m) (omega arith)

-- each chunk of a job of bytes
pub chunks_allowed : (w : ℕ) → 1 ≤ w → w ≤ window_limit → (job : List ℕ) → Bytes job → Allowed w (chunks w job)
unfolding chunks
chunks_allowed w low high job bytes c m =
    ⊎_elim (λ (k : Memᴰ c (cut_chunks (fresh w) [] job)). let s = cut_size w low high job bytes c k in omega arith)
    (last_allowed w (remaining (fresh w) [] job) (last_size w low high job bytes) c)
    (mathlib.Core.List.Memᴰ.append_cases (cut_chunks (fresh w) [] job) m)

-- as many bytes as laid end to end
total_joined : (cs : List (List ℕ)) → total cs ≡ length (joined cs)
total_joined [] = refl
total_joined (c ∷ cs) = rw (length-append c (joined cs), total_joined cs)

-- the bytes of a job's chunks are the job's
pub total_chunks : (w : ℕ) (job : List ℕ) → total (chunks w job) ≡ length job
total_chunks w job = total_joined (chunks w job) ∙ ap length (chunks_joined w job)

-- one more
allowed_both : (w : ℕ) (d : List ℕ) (ds : List (List ℕ)) → (1 ≤ length d) × (length d ≤ 256 * w + 1) → Allowed w ds
    → Allowed w (d ∷ ds)
allowed_both w d ds first later c m =
    ⊎_elim (λ (k : Memᴰ c (d ∷ [])). rw (mathlib.Core.List.Memᴰ.eq_of_singleton k) first) (later c)
    (mathlib.Core.List.Memᴰ.append_cases (d ∷ []) m)

-- the new ones of chunks that are allowed are
pub added_allowed : (w : ℕ) (held cs : List (List ℕ)) → Allowed w cs → Allowed w (added held cs)
unfolding added
added_allowed w held [] a = λ c m. absurd (mathlib.Core.List.Memᴰ.not-nil m)
added_allowed w held (d ∷ ds) a =
    let later = added_allowed w (gain held d) ds (λ c m. a c (mathlib.Core.List.Memᴰ.tail m)) in
    let first = a d (mathlib.Core.List.Memᴰ.head refl) in
    elim (has held d) as (λ t. Allowed w (cond t (added (gain held d) ds) (d ∷ added (gain held d) ds))) [
      | true ↦ later
      | false ↦ allowed_both w d (added (gain held d) ds) first later
    ]
