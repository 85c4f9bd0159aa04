-- Where the chunks of a job start in it.
use Prim.Native.Nat.{ℕ, ◌+◌, ◌≤◌}
use native.Mathlib.Omega.{arith}
use mathlib.Core.Path.{◌≡◌, refl, sym, ap, ◌∙◌}
use mathlib.Core.Logic.{⊎_elim}
use mathlib.Core.Bool.{true}
use mathlib.Core.List.{List, [], ◌∷◌, ◌++◌, Memᴰ}
use lib.ListN.{length, take, drop, get_or, length-take, length-drop}
use lib.Seq.{drop-drop}
use Rattle.scan.specs.Scanner.{fresh}
use Rattle.scan.specs.Limits.{chunk_limit}
use Rattle.chunker.specs.Bytes.{Bytes}
use Rattle.chunker.specs.Scanner.{window_allowed}
use Rattle.chunker.specs.Answers.{fed}
use Rattle.chunker.specs.Chunks.{cut_chunks, remaining, last_chunk, chunks, total}
use Rattle.chunker.proofs.laws.NextChunk.{no_chunks, next_chunk_lem}
use Rattle.chunker.proofs.theorems.ChunkLimit.{cut_limit, last_limit}

-- the chunk c starts at a position of the job
pub record StartsAt (job : List ℕ) (at : ℕ) (c : List ℕ) : Type 0 where
  pub is : take (length c) (drop at job) ≡ c
  pub some : 1 ≤ length c
  pub within : at + length c ≤ length job
  pub small : length c ≤ chunk_limit

-- what remains of a job at its end
last_small : (bytes c : List ℕ) → length bytes ≤ chunk_limit → Memᴰ c (last_chunk bytes) → length c ≤ chunk_limit
last_small [] c h m = absurd (mathlib.Core.List.Memᴰ.not-nil m)
last_small (b ∷ bs) c h m = rw (mathlib.Core.List.Memᴰ.eq_of_singleton m) h

module _ (w : ℕ) (allowed : window_allowed w ≡ true) where
  -- a chunk of a job of bytes
  chunk_small : (job : List ℕ) → Bytes job → (c : List ℕ) → Memᴰ c (chunks w job) → length c ≤ chunk_limit
  unfolding chunks
  chunk_small job bytes c m =
      ⊎_elim (cut_limit w allowed job bytes c)
      (last_small (remaining (fresh w) [] job) c (omega (arith, last_limit w allowed job bytes)))
      (mathlib.Core.List.Memᴰ.append_cases (cut_chunks (fresh w) [] job) m)

  -- a job with a chunk has bytes
  some_bytes : (job : List ℕ) (c : List ℕ) (cs : List (List ℕ)) → chunks w job ≡ c ∷ cs → 1 ≤ length job
  some_bytes [] c cs e =
      let none : length (c ∷ cs) ≡ length {A = List ℕ} [] = ap length (sym e ∙ no_chunks w) in
      absurd (omega arith)
  some_bytes (b ∷ bs) c cs e = omega arith

  -- the first chunk, and those after it
  record Parts (job c : List ℕ) (cs : List (List ℕ)) : Type 0 where
    first : take (length c) job ≡ c
    some : 1 ≤ length c
    within : length c ≤ length job
    later : chunks w (drop (length c) job) ≡ cs

  parts : (job c : List ℕ) (cs : List (List ℕ)) → chunks w job ≡ c ∷ cs → Parts job c cs
  parts job c cs e =
      let next = next_chunk_lem w allowed job (some_bytes job c cs e) in
      let n = (fed (fresh w) job).consumed in
      let both : take n job ∷ chunks w (drop n job) ≡ c ∷ cs = sym next.first ∙ e in
      let first : take n job ≡ c = ap (λ l. get_or l 0 []) both in
      let size : length c ≡ n = rw (sym first) (omega (arith, length-take n job, next.within)) in
      record {
        first = rw size first;
        some = omega (arith, next.some);
        within = omega (arith, next.within);
        later = rw size (ap (λ l. drop 1 l) both);
      }

  -- the bytes of a chunk after others are those of what they leave
  drop_more : (job d : List ℕ) (ds : List (List ℕ)) → drop (length d + total ds) job ≡ drop (total ds) (drop (length d) job)
  drop_more job d ds = sym (drop-drop (total ds) (length d) job)

  -- where a chunk stands, and that it lies in the job
  stands : (earlier : List (List ℕ)) (job c : List ℕ) (cs : List (List ℕ)) → chunks w job ≡ earlier ++ (c ∷ cs)
      → (take (length c) (drop (total earlier) job) ≡ c) × (1 ≤ length c) × (total earlier + length c ≤ length job)
  stands [] job c cs e = let p = parts job c cs e in (p.first, p.some, omega (arith, p.within))
  stands (d ∷ ds) job c cs e =
      let p = parts job d (ds ++ (c ∷ cs)) e in
      let s = stands ds (drop (length d) job) c cs p.later in
      (rw (drop_more job d ds) s.0, s.1, omega (arith, s.2, p.within, length-drop (length d) job))

  -- a chunk starts where those before it end
  pub starts_at : (earlier : List (List ℕ)) (job c : List ℕ) (cs : List (List ℕ)) → Bytes job
      → chunks w job ≡ earlier ++ (c ∷ cs) → StartsAt job (total earlier) c
  starts_at earlier job c cs bytes e =
      let s = stands earlier job c cs e in
      let among : Memᴰ c (chunks w job) = rw e (mathlib.Core.List.Memᴰ.append_right earlier (mathlib.Core.List.Memᴰ.head refl)) in
      record { is = s.0; some = s.1; within = s.2; small = chunk_small job bytes c among }

  -- what is left after them
  pub left_after : (earlier : List (List ℕ)) (job : List ℕ) (cs : List (List ℕ)) → chunks w job ≡ earlier ++ cs
      → chunks w (drop (total earlier) job) ≡ cs
  left_after [] job cs e = e
  left_after (d ∷ ds) job cs e =
      let p = parts job d (ds ++ cs) e in
      rw (drop_more job d ds) (left_after ds (drop (length d) job) cs p.later)

  -- they lie in the job
  pub total_within : (earlier : List (List ℕ)) (job : List ℕ) (cs : List (List ℕ)) → chunks w job ≡ earlier ++ cs
      → total earlier ≤ length job
  total_within [] job cs e = omega arith
  total_within (d ∷ ds) job cs e =
      let p = parts job d (ds ++ cs) e in
      omega (arith, total_within ds (drop (length d) job) cs p.later, p.within, length-drop (length d) job)
