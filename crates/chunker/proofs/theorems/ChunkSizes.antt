-- How long chunks are, and that the chunks laid end to end are the job.
use Prim.Native.Nat.{ℕ, ◌+◌, ◌*◌, ◌≤◌}
use native.Mathlib.Omega.{arith}
use native.Mathlib.Nat.{mul-le-mul_right}
use mathlib.Core.Path.{◌≡◌, refl, ap, sym, ◌∙◌}
use mathlib.Core.Logic.{⊎_elim}
use mathlib.Core.List.Memᴰ
use mathlib.Core.List.{List, [], ◌∷◌, ◌++◌, append_assoc, append-nil, Memᴰ}
use lib.ListN.{length, length-append}
use Rattle.scan.specs.declared.Scanner.{Scanner}
use Rattle.scan.specs.Scanner.{fresh}
use Rattle.scan.specs.Move.{Move, Rise, Hold, Cut, move, moved, next}
use Rattle.chunker.specs.Chunks.{kept, ended, after, cut_chunks, remaining, last_chunk, chunks}
use Rattle.chunker.specs.Splitting.{joined}
use Rattle.scan.proofs.laws.Moves.{Moved, starts, rises, holds, cuts, facts}
use Rattle.chunker.proofs.laws.Appending.{next_window, after_window}
use Rattle.chunker.proofs.laws.FirstCut.{chunks_from}
use Rattle.chunker.specs.Bytes.{Bytes}
use Rattle.scan.specs.internal.Sound.{Sound}
use Rattle.scan.proofs.laws.Soundness.{fresh_sound, next_sound}
use Rattle.chunker.proofs.laws.ground.Soundness.{after_sound}
use Rattle.scan.specs.Limits.{window_limit}

-- a sound scanner's count is bounded by its window
pub sound_count : (s : Scanner) → Sound s → s.count ≤ 256 * s.window
sound_count s h =
    let v : s.value ≤ 255 = omega arith in
    omega (arith, mul-le-mul_right s.window v)

-- each move counts the bytes since the last cut
by_move : (m : Move) (s : Scanner) (since : List ℕ) (b : ℕ) → s.count ≡ length since
    → (moved m s b).count ≡ length (kept m (since ++ (b ∷ [])))
by_move Rise s since b e = rw length-append (omega arith)
by_move Hold s since b e = rw length-append (omega arith)
by_move Cut s since b e = refl

-- a byte keeps a scanner's count that of the bytes since the last cut
pub next_count : (s : Scanner) (since : List ℕ) (b : ℕ) → s.count ≡ length since
    → (next s b).count ≡ length (kept (move s b) (since ++ (b ∷ [])))
unfolding next
next_count s since b e = by_move (move s b) s since b e

-- so do bytes
pub after_count : (s : Scanner) (since xs : List ℕ) → s.count ≡ length since
    → (after s xs).count ≡ length (remaining s since xs)
unfolding after remaining
after_count s since [] e = e
after_count s since (b ∷ bs) e =
    after_count (next s b) (kept (move s b) (since ++ (b ∷ []))) bs (next_count s since b e)

-- the length of a chunk that a cut ends
abbrev Sized : ℕ → List ℕ → Type 0
Sized w c = (w + 1 ≤ length c) × (length c ≤ 256 * w + 1)

-- a chunk that one byte ends
ended_size : (s : Scanner) (since : List ℕ) (b : ℕ) (c : List ℕ) {m : Move} → Moved s b m → Sound s
    → s.count ≡ length since → Memᴰ c (ended m (since ++ (b ∷ []))) → Sized s.window c
ended_size s since b c (starts _) h e k = absurd (Memᴰ.not-nil k)
ended_size s since b c (rises _) h e k = absurd (Memᴰ.not-nil k)
ended_size s since b c (holds _ _ _) h e k = absurd (Memᴰ.not-nil k)
ended_size s since b c (cuts x y z) h e k =
    omega (arith, sound_count s h, ap length (Memᴰ.eq_of_singleton k), length-append since (b ∷ []))

-- each chunk that bytes end on the way
cut_sizes : (s : Scanner) (since xs c : List ℕ) → Bytes xs → Sound s → s.count ≡ length since
    → Memᴰ c (cut_chunks s since xs) → Sized s.window c
unfolding cut_chunks
cut_sizes s since [] c k h e m = absurd (Memᴰ.not-nil m)
cut_sizes s since (b ∷ bs) c k h e m =
    let since' = kept (move s b) (since ++ (b ∷ [])) in
    let later = cut_sizes (next s b) since' bs c k.1 (next_sound s b k.0 h) (next_count s since b e) in
    ⊎_elim (ended_size s since b c (facts s b) h e) (λ p. rw (next_window s b) at (later p))
    (Memᴰ.append_cases (ended (move s b) (since ++ (b ∷ []))) m)

-- a chunk that a cut ends has from w + 1 to 256 * w + 1 bytes
pub cut_size : (w : ℕ) → 1 ≤ w → w ≤ window_limit → (job : List ℕ) → Bytes job → (c : List ℕ)
    → Memᴰ c (cut_chunks (fresh w) [] job) → (w + 1 ≤ length c) × (length c ≤ 256 * w + 1)
cut_size w low high job k c m = cut_sizes (fresh w) [] job c k (fresh_sound w low high) refl m

-- what remains has at most 256 * w bytes
pub last_size : (w : ℕ) → 1 ≤ w → w ≤ window_limit → (job : List ℕ) → Bytes job → length (remaining (fresh w) [] job) ≤ 256 * w
last_size w low high job k =
    let h = sound_count (after (fresh w) job) (after_sound (fresh w) job k (fresh_sound w low high)) in
    omega (arith, after_count (fresh w) [] job refl, rw (after_window (fresh w) job) at h)

-- a last chunk that exists has a byte
pub last_nonempty : (bytes c : List ℕ) → Memᴰ c (last_chunk bytes) → 1 ≤ length c
last_nonempty [] c m = absurd (Memᴰ.not-nil m)
last_nonempty (b ∷ bs) c m = rw (Memᴰ.eq_of_singleton m) (omega arith)

-- the last chunk is what remains
joined_last : (bytes : List ℕ) → joined (last_chunk bytes) ≡ bytes
joined_last [] = refl
joined_last (b ∷ bs) = append-nil (b ∷ bs)

-- a chunk that a move ends, and the chunks after it
joined_move : (m : Move) (x bs : List ℕ) (cs : List (List ℕ)) → joined cs ≡ kept m x ++ bs
    → joined (ended m x ++ cs) ≡ x ++ bs
joined_move Rise x bs cs e = e
joined_move Hold x bs cs e = e
joined_move Cut x bs cs e = rw e

-- the chunks of bytes that are read and bytes to come
pub all_joined : (s : Scanner) (since xs : List ℕ) → joined (chunks_from s since xs) ≡ since ++ xs
unfolding cut_chunks remaining
all_joined s since [] = joined_last since ∙ sym (append-nil since)
all_joined s since (b ∷ bs) =
    let since' = kept (move s b) (since ++ (b ∷ [])) in
    let later = chunks_from (next s b) since' bs in
    let e = joined_move (move s b) (since ++ (b ∷ [])) bs later (all_joined (next s b) since' bs) in
    rw append_assoc (e ∙ append_assoc since (b ∷ []) bs)

-- the chunks laid end to end are the job
pub chunks_joined : (w : ℕ) (job : List ℕ) → joined (chunks w job) ≡ job
unfolding chunks
chunks_joined w job = all_joined (fresh w) [] job
