-- "the longest piece is 16,385 bytes and a controller can set aside fixed memory for one".
use Prim.Native.Nat.{ℕ, ◌+◌, ◌*◌, ◌≤◌, ◌<◌}
use native.Mathlib.Omega.{arith}
use mathlib.Core.Path.{◌≡◌, refl, ap, sym, ◌∙◌}
use mathlib.Core.Bool.{true, true≢false}
use mathlib.Core.List.{List, [], ◌∷◌, ◌++◌, Memᴰ}
use lib.ListN.{length, length-append}
use Rattle.scan.specs.declared.Scanner.{Scanner}
use Rattle.scan.specs.Scanner.{fresh}
use Rattle.scan.specs.Scan.{uncut, scan}
use Rattle.scan.specs.Limits.{chunk_limit}
use Rattle.scan.specs.internal.Sound.{Sound}
use Rattle.scan.proofs.laws.Moves.{move_cut}
use Rattle.chunker.specs.Bytes.{Bytes}
use Rattle.chunker.specs.Scanner.{window_allowed}
use Rattle.chunker.specs.Chunks.{after, cut_chunks, remaining}
use Rattle.chunker.proofs.laws.Appending.{cut_chunks_append}
use Rattle.chunker.proofs.laws.FirstCut.{Scanned, whole, up_to, scanned}
use Rattle.chunker.proofs.laws.ground.Soundness.{window_bounds, sound_ground, fresh_ground, opened_fresh, fed_accepted, bytes_append}
use Rattle.chunker.proofs.theorems.ChunkSizes.{cut_size, last_size, after_count}
use Rattle.chunker.proofs.theorems.Reached.{reached}

-- the limit in bytes
pub chunk_limit_lem : chunk_limit ≡ 16385
chunk_limit_lem = refl

module _ (w : ℕ) (allowed : window_allowed w ≡ true) (job : List ℕ) (bytes : Bytes job) where
  -- a chunk that a cut ends has at most 16,385 bytes, whatever the allowed window
  pub cut_limit : (c : List ℕ) → Memᴰ c (cut_chunks (fresh w) [] job) → length c ≤ chunk_limit
  cut_limit c m =
      let b = window_bounds w allowed in omega (arith, cut_size w b.0 b.1 job bytes c m)

  -- a last one has at most 16,384
  pub last_limit : length (remaining (fresh w) [] job) < chunk_limit
  last_limit = let b = window_bounds w allowed in omega (arith, last_size w b.0 b.1 job bytes)

-- the scanner before the last byte of the longest chunk
abbrev almost_longest : ℕ → Scanner
almost_longest w = record { window = w; count = 256 * w; place = 255 * w + 1; value = 255 }

module _ (w : ℕ) (allowed : window_allowed w ≡ true) where
  -- bytes that lead to it
  leads : (x : List ℕ) × Bytes x × (scan (fresh w) 0 x ≡ uncut (almost_longest w) (length x))
  leads =
      let b = window_bounds w allowed in
      let sound : Sound (almost_longest w) = omega (arith, b.0, b.1) in
      let r = reached (almost_longest w) (omega arith) (sound_ground (almost_longest w) sound) in (
        r.0,
        r.1,
        sym (fed_accepted (fresh w) r.0 (fresh_ground w allowed)) ∙ rw (opened_fresh w allowed) at r.2,
      )

  -- and one byte more
  module _ (x : List ℕ) (e : scan (fresh w) 0 x ≡ uncut (almost_longest w) (length x)) where
    ended : Scanned (fresh w) [] 0 x (scan (fresh w) 0 x)
        → (length (x ++ (0 ∷ [])) ≡ 256 * w + 1) × (cut_chunks (fresh w) [] (x ++ (0 ∷ [])) ≡ (x ++ (0 ∷ [])) ∷ [])
    unfolding cut_chunks
    ended (up_to j p l h f u c r a) = absurd (true≢false (ap (λ y. y.cut) (sym f ∙ e)))
    ended (whole f c r) =
        let b = window_bounds w allowed in
        let there : after (fresh w) x ≡ almost_longest w = ap (λ y. y.scanner) (sym f ∙ e) in
        let cut = move_cut (almost_longest w) 0 (omega (arith, b.0)) (omega arith) (omega arith) in (
          omega (arith, length-append x (0 ∷ []), ap length r, ap (λ s. s.count) there, after_count (fresh w) [] x refl),
          rw (cut_chunks_append (fresh w) [] x (0 ∷ []), c, r, there, cut),
        )

  -- a chunk of any allowed window can be as long as the sizes allow: with w = 64, 16,385 bytes
  pub longest : (job : List ℕ) × Bytes job × (length job ≡ 256 * w + 1) × (cut_chunks (fresh w) [] job ≡ job ∷ [])
  longest =
      let l = leads in
      let d = ended l.0 l.2 (scanned (fresh w) [] 0 l.0) in
      (l.0 ++ (0 ∷ []), bytes_append l.0 (0 ∷ []) l.1 (omega arith, tt), d.0, d.1)
