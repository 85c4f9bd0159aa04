-- "A tail of equal bytes need never line up again": two jobs with such an ending, of which no cut is at the same place.
use Prim.Native.Nat.{ℕ, zero, suc, ◌+◌, ◌*◌, ◌-◌, ◌≤◌}
use native.Mathlib.Omega.{arith}
use native.Mathlib.Decide.{dec_le}
use native.Mathlib.Nat.{mul-le-mul_right, suc-mul}
use mathlib.Core.Path.{◌≡◌, refl, ap, ◌∙◌}
use mathlib.Core.Logic.{⊎_elim}
use mathlib.Core.Bool.{Bool, true, false, cond}
use mathlib.Core.List.Memᴰ
use mathlib.Core.List.{List, [], ◌∷◌, ◌++◌, map, Memᴰ}
use lib.Dec.{leb}
use lib.ListN.{length, take, drop, replicate, length-take, length-replicate, get_or-replicate}
use borrow.Author.Tests.{leb-true}
use Rattle.scan.specs.Scanner.{fresh}
use Rattle.chunker.specs.Chunks.{cut_chunks, remaining, ends, cuts, filter, ending_cuts}
use Rattle.chunker.specs.Method.{byte_at, MaximumPoint, Division}
use Rattle.chunker.specs.KeptMaximum.{KeptMaximum}
use Rattle.chunker.proofs.theorems.PublishedMethod.{divides}

module _ (a n p : ℕ) where
  -- a place from a + n on, counted after place a
  filter_member : (ps : List ℕ) → Memᴰ p (map (λ q. q - a) (filter (leb (a + n)) ps)) → Memᴰ (p + a) ps
  filter_member [] m = absurd (Memᴰ.not-nil m)
  filter_member (q ∷ ps) m = step (leb (a + n) q) refl (filter_member ps) m
    where
      step : (t : Bool) → leb (a + n) q ≡ t
          → (Memᴰ p (map (λ q. q - a) (filter (leb (a + n)) ps)) → Memᴰ (p + a) ps)
          → Memᴰ p (map (λ q. q - a) (cond t (q ∷ filter (leb (a + n)) ps) (filter (leb (a + n)) ps)))
          → Memᴰ (p + a) (q ∷ ps)
      step true e later m =
          ⊎_elim (λ h. Memᴰ.head (omega (arith, leb-true (a + n) q e))) (λ h. Memᴰ.tail (later h))
          (Memᴰ.cases_cons m)
      step false e later m = Memᴰ.tail (later m)

-- a cut of an ending is a cut of the job
pub ending_member : (w : ℕ) (x e : List ℕ) (n p : ℕ) → Memᴰ p (ending_cuts w x e n)
    → Memᴰ (p + length x) (cuts w (x ++ e))
unfolding ending_cuts
ending_member w x e n p m = filter_member (length x) n p (cuts w (x ++ e)) m

-- what is said of n bytes, each of which is b
module _ (b : ℕ) where
  byte_equal : (n q : ℕ) → 1 ≤ q → q ≤ n → byte_at (replicate n b) q ≡ b
  byte_equal n zero h l = absurd (omega arith)
  byte_equal n (suc q) h l = get_or-replicate n q b 0 l

  drop_equal : (i n : ℕ) → drop i (replicate n b) ≡ replicate (n - i) b
  drop_equal zero n = let e : n - 0 ≡ n = omega arith in rw e
  drop_equal (suc i) zero = let e : 0 - suc i ≡ 0 = omega arith in rw e
  drop_equal (suc i) (suc n) = let e : suc n - suc i ≡ n - i = omega arith in rw e (drop_equal i n)

  -- the one maximum point of them is the first place
  first_place : (w n p : ℕ) → MaximumPoint w (replicate n b) p → p ≡ 1
  first_place w n p m =
      let all = length-replicate n b in
      let same = byte_equal n p m.place (omega arith) in
      let first = byte_equal n 1 (omega arith) (omega (arith, m.place, m.window)) in
      elim (dec_le p 1) [ yes h ↦ omega arith | no h ↦ absurd (omega (arith, m.larger 1 (omega arith) (omega arith))) ]

  -- their first chunk has w + 1 bytes
  first_chunk : (w n p : ℕ) (c : List ℕ) → MaximumPoint w (replicate n b) p → c ≡ take (p + w) (replicate n b)
      → length c ≡ suc w
  first_chunk w n p c m e =
      let one = first_place w n p m in
      let all = length-replicate n b in
      omega (arith, ap length e, length-take (p + w) (replicate n b))

  -- so have the others: after m chunks, each one ends at a multiple of w + 1
  equal_ends : (w : ℕ) (cs : List (List ℕ)) (n : ℕ) (rest : List ℕ) → Division w (replicate n b) cs rest
      → (a m : ℕ) → a ≡ m * suc w → (q : ℕ) → Memᴰ q (ends a cs) → (i : ℕ) × (q ≡ i * suc w)
  equal_ends w [] n rest d a m e q k = absurd (Memᴰ.not-nil k)
  equal_ends w (c ∷ cs) n rest d a m e q k =
      let size = first_chunk w n d.0 c d.1.maximum d.2 in
      let next : a + length c ≡ suc m * suc w = omega (arith, suc-mul m (suc w)) in
      let later = rw (drop_equal (d.0 + w) n) at d.3 in
      ⊎_elim (λ h. (suc m, h ∙ next)) (λ h. equal_ends w cs (n - (d.0 + w)) rest later (a + length c) (suc m) next q h)
      (Memᴰ.cases_cons k)

  -- each cut is at a multiple of w + 1
  pub equal_cuts : (w : ℕ) → 1 ≤ w → (n q : ℕ) → Memᴰ q (cuts w (replicate n b)) → (i : ℕ) × (q ≡ i * suc w)
  unfolding cuts
  equal_cuts w h n q k =
      let job = replicate n b in
      equal_ends w (cut_chunks (fresh w) [] job) n (remaining (fresh w) [] job) (divides w h job) 0 0 (omega arith) q k

  -- of more than w of them the first is a maximum point
  first_maximum : (w n : ℕ) → suc w ≤ n → MaximumPoint w (replicate n b) 1
  first_maximum w n h =
      let all = length-replicate n b in
      let first = byte_equal n 1 (omega arith) (omega arith) in
      record {
        place = omega arith;
        window = omega arith;
        larger = λ q l g. absurd (omega arith);
        not_smaller = λ q l g. omega (arith, byte_equal n q (omega arith) (omega arith));
      }

  -- the further chunks that end after place a
  multiple_ends : (w : ℕ) (cs : List (List ℕ)) (n : ℕ) (rest : List ℕ) → Division w (replicate n b) cs rest
      → (a i : ℕ) → suc i * suc w ≤ n → Memᴰ (a + suc i * suc w) (ends a cs)
  multiple_ends w [] n rest d a i h = absurd (d.1 1 (first_maximum w n (omega (arith, suc-mul i (suc w)))))
  multiple_ends w (c ∷ cs) n rest d a zero h =
      Memᴰ.head {x = a + length c} (omega (arith, first_chunk w n d.0 c d.1.maximum d.2))
  multiple_ends w (c ∷ cs) n rest d a (suc i) h =
      let size = first_chunk w n d.0 c d.1.maximum d.2 in
      let one = first_place w n d.0 d.1.maximum in
      let later = rw (drop_equal (d.0 + w) n) at d.3 in
      let more = suc-mul (suc i) (suc w) in
      let m = multiple_ends w cs (n - (d.0 + w)) rest later (a + length c) i (omega arith) in
      Memᴰ.tail (Memᴰ.cast (omega arith) m)

  -- each multiple of w + 1 up to their number is a cut
  pub multiple_cuts : (w : ℕ) → 1 ≤ w → (n i : ℕ) → suc i * suc w ≤ n
      → Memᴰ (suc i * suc w) (cuts w (replicate n b))
  unfolding cuts
  multiple_cuts w h n i l =
      let job = replicate n b in
      let cs = cut_chunks (fresh w) [] job in
      Memᴰ.cast (omega arith) (multiple_ends w cs n (remaining (fresh w) [] job) (divides w h job) 0 i l)

  -- no place of them is one from which jobs line up
  pub no_kept_maximum : (w : ℕ) → 1 ≤ w → (n k : ℕ) → KeptMaximum w (replicate n b) k → ⊥
  no_kept_maximum w h n k m =
      let fits = length-replicate n b in
      omega (
        arith,
        m.larger (k - 1) (omega arith) (omega arith),
        byte_equal n k (omega arith) (omega arith),
        byte_equal n (k - 1) (omega arith) (omega arith),
      )

  -- n of them with nothing before them, and with one more of them before them: no place is a cut of both jobs
  pub never_lines_up : (w : ℕ) → 1 ≤ w → (n p : ℕ) → Memᴰ p (ending_cuts w [] (replicate n b) 1)
      → Memᴰ p (ending_cuts w (b ∷ []) (replicate n b) 1) → ⊥
  never_lines_up w h n p k l =
      let x = equal_cuts w h n _ (ending_member w [] (replicate n b) 1 p k) in
      let y = equal_cuts w h (suc n) _ (ending_member w (b ∷ []) (replicate n b) 1 p l) in
      let more = suc-mul x.0 (suc w) in
      elim (dec_le (suc x.0) y.0) [
        | yes g ↦ omega (arith, x.1, y.1, mul-le-mul_right (suc w) g)
        | no g ↦ omega (arith, x.1, y.1, mul-le-mul_right {m = y.0} {n = x.0} (suc w) (omega arith))
      ]
