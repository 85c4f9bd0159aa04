-- Every sound scanner is what some part leaves of a fresh one, without a cut.
use Prim.Native.Nat.{ℕ, zero, suc, ◌+◌, ◌*◌, ◌-◌, ◌≤◌, ◌<◌, max}
use native.Mathlib.Omega.{arith}
use native.Mathlib.Nat.{zero-add, add-zero, add-suc}
use mathlib.Core.Path.{◌≡◌, refl, ap}
use mathlib.Core.List.{List, [], ◌∷◌, ◌++◌, append_assoc, append-nil}
use lib.ListN.{length, length-append}
use Rattle.scan.specs.declared.Scanner.{Scanner}
use Rattle.scan.specs.Scanner.{fresh}
use Rattle.chunker.specs.Scanner.{scanner_ground}
use Rattle.scan.specs.Move.{Rise, move, next, rise, hold}
use Rattle.chunker.specs.Answers.{opened, fed}
use Rattle.scan.specs.Scan.{uncut, scan}
use Rattle.scan.proofs.laws.Moves.{move_start, move_rise, move_hold}
use Rattle.chunker.specs.Bytes.{Bytes}
use Rattle.scan.specs.internal.Sound.{Sound}
use Rattle.chunker.proofs.laws.ground.Soundness.{bytes_append, ground_sound, sound_ground, window_allowed_lem, opened_fresh, fed_accepted}
use Rattle.scan.proofs.laws.Soundness.{fresh_sound}
use Rattle.std.specs.Prelude.{None}

-- a part after which a fresh scanner is s, with no cut on the way
record Reaching (w : ℕ) (s : Scanner) : Type 0 where
  part : List ℕ
  bytes : Bytes part
  leads : (n : ℕ) (y : List ℕ) → scan (fresh w) n (part ++ y) ≡ scan s (n + length part) y

-- the scanner of window w with these numbers
abbrev at : ℕ → ℕ → ℕ → ℕ → Scanner
at w c p v = record { window = w; count = c; place = p; value = v }

module _ (w : ℕ) where
  -- by no byte
  started : Reaching w (fresh w)
  started = record { part = []; bytes = tt; leads = λ n y. rw add-zero }

  -- one more byte, by which s becomes t
  further : (s t : Scanner) (b : ℕ) → b < 256 → ((n : ℕ) (y : List ℕ) → scan s n (b ∷ y) ≡ scan t (suc n) y)
      → Reaching w s → Reaching w t
  further s t b k e r =
      record {
        part = r.part ++ (b ∷ []);
        bytes = bytes_append r.part (b ∷ []) r.bytes (k, tt);
        leads = λ n y.
            let m = length r.part in
            rw (append_assoc r.part (b ∷ []) y, r.leads n (b ∷ y), e (n + m) y, length-append r.part (b ∷ []))
            (ap (λ k. scan t k y) (omega arith));
      }

  -- a byte that becomes the largest
  risen : (s : Scanner) (b : ℕ) → b < 256 → move s b ≡ Rise → Reaching w s → Reaching w (rise s b)
  unfolding scan next
  risen s b k e r = further s (rise s b) b k (λ n y. rw e) r

  -- a zero is only counted while the chunk does not end
  held : (n c p v : ℕ) → 1 ≤ c → c + suc n < p + w → Reaching w (at w (c + n) p v) → Reaching w (at w (c + suc n) p v)
  unfolding scan next
  held n c p v l k r =
      let s = at w (c + n) p v in
      let e = move_hold s 0 (omega arith) (omega arith) (omega arith) in
      rw add-suc (further s (hold s) 0 (omega arith) (λ m y. rw e) r)

  -- n zeros are only counted
  all_held : (n c p v : ℕ) → 1 ≤ c → c + n < p + w → Reaching w (at w c p v) → Reaching w (at w (c + n) p v)
  all_held zero c p v l k r = rw add-zero r
  all_held (suc n) c p v l k r = held n c p v l k (all_held n c p v l (omega arith) r)

  -- the chunk's first byte
  first : (v : ℕ) → v < 256 → Reaching w (at w 1 1 v)
  first v k = risen (fresh w) v k (move_start (fresh w) v refl) started

  -- a larger byte at place p, from the last byte u at a place q close enough
  larger : (u p q : ℕ) → suc u < 256 → 1 ≤ q → q < p → p ≤ q + w → Reaching w (at w q q u)
      → Reaching w (at w p p (suc u))
  larger u p q k l h g r =
      let t = all_held (p - suc q) q q u l (omega arith) r in
      let s = at w (q + (p - suc q)) q u in
      let m = move_rise s (suc u) (omega arith) (omega arith) in
      let e : suc s.count ≡ p = omega arith in
      rw e at (risen s (suc u) k m t)

  -- the largest byte suc u at place p, if u can stand at every place that it reaches
  by_place : (u p : ℕ) → suc u < 256 → 1 ≤ p → p ≤ suc u * w + 1 → 1 ≤ w
      → ((q : ℕ) → 1 ≤ q → q ≤ u * w + 1 → Reaching w (at w q q u)) → Reaching w (at w p p (suc u))
  by_place u zero k l h g f = absurd (omega arith)
  by_place u (suc zero) k l h g f = first (suc u) k
  by_place u (suc (suc n)) k l h g f =
      let q = max 1 (suc (suc n) - w) in
      larger u (suc (suc n)) q k (omega arith) (omega arith) (omega arith) (f q (omega arith) (omega arith))

  -- the largest byte v at place p, and no byte after it
  risen_to : (v p : ℕ) → v < 256 → 1 ≤ p → p ≤ v * w + 1 → 1 ≤ w → Reaching w (at w p p v)
  risen_to zero p k l h g = let e : p ≡ 1 = omega arith in rw e (first 0 k)
  risen_to (suc u) p k l h g = by_place u p k l h g (λ q a b. risen_to u q (omega arith) a b g)

-- a sound scanner has a part that leads to it
by_count : (s : Scanner) (n : ℕ) → s.count ≡ n → Sound s → Reaching s.window s
by_count s zero c h =
    let p : s.place ≡ 0 = omega arith in
    let v : s.value ≡ 0 = omega arith in
    rw (c, p, v) (started s.window)
by_count s (suc n) c h =
    let r = risen_to s.window s.value s.place h.byte (omega arith) h.reach h.low in
    let e : s.place + (s.count - s.place) ≡ s.count = omega arith in
    rw e at (all_held s.window (s.count - s.place) s.place s.place s.value (omega arith) (omega arith) r)

-- every accepted scanner is what feeding some part to a fresh one leaves, with no cut
pub reached : (s : Scanner) → s.value < 256 → scanner_ground s ≡ None
    → (part : List ℕ) × Bytes part × (fed (opened s.window).scanner part ≡ uncut s (length part))
unfolding scan
reached s k e =
    let h = ground_sound s k e in
    let r = by_count s _ refl h in
    let w = s.window in
    let g = sound_ground (fresh w) (fresh_sound w h.low h.high) in (
      r.part,
      r.bytes,
      rw (opened_fresh w (window_allowed_lem w h.low h.high), fed_accepted (fresh w) r.part g)
          (simp (append-nil, zero-add) at (r.leads 0 [])),
    )
