-- A scan under way, as the loops keep it: its numbers are in order, and what is still to do gives what was asked.
use Prim.Native.Nat.{ℕ, suc, ◌+◌, ◌-◌, ◌*◌, ◌≤◌, ◌<◌}
use native.Mathlib.Omega.{arith}
use native.Mathlib.Nat.{le_refl, add-zero, mul-le-mul, mul-le-mul_right, suc-mul}
use native.Mathlib.Decide.{dec_lt}
use mathlib.Core.Path.{◌≡◌, sym, ◌∙◌}
use mathlib.Core.List.{List}
use lib.ListN.{length, get_or}
use Rattle.scan.specs.declared.Scanner.{Scanner}
use Rattle.scan.specs.declared.Fed.{Fed}
use Rattle.scan.specs.Scan.{uncut, cut_after, scan}
use Rattle.scan.specs.internal.Run.{standing, onward}
use Rattle.scan.specs.internal.Order.{InOrder}
use Rattle.scan.specs.internal.Sound.{Sound}
use Rattle.scan.proofs.laws.run.Scanning.{starts, ends, holds_to, cuts_at, peaks}
use Rattle.scan.specs.Limits.{window_limit, chunk_limit}
use Rattle.blocks.proofs.laws.Largest.{at_one}

-- `asked` is the answer to the whole part
pub record Underway (part : List ℕ) (w base d v i : ℕ) (asked : Fed) : Type 0 where
  pub order : InOrder part w base d v i
  pub gives : onward part w base d v i ≡ asked

-- a sound scanner with an open chunk sets out on a part
module _ (s : Scanner) (part : List ℕ) (sound : Sound s) where
  pub sets_out : 1 ≤ s.count
      → InOrder part s.window s.count (s.place + s.window - s.count) s.value 0
  sets_out begun =
      record {
        low = sound.low;
        high = sound.high;
        index = omega arith;
        begun = omega arith;
        live = omega arith;
        near = omega arith;
        fits = omega arith;
        reach = omega arith;
        byte = sound.byte;
        seen = λ q a b. absurd (omega arith);
      }

  pub sets_out_gives : onward part s.window s.count (s.place + s.window - s.count) s.value 0 ≡ scan s 0 part
  unfolding onward
  sets_out_gives =
      let place : s.count + (s.place + s.window - s.count) - s.window ≡ s.place = omega arith in
      rw (add-zero, place)

  -- a fresh one sets out with the part's first byte
  pub begins : 0 < length part → get_or part 0 0 < 256 → InOrder part s.window 0 (1 + s.window) (get_or part 0 0) 1
  begins some byte =
      record {
        low = sound.low;
        high = sound.high;
        index = omega arith;
        begun = omega arith;
        live = omega arith;
        near = omega arith;
        fits = omega arith;
        reach = omega arith;
        byte = byte;
        seen = λ q a b. absurd (omega arith);
      }

  pub begins_gives : s.count ≡ 0 → 0 < length part
      → onward part s.window 0 (1 + s.window) (get_or part 0 0) 1 ≡ scan s 0 part
  unfolding onward
  begins_gives fresh some =
      let place : 0 + (1 + s.window) - s.window ≡ 1 = omega arith in
      rw place (sym (starts s part fresh some))

module _ {part : List ℕ} {w base d v i : ℕ} {asked : Fed} (u : Underway part w base d v i asked) where
  -- a byte larger than v at j, the first maximum of the stretch up to e, is the largest from now on
  pub rises_to : (j e d' : ℕ) → i ≤ j → j < e → e ≤ length part → e ≤ d → v < get_or part j 0 → get_or part j 0 < 256
      → ((q : ℕ) → i ≤ q → q < j → get_or part q 0 < get_or part j 0)
      → ((q : ℕ) → i ≤ q → q < e → get_or part q 0 ≤ get_or part j 0) → d' ≡ suc j + w
      → Underway part w base d' (get_or part j 0) e asked
  rises_to j e d' after within h due larger byte before most same =
      let o = u.order in
      let more : suc v * w ≤ get_or part j 0 * w = mul-le-mul_right w larger in
      let one : suc v * w ≡ v * w + w = suc-mul v w in
      record {
        order = record {
          low = o.low;
          high = o.high;
          index = h;
          begun = omega arith;
          live = omega arith;
          near = omega arith;
          fits = omega arith;
          reach = omega arith;
          byte = byte;
          seen = λ q a b. most q (omega arith) b;
        };
        gives = rw same
            (sym (peaks part w base d v i j e o.begun after within h (omega arith) due o.near larger before most)
            ∙ u.gives);
      }

  -- bytes not larger than v up to e, before the deadline, only count
  pub passes_to : (e : ℕ) → i ≤ e → e ≤ length part → e < d → ((q : ℕ) → i ≤ q → q < e → get_or part q 0 ≤ v)
      → Underway part w base d v e asked
  passes_to e after h due not_larger =
      let o = u.order in
      record {
        order = record {
          low = o.low;
          high = o.high;
          index = h;
          begun = omega arith;
          live = due;
          near = omega arith;
          fits = o.fits;
          reach = o.reach;
          byte = o.byte;
          seen = λ q a b. elim (dec_lt q i) [ yes c ↦ o.seen q a c | no c ↦ not_larger q (omega arith) b ];
        };
        gives = sym (holds_to part w base d v i e o.begun after h not_larger (omega arith) due) ∙ u.gives;
      }

  -- bytes not larger than v up to the deadline: the chunk ends there
  pub cuts_to : (e : ℕ) → e ≡ d → e ≤ length part → ((q : ℕ) → i ≤ q → q < e → get_or part q 0 ≤ v)
      → cut_after w e (base + e - w) v ≡ asked
  cuts_to e same h not_larger =
      let o = u.order in
      let due : i < d = o.live in
      rw same
      (sym (cuts_at part w base d v i o.begun due (omega arith) (λ q a b. not_larger q a (omega arith)) (omega arith))
      ∙ u.gives)

  -- the part is used up
  pub stops : length part ≤ i → uncut (standing w base d v i) i ≡ asked
  stops h = sym (ends part w base d v i h) ∙ u.gives

  -- one byte: larger, not larger, and not larger at the deadline
  pub byte_rises : i < length part → v < get_or part i 0 → get_or part i 0 < 256
      → Underway part w base (i + 1 + w) (get_or part i 0) (i + 1) asked
  byte_rises inside larger byte =
      rises_to i (i + 1) (i + 1 + w) (omega arith) (omega arith) (omega arith) (omega (arith, u.order.live)) larger byte
      (λ q a b. absurd (omega arith)) (λ q. at_one (λ x. get_or part x 0 ≤ get_or part i 0) i q (le_refl _)) (omega arith)

  pub byte_passes : i < length part → get_or part i 0 ≤ v → i + 1 < d → Underway part w base d v (i + 1) asked
  byte_passes inside not_larger early =
      passes_to (i + 1) (omega arith) (omega arith) early (λ q. at_one (λ x. get_or part x 0 ≤ v) i q not_larger)

  pub byte_cuts : i < length part → get_or part i 0 ≤ v → i + 1 ≡ d → cut_after w (i + 1) (base + (i + 1) - w) v ≡ asked
  byte_cuts inside not_larger due =
      cuts_to (i + 1) due (omega arith) (λ q. at_one (λ x. get_or part x 0 ≤ v) i q not_larger)

module _ {part : List ℕ} {w base d v i : ℕ} (o : InOrder part w base d v i) where
  most : v * w ≤ 255 * window_limit
  most = let byte : v ≤ 255 = omega arith in mul-le-mul byte o.high

  -- no chunk is longer than the longest
  pub count_small : base + i < chunk_limit
  count_small = omega (arith, most)

  pub deadline_small : base + d ≤ chunk_limit
  deadline_small = omega (arith, most)
