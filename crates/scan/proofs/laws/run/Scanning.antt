-- Laws of a scan at an index of a part: what single bytes, and whole stretches up to the deadline, do to it.
use Prim.Native.Nat.{ℕ, zero, suc, ◌+◌, ◌-◌, ◌≤◌, ◌<◌}
use native.Mathlib.Omega.{arith}
use native.Mathlib.Nat.{add-suc, add-zero, suc-add}
use mathlib.Core.Path.{◌≡◌, refl, subst, ◌∙◌}
use mathlib.Core.Bool.{true, false}
use mathlib.Core.List.{List, [], ◌∷◌}
use lib.Dec.{ltb}
use lib.ListN.{length, get_or, drop, drop_of_length-le}
use lib.Seq.{drop-cons}
use borrow.Author.Tests.{ltb-true, ltb-false}
use Rattle.scan.specs.declared.Scanner.{Scanner}
use Rattle.scan.specs.declared.Fed.{Fed}
use Rattle.scan.specs.Move.{Move, Rise, Hold, Cut, move, next}
use Rattle.scan.specs.Scan.{uncut, cut_after, stop_at_cut, scan}
use Rattle.scan.specs.internal.Run.{standing, onward}
use Rattle.scan.proofs.laws.Moves.{move_start, move_rise, move_hold, move_cut, next_by}

scan_by : (s : Scanner) (n b : ℕ) (bs : List ℕ) (m : Move) → move s b ≡ m
    → scan s n (b ∷ bs) ≡ stop_at_cut m (cut_after s.window (suc n) s.place s.value) (scan (next s b) (suc n) bs)
unfolding scan
scan_by s n b bs m e = rw e

-- an empty part leaves the scanner
pub stays : (s : Scanner) (n : ℕ) (part : List ℕ) → length part ≡ 0 → uncut s n ≡ scan s n part
unfolding scan
stays s n [] h = refl
stays s n (b ∷ bs) h = absurd (omega arith)

-- a chunk's first byte is its largest so far
pub starts : (s : Scanner) (part : List ℕ) → s.count ≡ 0 → 0 < length part
    → scan s 0 part
    ≡ scan (record { window = s.window; count = 1; place = 1; value = get_or part 0 0 }) 1 (drop 1 part)
starts s [] h g = absurd (omega arith)
starts s (b ∷ bs) h g =
    let e = move_start s b h in
    rw (scan_by s 0 b bs Rise e, next_by s b Rise e, h)

module _ (part : List ℕ) (w base : ℕ) where
  -- the part is used up
  pub ends : (d v i : ℕ) → length part ≤ i → onward part w base d v i ≡ uncut (standing w base d v i) i
  unfolding onward scan
  ends d v i h = rw (drop_of_length-le part h)

  -- the byte at i is larger than the largest so far
  pub rises : (d v i : ℕ) → 1 ≤ base + i → i < length part → v < get_or part i 0
      → onward part w base d v i ≡ onward part w base (suc i + w) (get_or part i 0) (suc i)
  unfolding onward
  rises d v i begun h larger =
      let s = standing w base d v i in
      let e = move_rise s (get_or part i 0) begun larger in
      let p : suc (base + i) ≡ base + (suc i + w) - w = omega arith in
      rw (drop-cons part i 0, scan_by s i (get_or part i 0) (drop (suc i) part) Rise e, next_by s (get_or part i 0) Rise e, ← p, add-suc)

  -- the byte at i is not larger, and the deadline is still to come
  pub holds : (d v i : ℕ) → 1 ≤ base + i → i < length part → get_or part i 0 ≤ v → w ≤ base + d → suc i < d
      → onward part w base d v i ≡ onward part w base d v (suc i)
  unfolding onward
  holds d v i begun h not_larger fits live =
      let s = standing w base d v i in
      let e = move_hold s (get_or part i 0) begun not_larger (omega arith) in
      rw (drop-cons part i 0, scan_by s i (get_or part i 0) (drop (suc i) part) Hold e, next_by s (get_or part i 0) Hold e, add-suc)

  -- the byte at i is not larger, and the deadline falls after it
  pub cuts : (d v i : ℕ) → 1 ≤ base + i → i < length part → get_or part i 0 ≤ v → w ≤ base + d → suc i ≡ d
      → onward part w base d v i ≡ cut_after w d (base + d - w) v
  unfolding onward
  cuts d v i begun h not_larger fits due =
      let s = standing w base d v i in
      let e = move_cut s (get_or part i 0) begun not_larger (omega arith) in
      rw (drop-cons part i 0, scan_by s i (get_or part i 0) (drop (suc i) part) Cut e, due)

  one_on : (d v i n : ℕ) → onward part w base d v (suc i + n) ≡ onward part w base d v (i + suc n)
  one_on d v i n = rw (suc-add, add-suc)

  -- bytes that are not larger only count, up to the deadline
  holds_by : (n d v i : ℕ) → 1 ≤ base + i → i + n ≤ length part → ((q : ℕ) → i ≤ q → q < i + n → get_or part q 0 ≤ v)
      → w ≤ base + d → i + n < d → onward part w base d v i ≡ onward part w base d v (i + n)
  holds_by zero d v i begun h not_larger fits live = rw add-zero
  holds_by (suc n) d v i begun h not_larger fits live =
      holds d v i begun (omega arith) (not_larger i (omega arith) (omega arith)) fits (omega arith)
      ∙ (holds_by n d v (suc i) (omega arith) (omega arith) (λ q a b. not_larger q (omega arith) (omega arith)) fits (omega arith)
      ∙ one_on d v i n)

  pub holds_to : (d v i e : ℕ) → 1 ≤ base + i → i ≤ e → e ≤ length part
      → ((q : ℕ) → i ≤ q → q < e → get_or part q 0 ≤ v) → w ≤ base + d → e < d
      → onward part w base d v i ≡ onward part w base d v e
  holds_to d v i e begun order h not_larger fits live =
      let whole : i + (e - i) ≡ e = omega arith in
      holds_by (e - i) d v i begun (omega arith) (λ q a b. not_larger q a (omega arith)) fits (omega arith)
      ∙ rw whole

  -- bytes that are not larger up to the deadline end the chunk there
  pub cuts_at : (d v i : ℕ) → 1 ≤ base + i → i < d → d ≤ length part
      → ((q : ℕ) → i ≤ q → q < d → get_or part q 0 ≤ v) → w ≤ base + d
      → onward part w base d v i ≡ cut_after w d (base + d - w) v
  cuts_at d v i begun order h not_larger fits =
      let last : suc (d - 1) ≡ d = omega arith in
      holds_to d v i (d - 1) begun (omega arith) (omega arith) (λ q a b. not_larger q a (omega arith)) fits (omega arith)
      ∙ cuts d v (d - 1) (omega arith) (omega arith) (not_larger (d - 1) (omega arith) (omega arith)) fits last

  -- a scan has come to index i with some deadline and a value below m
  record Below (m i : ℕ) (f : Fed) : Type 0 where
    deadline : ℕ
    value : ℕ
    below : value < m
    reaches : f ≡ onward part w base deadline value i

  -- bytes below m leave the value below m, and cut nothing within a window's length
  climbs : (n d v i m e : ℕ) → 1 ≤ base + i → i + n ≤ length part → ((q : ℕ) → i ≤ q → q < i + n → get_or part q 0 < m)
      → v < m → w ≤ base + d → i + n < e → e ≤ d → e ≤ suc i + w → Below m (i + n) (onward part w base d v i)
  climbs zero d v i m e begun h smaller low fits short due room =
      record { deadline = d; value = v; below = low; reaches = rw add-zero }
  climbs (suc n) d v i m e begun h smaller low fits short due room =
      (elim (ltb v (get_or part i 0))
      as (λ larger. ltb v (get_or part i 0) ≡ larger → Below m (i + suc n) (onward part w base d v i)) [
        | true ↦ λ t.
            let r = climbs n (suc i + w) (get_or part i 0) (suc i) m e (omega arith) (omega arith)
            (λ q a b. smaller q (omega arith) (omega arith)) (smaller i (omega arith) (omega arith)) (omega arith)
            (omega arith) (omega arith) (omega arith) in
            record {
              deadline = r.deadline;
              value = r.value;
              below = r.below;
              reaches = rises d v i begun (omega arith) (ltb-true _ _ t) ∙ (r.reaches ∙ one_on r.deadline r.value i n);
            }
        | false ↦ λ t.
            let r = climbs n d v (suc i) m e (omega arith) (omega arith) (λ q a b. smaller q (omega arith) (omega arith)) low
            fits (omega arith) due (omega arith) in
            record {
              deadline = r.deadline;
              value = r.value;
              below = r.below;
              reaches = holds d v i begun (omega arith) (ltb-false _ _ t) fits (omega arith)
                  ∙ (r.reaches ∙ one_on r.deadline r.value i n);
            }
      ]) refl

  -- within a stretch that ends by the deadline, and is no longer than a window, only its first maximum, at j, matters
  pub peaks : (d v i j e : ℕ) → 1 ≤ base + i → i ≤ j → j < e → e ≤ length part → w ≤ base + d → e ≤ d → d ≤ i + w
      → v < get_or part j 0 → ((q : ℕ) → i ≤ q → q < j → get_or part q 0 < get_or part j 0)
      → ((q : ℕ) → i ≤ q → q < e → get_or part q 0 ≤ get_or part j 0)
      → onward part w base d v i ≡ onward part w base (suc j + w) (get_or part j 0) e
  peaks d v i j e begun order within h fits due near larger before rest =
      let whole : i + (j - i) ≡ j = omega arith in
      let r : Below (get_or part j 0) j (onward part w base d v i) =
      subst (λ x. Below (get_or part j 0) x (onward part w base d v i)) whole
      (climbs (j - i) d v i (get_or part j 0) e begun (omega arith) (λ q a b. before q a (omega arith)) larger fits
      (omega arith) due (omega arith)) in
      r.reaches
      ∙ (rises r.deadline r.value j (omega arith) (omega arith) r.below
      ∙ holds_to (suc j + w) (get_or part j 0) (suc j) e (omega arith) (omega arith) h
      (λ q a b. rest q (omega arith) b) (omega arith) (omega arith))
