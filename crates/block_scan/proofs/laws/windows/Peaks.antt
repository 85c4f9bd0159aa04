-- A scan comes from one byte that is the largest so far to another.
use Prim.Native.Nat.{ℕ, ◌+◌, ◌-◌, ◌≤◌, ◌<◌}
use native.Mathlib.Omega.{arith}
use native.Mathlib.Nat.{le_refl}
use native.Mathlib.Decide.{dec_lt}
use mathlib.Core.Path.{◌≡◌, refl, sym, ap, subst, ◌∙◌}
use mathlib.Core.List.{List}
use lib.ListN.{length, get_or}
use Rattle.blocks.specs.declared.Peak.{Peak}
use Rattle.blocks.specs.internal.Largest.{Exceeded, AtMost, FirstLargest}
use Rattle.blocks.proofs.laws.Largest.{at_one}
use Rattle.scan.specs.Scan.{cut_after}
use Rattle.scan.specs.declared.run.Run.{Run}
use Rattle.scan.specs.internal.Run.{onward, rest, PastFirst}
use Rattle.scan.specs.internal.Order.{InOrder}
use Rattle.scan.proofs.laws.run.Underway.{Underway, rises_to, cuts_to}
use Rattle.block_scan.specs.internal.Peaks.{Reached, Settled, AtLargest}

-- a scan that stays
pub reached_none : (part : List ℕ) (w i v : ℕ) → i ≤ length part → Reached part w i v i v
reached_none part w i v inside =
    record {
      on = le_refl i;
      inside = inside;
      kept = λ e. refl;
      moved = λ l. absurd (omega arith);
      order = λ base o. o;
      gives = λ base o. refl;
    }

module _ {part : List ℕ} {w i v : ℕ} where
  -- it comes to one, and from there to another
  pub reached_then : {j u k x : ℕ} → Reached part w i v j u → Reached part w j u k x → Reached part w i v k x
  reached_then {j} {u} {k} {x} one two =
      record {
        on = omega (arith, one.on, two.on);
        inside = two.inside;
        kept = λ e. two.kept (omega (arith, one.on, two.on)) ∙ one.kept (omega (arith, one.on, two.on));
        moved = λ l.
            elim (dec_lt j k) [
              | yes c ↦ two.moved c
              | no c ↦
                  let same : j ≡ k = omega (arith, two.on) in
                  two.kept (sym same) ∙ subst (λ y. u ≡ get_or part (y - 1) 0) same (one.moved (omega arith))
            ];
        order = λ base o. two.order base (one.order base o);
        gives = λ base o. two.gives base (one.order base o) ∙ one.gives base o;
      }

  -- it comes to the byte at index j, which is larger than v and all bytes from i on, within a window
  reached_larger : (j : ℕ) → i ≤ j → (1 ≤ w → j < i + w) → j < length part → v < get_or part j 0 → get_or part j 0 < 256
      → ((q : ℕ) → i ≤ q → q < j → get_or part q 0 < get_or part j 0) → Reached part w i v (j + 1) (get_or part j 0)
  reached_larger j after within inside larger byte before =
      let here : j ≡ j + 1 - 1 = omega arith in
      let goes : (base : ℕ) → InOrder part w base (i + w) v i
      → Underway part w base (j + 1 + w) (get_or part j 0) (j + 1) (onward part w base (i + w) v i) =
      λ base o.
      rises_to (record { order = o; gives = refl }) j (j + 1) (j + 1 + w) after (omega arith) (omega arith)
      (omega (arith, within o.low)) larger byte before
      (λ q l r. elim (dec_lt q j) [
        | yes c ↦ omega (arith, before q l c)
        | no c ↦ at_one (λ x. get_or part x 0 ≤ get_or part j 0) j q (le_refl _) (omega arith) r
      ])
      (omega arith) in
      record {
        on = omega arith;
        inside = omega arith;
        kept = λ e. absurd (omega arith);
        moved = λ l. ap (λ x. get_or part x 0) here;
        order = λ base o. (goes base o).order;
        gives = λ base o. (goes base o).gives;
      }

  -- it comes to the first of the largest bytes of the window, where one of them is larger than v; d and e are the window's end,
  -- the one where a larger byte was looked for, and the other where the largest was
  pub reached_peak : (d e : ℕ) (p : Peak) → d ≡ i + w → e ≡ i + w → FirstLargest part i e p → Exceeded part i d v
      → e ≤ length part → p.value < 256 → Reached part w i v p.after p.value
  reached_peak d e p looked end f some inside byte =
      let j = p.after - 1 in
      let after : j + 1 ≡ p.after = omega (arith, f.from) in
      let larger : v < p.value = omega (arith, some.larger, f.most.bound some.index some.from (omega (arith, some.to))) in
      subst (λ x. Reached part w i v x p.value) after
      (subst (λ x. Reached part w i v (j + 1) x) f.is
      (reached_larger j (omega (arith, f.from)) (λ _. omega (arith, f.from, f.to)) (omega (arith, f.from, f.to))
      (omega (arith, f.is)) (omega (arith, f.is))
      (λ q l r. omega (arith, f.is, f.before q l (omega arith)))))

  -- it comes to the next byte, which is larger
  pub reached_next : i < length part → v < get_or part i 0 → get_or part i 0 < 256 → Reached part w i v (i + 1) (get_or part i 0)
  reached_next inside larger byte =
      reached_larger i (le_refl i) (λ some. omega arith) inside larger byte (λ q l r. absurd (omega arith))

  -- no byte of the window after index j, which ends at e, is larger
  pub settles : {j u : ℕ} (e : ℕ) → e ≡ j + w → Reached part w i v j u → AtMost part j e u → Settled part w i v j
  settles {j} {u} e end reached none =
      record { value = u; reached = reached; ends = λ _. subst (λ x. AtMost part j x u) end none }

  -- the part does not hold that window
  pub stops_short : {j u : ℕ} → Reached part w i v j u → length part < j + w → Settled part w i v j
  stops_short {j} {u} reached late = record { value = u; reached = reached; ends = λ inside. absurd (omega arith) }

-- a run past its first byte is past its largest byte so far
pub first_largest : (r : Run) → PastFirst r → AtLargest r
first_largest r first =
    record {
      some = omega (arith, first.at);
      value = first.value ∙ ap (λ x. get_or r.part.now x 0) (omega (arith, first.at));
      whole = first.whole;
    }

-- a run past its largest byte so far comes past its largest byte so far, where it settles at index j
module _ {r : Run} {j : ℕ} (s : Settled r.part.now r.window r.at r.value j) (largest : AtLargest r) where
  settled_byte : s.value ≡ get_or r.part.now (j - 1) 0
  settled_byte =
      elim (dec_lt r.at j) [
        | yes c ↦ s.reached.moved c
        | no c ↦
            let same : j ≡ r.at = omega (arith, s.reached.on) in
            s.reached.kept same ∙ (largest.value ∙ ap (λ x. get_or r.part.now (x - 1) 0) (sym same))
      ]

  -- the scan is under way from there
  pub settled_under : Underway r.part.now r.window r.base (j + r.window) (get_or r.part.now (j - 1) 0) j (rest r)
  settled_under =
      let start : InOrder r.part.now r.window r.base (r.at + r.window) r.value r.at = rw largest.whole at r.order in
      subst (λ x. Underway r.part.now r.window r.base (j + r.window) x j (rest r)) settled_byte
      (rw largest.whole (record { order = s.reached.order r.base start; gives = s.reached.gives r.base start }))

  -- the chunk ends after the window, if the part holds it
  pub settled_cuts : (e : ℕ) → e ≡ j + r.window → e ≤ length r.part.now
      → cut_after r.window e (r.base + e - r.window) (get_or r.part.now (j - 1) 0) ≡ rest r
  settled_cuts e same inside =
      cuts_to settled_under e same inside
      (λ q l h. omega (arith, settled_byte, (s.ends (omega arith)).bound q l (omega arith)))
