-- A part that ends before the deadline.
use Prim.Native.Nat.{ℕ, zero, suc, ◌+◌, ◌-◌, ◌≤◌, ◌<◌}
use native.Mathlib.Omega.{arith}
use native.Mathlib.Decide.{dec_lt}
use mathlib.Core.Path.{◌≡◌, sym, ap, subst, ◌∙◌}
use mathlib.Core.Bool.{false}
use mathlib.Core.List.{List}
use lib.ListN.{length, get_or}
use Rattle.blocks.specs.internal.Largest.{FirstAt}
use Rattle.blocks.proofs.laws.Largest.{LargestFrom, first_within}
use Rattle.scan.specs.declared.Fed.{Fed}
use Rattle.scan.specs.declared.FirstChunk.{FirstChunk}
use Rattle.scan.specs.Scan.{first_chunk}
use Rattle.scan.proofs.laws.run.Underway.{Underway, rises_to, passes_to, byte_rises, byte_passes, stops}

module _ (part : List ℕ) (w base : ℕ) (asked : Fed) (byte : (q : ℕ) → get_or part q 0 < 256) where
  -- the whole part is a chunk that no cut ends
  abbrev uncut_whole : ℕ → FirstChunk
  uncut_whole n = record { length = n; cut = false; place = 0; value = 0 }

  uncut_by : (n d v i : ℕ) → Underway part w base d v i asked → i + n ≡ length part → length part < d
      → first_chunk asked ≡ uncut_whole (length part)
  uncut_by zero d v i u same late = sym (ap first_chunk (stops u (omega arith))) ∙ ap uncut_whole (omega arith)
  uncut_by (suc n) d v i u same late =
      elim (dec_lt v (get_or part i 0)) [
        | yes larger ↦
            uncut_by n (i + 1 + w) (get_or part i 0) (i + 1) (byte_rises u (omega arith) larger (byte i)) (omega arith)
            (omega (arith, u.order.near))
        | no not_larger ↦
            uncut_by n d v (i + 1) (byte_passes u (omega arith) (omega arith) (omega arith)) (omega arith) late
      ]

  -- it is consumed whole, with no cut
  pub uncut_whole_lem : (d v i : ℕ) → Underway part w base d v i asked → length part < d
      → first_chunk asked ≡ uncut_whole (length part)
  uncut_whole_lem d v i u late = uncut_by (length part - i) d v i u (omega (arith, u.order.index)) late

-- of its rest only the first of the largest bytes, at j, matters
module _ {part : List ℕ} {w base d v i : ℕ} {asked : Fed} (u : Underway part w base d v i asked) (late : length part < d) where
  pub ends_larger : (j m : ℕ) → LargestFrom part i m → FirstAt part i m j → v < m → m < 256
      → Underway part w base (j + 1 + w) m (length part) asked
  ends_larger j m largest first larger byte =
      let within = first_within part i (length part) m j first (largest.stands (omega arith)) in
      subst (λ x. Underway part w base (j + 1 + w) x (length part) asked) first.is
      (rises_to u j (length part) (j + 1 + w) first.from within (omega arith) (omega arith) (omega (arith, first.is))
      (omega (arith, first.is))
      (λ q l r. omega (arith, largest.most.bound q l (omega arith), first.before q l r, first.is))
      (λ q l r. omega (arith, largest.most.bound q l r, first.is)) (omega arith))

  pub ends_passed : (m : ℕ) → LargestFrom part i m → m ≤ v → Underway part w base d v (length part) asked
  ends_passed m largest not_larger =
      passes_to u (length part) u.order.index (omega arith) late
      (λ q l r. omega (arith, largest.most.bound q l r))
