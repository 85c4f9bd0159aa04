-- The chunk's bytes at a place: where all agree they are the chunk, and where one does not they are not.
use Prim.Native.Nat.{ℕ, ◌+◌, ◌≤◌, ◌<◌}
use native.Mathlib.Omega.{arith}
use native.Mathlib.Nat.{eq-or-lt_of_le}
use mathlib.Core.Path.{◌≡◌, refl, ap, sym, ◌∙◌, subst}
use mathlib.Core.Logic.{⊎_elim}
use mathlib.Core.Bool.{Bool, true, false}
use mathlib.Core.List.{List}
use lib.ListN.{length, get_or, take, drop, length-take, length-drop}
use lib.Seq.{get_or-take, get_or-drop, ext_get_or}
use Rattle.store.specs.Contents.{same}
use Rattle.store.proofs.laws.contents.Sameness.{equal_same, same_other}
use Rattle.search.specs.internal.Comparing.{Differs, Agree}

module _ (bytes chunk : List ℕ) (from : ℕ) where
  -- a byte at the place
  byte : (k : ℕ) → k < length chunk → get_or (take (length chunk) (drop from bytes)) k 0 ≡ get_or bytes (from + k) 0
  byte k h = get_or-take (length chunk) (drop from bytes) k 0 h ∙ get_or-drop from bytes k 0

  -- all bytes agree
  stands_all : from + length chunk ≤ length bytes → Agree bytes from chunk 0 (length chunk)
      → true ≡ same (take (length chunk) (drop from bytes)) chunk
  stands_all inside a =
      let size : length (take (length chunk) (drop from bytes)) ≡ length chunk =
      simp (length-take, length-drop) (omega arith) in
      sym (equal_same _ _
      (ext_get_or 0 _ _ size (λ k h. byte k (omega arith) ∙ a.each k (omega arith) (omega arith))))

  -- one does not
  pub stands_not : Differs bytes from chunk (length chunk) → false ≡ same (take (length chunk) (drop from bytes)) chunk
  stands_not d =
      sym (same_other _ _ (λ p. d.other (sym (byte d.index d.within) ∙ ap (λ xs. get_or xs d.index 0) p)))

  -- by an answer that tells which it is
  pub stands_by : (r : Bool) → from + length chunk ≤ length bytes
      → (r ≡ true → Agree bytes from chunk 0 (length chunk)) → (r ≡ false → Differs bytes from chunk (length chunk))
      → r ≡ same (take (length chunk) (drop from bytes)) chunk
  stands_by true inside all other = stands_all inside (all refl)
  stands_by false inside all other = stands_not (other refl)

-- one more byte agrees
pub agree_next : {bytes chunk : List ℕ} {from a : ℕ} → (n : ℕ) → Agree bytes from chunk a n
    → get_or bytes (from + n) 0 ≡ get_or chunk n 0 → Agree bytes from chunk a (n + 1)
agree_next {bytes} {chunk} {from} n g e =
    record {
      each = λ k h l.
          let up_to : k ≤ n = omega arith in
          ⊎_elim (λ same. subst (λ q. get_or bytes (from + q) 0 ≡ get_or chunk q 0) (sym same) e) (λ less. g.each k less l)
          (eq-or-lt_of_le up_to);
    }
