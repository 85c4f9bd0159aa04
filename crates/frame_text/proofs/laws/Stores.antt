-- Bytes that are stored in a row: digits from the last one back, and a frame part by part.
use Prim.Native.Nat.{ℕ, zero, suc, ◌+◌, ◌-◌, ◌/◌, ◌%◌, ◌≤◌, ◌<◌}
use native.Mathlib.Omega.{arith}
use mathlib.Core.Path.{◌≡◌, refl, ap, sym, ◌∙◌}
use mathlib.Core.List.{List, [], ◌∷◌, ◌++◌}
use lib.ListN.{length, set, length-append, length-set}
use lib.Seq.{sets, set_comm}
use Rattle.frame_text.specs.Frame.{digit, hex, frame_bytes, frame}

-- bytes are stored behind n others
pub sets_then : (xs ys l : List ℕ) (at n next : ℕ) → length xs ≡ n → at + n ≡ next
    → sets l at (xs ++ ys) ≡ sets (sets l at xs) next ys
sets_then [] ys l at n next e f = let same : at ≡ next = omega arith in rw same
sets_then (x ∷ xs) ys l at n next e f =
    let less : length xs ≡ n - 1 = omega arith in
    sets_then xs ys (set l at x) (suc at) (n - 1) next less (omega arith)

-- a byte is stored before n others that stand in front of it
sets_behind : (xs l : List ℕ) (x at n : ℕ) → length xs ≡ n → sets (set l (at + n) x) at xs ≡ sets l at (xs ++ (x ∷ []))
sets_behind [] l x at n e = let same : at + n ≡ at = omega arith in rw same
sets_behind (y ∷ ys) l x at n e =
    let less : length ys ≡ n - 1 = omega arith in
    let place : at + n ≡ suc at + (n - 1) = omega arith in
    rw (set_comm l (at + n) at x y (λ same. absurd (omega arith)), place)
    (sets_behind ys (set l at y) x (suc at) (n - 1) less)

-- as many digits as asked
pub hex_length : (width n : ℕ) → length (hex width n) ≡ width
unfolding hex
hex_length zero n = refl
hex_length (suc width) n =
    omega (arith, length-append (hex width (n / 16)) (digit (n % 16) ∷ []), hex_length width (n / 16))

-- digits under way: those still to write and those that stand give what was asked
pub record Writing (before : List ℕ) (at width value : ℕ) (after : List ℕ) (left rest : ℕ) : Type 0 where
  pub within : left ≤ width
  pub kept : length after ≡ length before
  pub gives : sets after at (hex left rest) ≡ sets before at (hex width value)

module _ {before : List ℕ} {at width value : ℕ} {after : List ℕ} {left rest : ℕ}
    (w : Writing before at width value after left rest) where
  -- one digit more
  pub writes_one : 0 < left
      → Writing before at width value (set after (at + (left - 1)) (digit (rest % 16))) (left - 1) (rest / 16)
  unfolding hex
  writes_one h =
      let one : suc (left - 1) ≡ left = omega arith in
      record {
        within = omega arith;
        kept = length-set after (at + (left - 1)) (digit (rest % 16)) ∙ w.kept;
        gives =
            sets_behind (hex (left - 1) (rest / 16)) after (digit (rest % 16)) at (left - 1) (hex_length (left - 1) (rest / 16))
            ∙ ap (λ n. sets after at (hex n rest)) one ∙ w.gives;
      }

  -- no digit is left
  pub writes_all : left ≤ 0 → after ≡ sets before at (hex width value)
  unfolding hex
  writes_all h =
      let none : left ≡ 0 = omega arith in
      ap (λ n. sets after at (hex n rest)) (sym none) ∙ w.gives

-- the four numbers and the line feed are a frame
pub frame_stores : (l : List ℕ) (at number position size mark : ℕ)
    → set (sets (sets (sets (sets l at (hex 4 number)) (at + 4) (hex 8 position)) (at + 12) (hex 8 size)) (at + 20)
    (hex 2 mark)) (at + 22) 10
    ≡ sets l at (frame number position size mark)
unfolding frame
frame_stores l at number position size mark =
    sym (sets_then (hex 4 number) _ l at 4 (at + 4) (hex_length 4 number) refl
    ∙ sets_then (hex 8 position) _ _ (at + 4) 8 (at + 12) (hex_length 8 position) (omega arith)
    ∙ sets_then (hex 8 size) _ _ (at + 12) 8 (at + 20) (hex_length 8 size) (omega arith)
    ∙ sets_then (hex 2 mark) _ _ (at + 20) 2 (at + 22) (hex_length 2 mark) (omega arith))

-- "22 upper-case hexadecimal digits and a line feed"
pub frame_length : (number position size mark : ℕ) → length (frame number position size mark) ≡ frame_bytes
unfolding frame
frame_length number position size mark = simp (length-append, hex_length)
