-- Laws of a write.
use Prim.Native.Nat.{ℕ, ◌+◌, ◌-◌, ◌≤◌}
use native.Mathlib.Omega.{arith}
use mathlib.Core.Path.{◌≡◌, sym, ap, ◌∙◌}
use mathlib.Core.List.{List, ◌++◌, append_assoc}
use lib.ListN.{length, take, drop, length-append, length-take, length-drop}
use lib.Seq.{take-length, take-append_seam, take-append-le, take-append-add, drop_at, drop-drop, length-take-le}
use Rattle.copying.specs.Written.{written}

-- what is written stands at its place
pub written_there : (l : List ℕ) (at : ℕ) (bytes : List ℕ) → at + length bytes ≤ length l
    → take (length bytes) (drop at (written l at bytes)) ≡ bytes
written_there l at bytes h =
    let rest = bytes ++ drop (at + length bytes) l in
    ap (take (length bytes)) (drop_at (take at l) rest at (length-take-le at l (omega arith))) ∙ take-append_seam bytes _

-- a write changes no length
pub written_length : (l : List ℕ) (at : ℕ) (bytes : List ℕ) → at + length bytes ≤ length l
    → length (written l at bytes) ≡ length l
written_length l at bytes h = simp (length-append, length-take, length-drop) (omega arith)

-- a write that begins with n wanted bytes and goes on into the stretch of what is written next
pub written_over : (l : List ℕ) (at : ℕ) (a b : List ℕ) (n : ℕ) → at + length a ≤ length l → n ≤ length a
    → length a ≤ n + length b → written (written l at a) (at + n) b ≡ written l at (take n a ++ b)
written_over l at a b n h few covered =
    let back = drop (at + length a) l in
    let start : length (take at l) ≡ at = length-take-le at l (omega arith) in
    let size : length (take at l ++ a) ≡ at + length a = length-append (take at l) a ∙ ap (λ k. k + length a) start in
    let front : take (at + n) (take at l ++ (a ++ back)) ≡ take at l ++ take n a =
    (rw start at (take-append-add (take at l) (a ++ back) n)) ∙ ap (λ r. take at l ++ r) (take-append-le n a back few) in
    let more = n + length b - length a in
    let place : at + n + length b ≡ at + length a + more = omega arith in
    let beyond : at + length a + more ≡ at + (n + length b) = omega arith in
    let later : drop (at + n + length b) (take at l ++ (a ++ back)) ≡ drop (at + (n + length b)) l =
    ap (λ r. drop (at + n + length b) r) (sym (append_assoc (take at l) a back))
    ∙ ap (λ k. drop k ((take at l ++ a) ++ back)) place
    ∙ sym (drop-drop more (at + length a) ((take at l ++ a) ++ back))
    ∙ ap (drop more) (drop_at (take at l ++ a) back _ size)
    ∙ drop-drop more (at + length a) l ∙ ap (λ k. drop k l) beyond in
    let first : length (take n a) ≡ n = length-take-le n a few in
    rw (front, later, length-append (take n a) b, first) (simp append_assoc)

-- two writes, the second where the first ended, are one
pub written_twice : (l : List ℕ) (at : ℕ) (a b : List ℕ) → at + length a ≤ length l
    → written (written l at a) (at + length a) b ≡ written l at (a ++ b)
written_twice l at a b h =
    written_over l at a b (length a) h (omega arith) (omega arith) ∙ ap (λ x. written l at (x ++ b)) (take-length a)
