-- Stretches of bytes, written one after another.
use Rattle.std.proofs.Common.{◌≡◌, ℕ, ◌+◌, ◌≤◌, List, ◌++◌, length, take, drop, sym, ap, ◌∙◌, arith, length-drop, length-take, take-add, drop-drop}
use Rattle.copying.specs.Written.{written}
use Rattle.copying.proofs.laws.Written.{written_twice}

-- once n bytes from a place on are written, the k bytes after them make n + k
pub stretch_more : (bytes : List ℕ) (from : ℕ) (l : List ℕ) {now now' : List ℕ} (at n k : ℕ) → at + n + k ≤ length l
    → from + n + k ≤ length bytes → now ≡ written l at (take n (drop from bytes))
    → now' ≡ written now (at + n) (take k (drop (from + n) bytes)) → now' ≡ written l at (take (n + k) (drop from bytes))
stretch_more bytes from l {now} {now'} at n k room inside first second =
    let begun = take n (drop from bytes) in
    let next = take k (drop (from + n) bytes) in
    let size : length begun ≡ n = simp (length-take, length-drop) (omega arith) in
    let both : take (n + k) (drop from bytes) ≡ begun ++ next = take-add n k (drop from bytes) ∙ ap (λ x. begun ++ take k x) (drop-drop n from bytes) in
    second ∙ rw first (ap (λ m. written (written l at begun) (at + m) next) (sym size))
    ∙ written_twice l at begun next (omega (arith, size)) ∙ ap (written l at) (sym both)
