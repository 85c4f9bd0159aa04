-- What storing new chunks does to the store as a list of chunks.
use Prim.Native.Nat.{ℕ, ◌+◌, ◌*◌, ◌≤◌}
use native.Mathlib.Omega.{arith}
use native.Mathlib.Nat.{add-zero}
use mathlib.Core.Path.{◌≡◌, refl, sym, ap, ◌∙◌}
use mathlib.Core.Bool.{true}
use mathlib.Core.List.{List, [], ◌∷◌, ◌++◌, append_assoc, append-nil, Memᴰ}
use lib.ListN.{length}
use Rattle.chunker.specs.Chunks.{total}
use Rattle.chunker.specs.Splitting.{joined}
use Rattle.directory.specs.Entry.{stride, entries}
use Rattle.copying.proofs.laws.Written.{written_length}
use Rattle.store.specs.declared.Head.{Head}
use Rattle.store.specs.Grounds.{fits}
use Rattle.store.specs.Memory.{contents}
use Rattle.storing.specs.Storing.{pool_with, entries_of, directory_with, head_with}
use Rattle.storing.proofs.laws.Writing.{head_after, pool_after, directory_after}
use Rattle.storing.proofs.laws.Writing.{same_after, contents_stored, fits_stored}
use Rattle.storing.proofs.laws.Steps.{total_joined, entries_length}
use Rattle.storing.proofs.laws.Steps.{pool_none, directory_none, pool_step, directory_step}

-- the lengths that the layout allows
abbrev pub Allowed : ℕ → List (List ℕ) → Type 0
Allowed w cs = (c : List ℕ) → Memᴰ c cs → (1 ≤ length c) × (length c ≤ 256 * w + 1)

-- both lists keep their lengths
pub adding_lengths : (head : Head) (pool directory : List ℕ) (new : List (List ℕ))
    → head.filled.0 + total new ≤ length pool → head.chunks.0 + length new ≤ entries directory
    → (length (pool_with head pool new) ≡ length pool) × (length (directory_with head directory new) ≡ length directory)
adding_lengths head pool directory new bytes numbers = (
  written_length pool head.filled.0 (joined new) (omega (arith, total_joined new)),
  written_length directory (head.chunks.0 * stride) (entries_of head.filled.0 new)
      (omega (arith, entries_length head.filled.0 new)),
)

-- the head fits what is stored
pub adding_fits : (head : Head) (pool directory : List ℕ) (new : List (List ℕ)) → fits head pool directory ≡ true
    → head.filled.0 + total new ≤ length pool → head.chunks.0 + length new ≤ entries directory
    → Allowed head.window new
    → fits (head_with head new) (pool_with head pool new) (directory_with head directory new) ≡ true
adding_fits head pool directory [] fitting bytes numbers allowed =
    rw (pool_none head pool, directory_none head directory, add-zero head.chunks.0, add-zero head.filled.0) fitting
adding_fits head pool directory (c ∷ cs) fitting bytes numbers allowed =
    let n = head.chunks.0 in
    let o = head.filled.0 in
    let one = allowed c (Memᴰ.head refl) in
    let same = same_after head pool directory fitting c (omega arith) (omega arith) in
    let stored = fits_stored head pool directory fitting c (omega arith) (omega arith) one.0 one.1 in
    let counted : n + 1 + length cs ≡ n + length (c ∷ cs) = omega arith in
    let filled : o + length c + total cs ≡ o + total (c ∷ cs) = omega arith in
    rw (counted, filled, pool_step head pool c cs (omega arith), directory_step head directory c cs (omega arith)) at
    (adding_fits (head_after head (length c)) (pool_after head pool c) (directory_after head directory c) cs stored
    (rw same.pool_length (omega arith)) (rw same.directory_length (omega arith))
    (λ d m. allowed d (Memᴰ.tail m)))

-- the store holds the new chunks after those that it held
pub adding_holds : (head : Head) (pool directory : List ℕ) (new : List (List ℕ)) → fits head pool directory ≡ true
    → head.filled.0 + total new ≤ length pool → head.chunks.0 + length new ≤ entries directory
    → Allowed head.window new
    → contents (pool_with head pool new) (directory_with head directory new) (head.chunks.0 + length new)
    ≡ contents pool directory head.chunks.0 ++ new
adding_holds head pool directory [] fitting bytes numbers allowed =
    rw (pool_none head pool, directory_none head directory, add-zero head.chunks.0) (sym (append-nil _))
adding_holds head pool directory (c ∷ cs) fitting bytes numbers allowed =
    let n = head.chunks.0 in
    let one = allowed c (Memᴰ.head refl) in
    let same = same_after head pool directory fitting c (omega arith) (omega arith) in
    let stored = fits_stored head pool directory fitting c (omega arith) (omega arith) one.0 one.1 in
    let counted : n + 1 + length cs ≡ n + length (c ∷ cs) = omega arith in
    let others = adding_holds (head_after head (length c)) (pool_after head pool c) (directory_after head directory c) cs
    stored (rw same.pool_length (omega arith)) (rw same.directory_length (omega arith))
    (λ d m. allowed d (Memᴰ.tail m)) in
    rw (counted, pool_step head pool c cs (omega arith), directory_step head directory c cs (omega arith)) at others
    ∙ ap (λ held. held ++ cs) (contents_stored head pool directory fitting c (omega arith) (omega arith))
    ∙ append_assoc (contents pool directory n) (c ∷ []) cs
