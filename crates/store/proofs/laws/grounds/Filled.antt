-- The chunks of a store that fits fill its pool up to `filled`.
use Prim.Native.Nat.{ℕ, zero, suc, ◌+◌, ◌≤◌}
use native.Mathlib.Omega.{arith}
use mathlib.Core.Path.{◌≡◌}
use mathlib.Core.Bool.{true}
use mathlib.Core.List.{List}
use lib.ListN.{length}
use Rattle.chunker.specs.Chunks.{total}
use Rattle.directory.specs.Entry.{length_at}
use Rattle.directory.specs.Layout.{laid_out}
use Rattle.directory.proofs.laws.layout.Entries.{first, none, laid_end}
use Rattle.store.specs.declared.Head.{Head}
use Rattle.store.specs.Memory.{chunks_from, contents}
use Rattle.store.specs.Grounds.{fits}
use Rattle.store.proofs.laws.Memory.{entry_length}
use Rattle.store.proofs.laws.grounds.Fitting.{fits_facts}

-- the n entries from entry i on
total_laid : (w : ℕ) (pool directory : List ℕ) (i from filled n : ℕ) → filled ≤ length pool
    → laid_out w directory i from filled n ≡ true → from + total (chunks_from pool directory i n) ≡ filled
unfolding chunks_from
total_laid w pool directory i from filled zero l h = omega (arith, none w directory i from filled h)
total_laid w pool directory i from filled (suc n) l h =
    let f = first w directory i from filled n h in
    let next = from + length_at directory i in
    let end = laid_end w directory (suc i) next filled n f.rest in
    let size = entry_length pool directory i (omega (arith, f.starts)) in
    omega (arith, size, total_laid w pool directory (suc i) next filled n l f.rest)

-- all of them
pub total_contents : (head : Head) (pool directory : List ℕ) → fits head pool directory ≡ true
    → total (contents pool directory head.chunks.0) ≡ head.filled.0
total_contents head pool directory h =
    let f = fits_facts head pool directory h in
    omega (arith, total_laid head.window pool directory 0 0 head.filled.0 head.chunks.0 f.in_pool f.laid)
