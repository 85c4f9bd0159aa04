-- How many chunks a job has at most, by its length and the store's window.
use Prim.Native.Nat.{ℕ, ◌+◌, ◌*◌, ◌/◌, ◌≤◌}
use native.Mathlib.Omega.{arith}
use native.Mathlib.Nat.{zero-mul, suc-mul, le-div_iff_mul-le}
use mathlib.Core.Path.{refl}
use mathlib.Core.List.{List, [], ◌∷◌, Memᴰ}
use lib.ListN.{length, length-append}
use Rattle.scan.specs.Limits.{window_limit}
use Rattle.scan.specs.Scanner.{fresh}
use Rattle.chunker.specs.Bytes.{Bytes}
use Rattle.chunker.specs.Chunks.{cut_chunks, remaining, last_chunk, chunks, total}
use Rattle.chunker.proofs.theorems.ChunkSizes.{cut_size}
use Rattle.store.proofs.laws.contents.Additions.{total_append}
use Rattle.admission.proofs.laws.Chunks.{total_chunks}

-- chunks of at least k bytes have together at least k bytes for each
least_bytes : (k : ℕ) (cs : List (List ℕ)) → ((c : List ℕ) → Memᴰ c cs → k ≤ length c) → length cs * k ≤ total cs
least_bytes k [] h = rw (zero-mul k) (omega arith)
least_bytes k (c ∷ cs) h =
    let later = least_bytes k cs (λ d m. h d (Memᴰ.tail m)) in
    rw (suc-mul (length cs) k) (omega (arith, later, h c (Memᴰ.head refl)))

-- what remains at the end of a job is at most one chunk
last_one : (bytes : List ℕ) → length (last_chunk bytes) ≤ 1
last_one [] = omega arith
last_one (b ∷ bs) = omega arith

-- a job of n bytes has at most n / (w + 1) + 1 chunks: each that a cut ends has at least w + 1 bytes
pub chunk_count : (w : ℕ) → 1 ≤ w → w ≤ window_limit → (job : List ℕ) → Bytes job
    → length (chunks w job) ≤ length job / (w + 1) + 1
unfolding chunks
chunk_count w low high job bytes =
    let cuts = cut_chunks (fresh w) [] job in
    let last = last_chunk (remaining (fresh w) [] job) in
    let least = least_bytes (w + 1) cuts (λ c m. (cut_size w low high job bytes c m).0) in
    let within : length cuts * (w + 1) ≤ length job = omega (arith, least, total_append cuts last, total_chunks w job) in
    let few : length cuts ≤ length job / (w + 1) =
    (le-div_iff_mul-le {k = w + 1} {x = length cuts} {y = length job} (omega arith)).1 within in
    omega (arith, few, length-append cuts last, last_one (remaining (fresh w) [] job))
