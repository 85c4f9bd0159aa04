-- A search under way: what the rest of the chain gives is what was asked, and the entry at hand agrees with the chunk so far.
use Prim.Native.Nat.{ℕ, zero, suc, ◌+◌, ◌-◌, ◌≤◌, ◌<◌, min}
use native.Mathlib.Omega.{arith}
use native.Mathlib.Nat.{zero-add}
use mathlib.Core.Path.{◌≡◌, refl, ap, sym, ◌∙◌}
use mathlib.Core.Bool.{true, cond}
use mathlib.Core.List.{List, []}
use lib.ListN.{length, get_or, take, drop}
use lib.Seq.{ext_get_or}
use borrow.Author.Tests.{lt-ltb, le-ltb}
use Rattle.gear.specs.Gear.{chain}
use Rattle.directory.specs.Entry.{offset_at, length_at}
use Rattle.store.specs.Memory.{chunk_at, chunks_from, contents}
use Rattle.store.specs.Contents.{same, number}
use Rattle.store.specs.internal.EntriesIn.{EntriesIn}
use Rattle.store.proofs.laws.contents.Sameness.{equal_same, same_other}
use Rattle.store.proofs.laws.Memory.{contents_length, entry_length}
use Rattle.index.specs.Index.{none, head_at, link_at}
use Rattle.index.specs.Grounds.{meets}
use Rattle.index.specs.Along.{seek, number_found}
use Rattle.index.proofs.theorems.PlainSearch.{searched}

-- the chunk of entry q
chunk_of_entry : (pool directory : List ℕ) (i n q : ℕ) → q < n
    → get_or (chunks_from pool directory i n) q [] ≡ chunk_at pool directory (i + q)
unfolding chunks_from
chunk_of_entry pool directory i zero q l = absurd (omega arith)
chunk_of_entry pool directory i (suc n) zero l = ap (chunk_at pool directory) (omega arith)
chunk_of_entry pool directory i (suc n) (suc q) l =
    chunk_of_entry pool directory (suc i) n q (omega arith) ∙ ap (chunk_at pool directory) (omega arith)

-- an entry that holds the chunk has its length
holds_length : {pool directory chunk : List ℕ} {n : ℕ} → EntriesIn pool directory n → (q : ℕ) → q < n
    → chunk_at pool directory q ≡ chunk → length_at directory q ≡ length chunk
holds_length {pool} {directory} e q h p = sym (entry_length pool directory q (e.inside q h)) ∙ ap length p

-- the stretch of the pool that is compared is the entry's chunk
stretch : (pool directory chunk : List ℕ) (i from size : ℕ) → size ≡ length_at directory i → size ≡ length chunk
    → from ≡ offset_at directory i → take (from + length chunk - from) (drop from pool) ≡ chunk_at pool directory i
stretch pool directory chunk i from size long same start =
    let left : from + length chunk - from ≡ length chunk = omega arith in
    rw (left, start, ← same, long)

-- from the number `next` on the chain gives what was asked
pub record Sought (pool directory index chunk : List ℕ) (count left next best : ℕ) : Type 0 where
  pub small : next ≤ none
  pub bounded : best ≤ count
  pub gives : seek index (contents pool directory count) chunk left next best ≡ number (contents pool directory count) chunk

-- no number is passed yet
pub sought_begun : (pool directory index chunk : List ℕ) (count own : ℕ) → own ≡ chain chunk
    → meets index (contents pool directory count) ≡ true → head_at index own ≤ none
    → Sought pool directory index chunk count count (head_at index own) count
unfolding number_found
sought_begun pool directory index chunk count own e m s =
    record {
      small = s;
      bounded = omega arith;
      gives = rw (contents_length pool directory 0 count, ← e) at (searched index (contents pool directory count) chunk m);
    }

module _ {pool directory index chunk : List ℕ} {count left next best : ℕ}
    (s : Sought pool directory index chunk count left next best) where
  -- no step is left
  pub sought_none_left : left ≡ 0 → best ≡ number (contents pool directory count) chunk
  unfolding seek
  sought_none_left e = rw e at s.gives

  -- the chain has ended
  pub sought_out : count ≤ next → best ≡ number (contents pool directory count) chunk
  unfolding seek
  sought_out l = step left ∙ s.gives
    where
      past : length (contents pool directory count) ≤ next
      past = omega (arith, contents_length pool directory 0 count)

      step : (k : ℕ) → best ≡ seek index (contents pool directory count) chunk k next best
      step zero = refl
      step (suc k) = rw (le-ltb next (length (contents pool directory count)) past)

  module _ {rest : ℕ} (some : rest + 1 ≡ left) (more : next < count) (link : link_at index next ≤ none) where
    -- the search goes on at the link of the number
    sought_on : (new : ℕ) → new ≤ count → new ≡ cond (same (chunk_at pool directory next) chunk) (min best next) best
        → Sought pool directory index chunk count rest (link_at index next) new
    unfolding seek
    sought_on new b e = record { small = link; bounded = b; gives = step left refl ∙ s.gives }
      where
        here : get_or (contents pool directory count) next [] ≡ chunk_at pool directory next
        here = chunk_of_entry pool directory 0 count next more ∙ ap (chunk_at pool directory) (zero-add next)

        below : next < length (contents pool directory count)
        below = omega (arith, contents_length pool directory 0 count)

        step : (k : ℕ) → left ≡ k
            → seek index (contents pool directory count) chunk rest (link_at index next) new
            ≡ seek index (contents pool directory count) chunk k next best
        step zero q = absurd (omega arith)
        step (suc k) q =
            let p : rest ≡ k = omega arith in
            rw (lt-ltb next (length (contents pool directory count)) below, p, e, here)

    -- the entry holds another chunk
    sought_other : (chunk_at pool directory next ≡ chunk → ⊥)
        → Sought pool directory index chunk count rest (link_at index next) best
    sought_other other =
        sought_on best s.bounded (rw (same_other (chunk_at pool directory next) chunk other))

    -- the entry holds the chunk
    sought_here : (new : ℕ) → new ≡ min best next → chunk_at pool directory next ≡ chunk
        → Sought pool directory index chunk count rest (link_at index next) new
    sought_here new e h =
        sought_on new (omega (arith, s.bounded)) (rw (equal_same (chunk_at pool directory next) chunk h) e)

    -- its length is another
    pub sought_longer : EntriesIn pool directory count → {size : ℕ} → size ≡ length_at directory next → (size ≡ length chunk → ⊥)
        → Sought pool directory index chunk count rest (link_at index next) best
    sought_longer entries long other = sought_other (λ p. other (long ∙ holds_length entries next more p))

    module _ {size from : ℕ} (long : size ≡ length_at directory next) (same_size : size ≡ length chunk)
        (start : from ≡ offset_at directory next) where
      -- a byte of its stretch differs
      pub sought_unlike : (k : ℕ) → (get_or (take (from + length chunk - from) (drop from pool)) k 0 ≡ get_or chunk k 0 → ⊥)
          → Sought pool directory index chunk count rest (link_at index next) best
      sought_unlike k other =
          sought_other (λ p. other (ap (λ xs. get_or xs k 0) (stretch pool directory chunk next from size long same_size start ∙ p)))

      -- all bytes agree
      pub sought_alike : {n : ℕ} → length (take (from + length chunk - from) (drop from pool)) ≡ length chunk → length chunk ≤ n
          → ((k : ℕ) → k < n → get_or (take (from + length chunk - from) (drop from pool)) k 0 ≡ get_or chunk k 0)
          → (new : ℕ) → new ≡ min best next
          → Sought pool directory index chunk count rest (link_at index next) new
      sought_alike whole h each new e =
          sought_here new e
          (sym (stretch pool directory chunk next from size long same_size start)
          ∙ ext_get_or 0 _ _ whole (λ k l. each k (omega arith)))
