-- What writing past the end of what a store holds leaves, and what writing a chunk at its end adds.
use Prim.Native.Nat.{ℕ, zero, suc, ◌+◌, ◌*◌, ◌≤◌, ◌<◌}
use native.Mathlib.Omega.{arith}
use native.Mathlib.Numerals.{add-one}
use mathlib.Core.Path.{◌≡◌, refl, sym, ap, ap₂, ◌∙◌}
use mathlib.Core.Bool.{true}
use mathlib.Core.List.{List, [], ◌∷◌, ◌++◌}
use lib.ListN.{length, take, drop, get_or, set, length-append, length-take, length-drop, length-set}
use lib.Seq.{take-take, take-append-le, take-append_seam, drop_at, get_or-take, take-set-le, length-take-le}
use lib.Seq.{get_or-set_same, get_or-set_other}
use Rattle.store.specs.declared.Head.{Head}
use Rattle.directory.specs.Entry.{offset_at, length_at, entries, entered, stride}
use Rattle.store.specs.Grounds.{fits}
use Rattle.store.specs.Memory.{chunk_at, contents}
use Rattle.copying.specs.Written.{written}
use Rattle.index.specs.Index.{enter}
use Rattle.directory.proofs.laws.layout.Entries.{laid_added, laid_same}
use Rattle.store.proofs.laws.grounds.Fitting.{fits_facts, fits_back, fits_entry}
use Rattle.store.proofs.laws.Memory.{chunks_same, chunks_last}

-- memory with the same n first entries and the same bytes below `top`
pub record SameBelow (n top : ℕ) (pool directory pool' directory' : List ℕ) : Type 0 where
  pub pool_length : length pool' ≡ length pool
  pub directory_length : length directory' ≡ length directory
  pub bytes : take top pool' ≡ take top pool
  pub numbers : take (n * stride) directory' ≡ take (n * stride) directory

-- a stretch that ends at place f or before is one of the first f numbers
stretch : (o l f : ℕ) (xs : List ℕ) → o + l ≤ f → take l (drop o xs) ≡ take l (drop o (take f xs))
stretch zero l f xs h = sym (take-take l f xs (omega arith))
stretch (suc o) l zero xs h = absurd (omega arith)
stretch (suc o) l (suc f) [] h = refl
stretch (suc o) l (suc f) (x ∷ xs) h = stretch o l f xs (omega arith)

module _ (head : Head) (pool directory : List ℕ) (fitting : fits head pool directory ≡ true) where
  module _ (pool' directory' : List ℕ)
      (k : SameBelow head.chunks.0 head.filled.0 pool directory pool' directory') where
    -- the numbers of the first entries
    number_same : (i : ℕ) → i < head.chunks.0 * stride → get_or directory' i 0 ≡ get_or directory i 0
    number_same i l =
        sym (get_or-take (head.chunks.0 * stride) directory' i 0 l) ∙ ap (λ ns. get_or ns i 0) k.numbers
        ∙ get_or-take (head.chunks.0 * stride) directory i 0 l

    -- the head fits memory that is alike
    same_fits : fits head pool' directory' ≡ true
    same_fits =
        let f = fits_facts head pool directory fitting in
        fits_back head pool' directory'
        (record {
          counted = rw k.directory_length f.counted;
          in_pool = rw k.pool_length f.in_pool;
          laid = laid_same head.window directory directory' 0 0 head.filled.0 head.chunks.0
              (λ q a b. (number_same (q * stride) (omega arith), number_same (q * stride + 1) (omega arith)))
              ∙ f.laid;
        })

    -- each chunk
    chunk_same : (q : ℕ) → q < head.chunks.0 → chunk_at pool' directory' q ≡ chunk_at pool directory q
    chunk_same q l =
        let p = fits_entry head pool directory fitting q l in
        let o = offset_at directory q in
        let n = length_at directory q in
        rw (number_same (q * stride) (omega arith), number_same (q * stride + 1) (omega arith))
        (stretch o n head.filled.0 pool' p.within ∙ ap (λ bs. take n (drop o bs)) k.bytes
        ∙ sym (stretch o n head.filled.0 pool p.within))

    -- and holds the same chunks
    same_contents : contents pool' directory' head.chunks.0 ≡ contents pool directory head.chunks.0
    same_contents =
        chunks_same pool directory pool' directory' 0 head.chunks.0 (λ q a b. chunk_same q (omega arith))

-- the head of a store with one chunk more
abbrev pub head_after : Head → ℕ → Head
head_after head size =
    record {
      window = head.window;
      chunks = record { 0 = head.chunks.0 + 1 };
      filled = record { 0 = head.filled.0 + size };
    }

-- pool, directory and index with a chunk written at the end of what the store holds
abbrev pub pool_after : Head → List ℕ → List ℕ → List ℕ
pool_after head pool c = written pool head.filled.0 c

abbrev pub directory_after : Head → List ℕ → List ℕ → List ℕ
directory_after head directory c = entered directory head.chunks.0 head.filled.0 (length c)

abbrev pub index_after : Head → List ℕ → List ℕ → List ℕ
index_after head index c = enter index head.chunks.0 c

-- writing at or past the end of what a store holds
writing_past : (n top : ℕ) (pool directory : List ℕ) (m end : ℕ) (c : List ℕ) → n ≤ m → top ≤ end
    → end + length c ≤ length pool
    → SameBelow n top pool directory (written pool end c) (entered directory m end (length c))
writing_past n top pool directory m end c a b l =
    record {
      pool_length = simp (length-append, length-take, length-drop) (omega arith);
      directory_length = simp length-set;
      bytes = take-append-le top (take end pool) (c ++ drop (end + length c) pool)
          (omega (arith, length-take end pool)) ∙ take-take top end pool b;
      numbers = take-set-le (n * stride) (set directory (m * stride) end) (m * stride + 1) (length c) (omega arith)
          ∙ take-set-le (n * stride) directory (m * stride) end (omega arith);
    }

module _ (head : Head) (pool directory : List ℕ) (fitting : fits head pool directory ≡ true) (c : List ℕ)
    (room : head.chunks.0 < entries directory) (space : head.filled.0 + length c ≤ length pool) where
  -- the entries and bytes before the chunk
  pub same_after : SameBelow head.chunks.0 head.filled.0 pool directory
      (pool_after head pool c) (directory_after head directory c)
  same_after =
      writing_past head.chunks.0 head.filled.0 pool directory head.chunks.0 head.filled.0 c
      (omega arith) (omega arith) space

  -- where the chunk's own entry says that it starts
  offset_after : offset_at (directory_after head directory c) head.chunks.0 ≡ head.filled.0
  offset_after =
      let at = head.chunks.0 * stride in
      get_or-set_other (set directory at head.filled.0) (at + 1) at (length c) 0 (omega arith)
      ∙ get_or-set_same directory at head.filled.0 0 (omega arith)

  -- and its length there
  length_after : length_at (directory_after head directory c) head.chunks.0 ≡ length c
  length_after =
      let at = head.chunks.0 * stride in
      get_or-set_same (set directory at head.filled.0) (at + 1) (length c) 0
      (rw length-set (omega arith))

  -- the chunk's own stretch
  chunk_after : chunk_at (pool_after head pool c) (directory_after head directory c) head.chunks.0 ≡ c
  chunk_after =
      let rest = drop (head.filled.0 + length c) pool in
      let before = length-take-le head.filled.0 pool (omega arith) in
      rw (offset_after, length_after, drop_at (take head.filled.0 pool) (c ++ rest) head.filled.0 before)
      (take-append_seam c rest)

  -- the store holds the chunk after those that it held
  pub contents_stored : contents (pool_after head pool c) (directory_after head directory c) (head.chunks.0 + 1)
      ≡ contents pool directory head.chunks.0 ++ (c ∷ [])
  contents_stored =
      let pool' = pool_after head pool c in
      let directory' = directory_after head directory c in
      rw (add-one head.chunks.0)
      (chunks_last pool' directory' 0 head.chunks.0 head.chunks.0 (omega arith)
      ∙ ap₂ (λ (l : List (List ℕ)) (d : List ℕ). l ++ (d ∷ []))
      (same_contents head pool directory fitting pool' directory' same_after) chunk_after)

  -- the head fits what is written
  pub fits_stored : 1 ≤ length c → length c ≤ 256 * head.window + 1
      → fits (head_after head (length c)) (pool_after head pool c) (directory_after head directory c) ≡ true
  fits_stored some bounded =
      let n = head.chunks.0 in
      let pool' = pool_after head pool c in
      let directory' = directory_after head directory c in
      let k = same_after in
      let f = fits_facts head pool' directory' (same_fits head pool directory fitting pool' directory' k) in
      let l = laid_added head.window directory' 0 0 head.filled.0 n n (omega arith) f.laid offset_after
      (rw length_after some) (rw length_after bounded) in
      fits_back (head_after head (length c)) pool' directory'
      (record {
        counted = rw k.directory_length (omega arith);
        in_pool = rw k.pool_length space;
        laid = rw (add-one n) (rw length_after at l);
      })
