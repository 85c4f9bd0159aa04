-- What the marks of a job's chunks are, place by place.
use Prim.Native.Nat.{ℕ, zero, suc, ◌+◌, ◌≤◌, ◌<◌}
use native.Mathlib.Omega.{arith}
use mathlib.Core.Path.{◌≡◌, refl, sym, ap, ◌∙◌}
use mathlib.Core.Bool.{Bool, true, false, cond}
use mathlib.Core.List.{List, [], ◌∷◌, ◌++◌, append_assoc, append-nil}
use lib.ListN.{length, get_or, length-append}
use Rattle.scan.specs.Limits.{chunk_limit}
use Rattle.chunker.specs.Bytes.{Bytes}
use Rattle.chunker.specs.Scanner.{window_allowed}
use Rattle.chunker.specs.Chunks.{chunks, total}
use Rattle.store.specs.Limits.{recipe_limit, job_limit}
use Rattle.store.specs.Contents.{number, has}
use Rattle.store.proofs.laws.contents.Numbering.{number_below}
use Rattle.store.proofs.laws.contents.Additions.{total_append}
use Rattle.marks.specs.Marks.{mark_of, code_of, size_of, repeat_base, repeat_code, first_base, first_code, appearing, last_of, own_chain}
use Rattle.marks.specs.Marks.{code_in, mark, marks}
use Rattle.marks.proofs.laws.Positions.{StartsAt, starts_at}
use Rattle.marks.proofs.laws.Sizes.{code_of_mark, size_of_mark}

-- one mark for each chunk
pub length_marks : (held earlier cs : List (List ℕ)) → length (marks held earlier cs) ≡ length cs
unfolding marks
length_marks held earlier [] = refl
length_marks held earlier (c ∷ cs) = ap suc (length_marks held (earlier ++ (c ∷ [])) cs)

-- the mark of one chunk more
pub marks_last : (held earlier cs : List (List ℕ)) (c : List ℕ)
    → marks held earlier (cs ++ (c ∷ [])) ≡ marks held earlier cs ++ (mark held (earlier ++ cs) c ∷ [])
unfolding marks
marks_last held earlier [] c = rw (append-nil earlier)
marks_last held earlier (d ∷ ds) c =
    ap (λ (ms : List ℕ). mark held earlier d ∷ ms)
    (rw (append_assoc earlier (d ∷ []) ds) at (marks_last held (earlier ++ (d ∷ [])) ds c))

-- the mark m has the chunk's length, and its code is the number of a chunk that the store holds, or names the earlier place
-- that has the chunk, or the last one before it at which a chunk of its chain appears first
pub data Marked (held earlier : List (List ℕ)) (c : List ℕ) (m : ℕ) : Type 0 where
  stored : has held c ≡ true → code_of m ≡ number held c → code_of m < repeat_base → size_of m ≡ length c
      → Marked held earlier c m
  repeats : has held c ≡ false → has earlier c ≡ true → code_of m ≡ repeat_code (number earlier c)
      → number earlier c < length earlier → code_of m < first_base → size_of m ≡ length c → Marked held earlier c m
  appears : has held c ≡ false → has earlier c ≡ false → first_base ≤ code_of m
      → code_of m ≡ first_code (last_of (own_chain c) (appearing held [] earlier)) → size_of m ≡ length c → Marked held earlier c m

-- which of the three it is
module _ (held earlier : List (List ℕ)) (c : List ℕ) (few : length held ≤ recipe_limit)
    (short : length earlier ≤ recipe_limit) (small : length c ≤ chunk_limit) where
  by_code : (code : ℕ) (t u : Bool) → has held c ≡ t → has earlier c ≡ u
      → code ≡ cond t (number held c)
      (cond u (repeat_code (number earlier c)) (first_code (last_of (own_chain c) (appearing held [] earlier))))
      → Marked held earlier c (mark_of code (length c))
  by_code code true u h e k =
      let is = code_of_mark code (length c) (omega arith) in
      stored h (is ∙ k) (omega (arith, number_below held c h)) (size_of_mark code (length c) (omega arith))
  by_code code false true h e k =
      let is = code_of_mark code (length c) (omega arith) in
      let below = number_below earlier c e in
      repeats h e (is ∙ k) below (omega arith) (size_of_mark code (length c) (omega arith))
  by_code code false false h e k =
      let is = code_of_mark code (length c) (omega arith) in
      appears h e (omega arith) (is ∙ k) (size_of_mark code (length c) (omega arith))

  pub marked : Marked held earlier c (mark held earlier c)
  unfolding code_in
  marked = by_code (code_in held earlier c) _ _ refl refl refl

module _ {held earlier : List (List ℕ)} {c : List ℕ} {m : ℕ} where
  -- its length
  pub size_marked : Marked held earlier c m → size_of m ≡ length c
  size_marked (stored h e l s) = s
  size_marked (repeats h k e b l s) = s
  size_marked (appears h k l e s) = s

-- what is known of a job whose first chunks are marked
pub record Places (w : ℕ) (job : List ℕ) (held earlier ds rest : List (List ℕ)) : Type 0 where
  pub allowed : window_allowed w ≡ true
  pub bytes : Bytes job
  pub long : length job ≤ job_limit
  pub few : length held ≤ recipe_limit
  pub short : length (earlier ++ ds) ≤ recipe_limit
  pub whole : chunks w job ≡ earlier ++ (ds ++ rest)

-- the first of them, and the others
module _ {w : ℕ} {job : List ℕ} {held earlier : List (List ℕ)} {d : List ℕ} {ds rest : List (List ℕ)}
    (p : Places w job held earlier (d ∷ ds) rest) where
  pub places_on : Places w job held (earlier ++ (d ∷ [])) ds rest
  places_on =
      record {
        allowed = p.allowed;
        bytes = p.bytes;
        long = p.long;
        few = p.few;
        short = rw (append_assoc earlier (d ∷ []) ds) p.short;
        whole = p.whole ∙ sym (append_assoc earlier (d ∷ []) (ds ++ rest));
      }

  pub place_start : StartsAt job (total earlier) d
  place_start = starts_at w p.allowed earlier job d (ds ++ rest) p.bytes p.whole

  pub place_marked : Marked held earlier d (mark held earlier d)
  place_marked =
      marked held earlier d p.few (omega (arith, p.short, length-append earlier (d ∷ ds))) place_start.small

-- the chunk after them
module _ {w : ℕ} {job : List ℕ} {held ds : List (List ℕ)} {c : List ℕ} {rest : List (List ℕ)}
    (p : Places w job held [] ds (c ∷ rest)) where
  pub next_start : StartsAt job (total ds) c
  next_start = starts_at w p.allowed ds job c rest p.bytes p.whole

  pub next_marked : Marked held ds c (mark held ds c)
  next_marked = marked held ds c p.few p.short next_start.small

-- the mark m at place q is that of a chunk which starts at position `top` or before
pub record Place (w : ℕ) (job : List ℕ) (held : List (List ℕ)) (top m q : ℕ) : Type 0 where
  pub chunk : List ℕ
  pub before : List (List ℕ)
  pub after : List (List ℕ)
  pub split : chunks w job ≡ before ++ (chunk ∷ after)
  pub at : length before ≡ q
  pub within : total before ≤ top
  pub starts : StartsAt job (total before) chunk
  pub marked : Marked held before chunk m

pub place_at : (w : ℕ) (job : List ℕ) (held earlier ds rest : List (List ℕ)) → Places w job held earlier ds rest
    → (q : ℕ) → q < length ds
    → Place w job held (total (earlier ++ ds)) (get_or (marks held earlier ds) q 0) (length earlier + q)
unfolding marks
place_at w job held earlier [] rest p q l = absurd (omega arith)
place_at w job held earlier (d ∷ ds) rest p zero l =
    record {
      chunk = d;
      before = earlier;
      after = ds ++ rest;
      split = p.whole;
      at = omega arith;
      within = omega (arith, total_append earlier (d ∷ ds));
      starts = place_start p;
      marked = place_marked p;
    }
place_at w job held earlier (d ∷ ds) rest p (suc q) l =
    let on = place_at w job held (earlier ++ (d ∷ [])) ds rest (places_on p) q (omega arith) in
    record {
      chunk = on.chunk;
      before = on.before;
      after = on.after;
      split = on.split;
      at = omega (arith, on.at, length-append earlier (d ∷ []));
      within = rw (← (append_assoc earlier (d ∷ []) ds)) on.within;
      starts = on.starts;
      marked = on.marked;
    }
