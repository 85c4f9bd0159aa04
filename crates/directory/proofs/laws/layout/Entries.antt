-- The test `laid_out` as facts, and back.
use Rattle.std.proofs.Common.{◌≡◌, ℕ, zero, suc, ◌+◌, ◌*◌, ◌<◌, ◌≤◌, true, List, sym, refl, ◌∙◌, arith, eq-eqb, eqb-true, le-leb, leb-true}
use mathlib.Core.Bool.{and-eq-true_iff}
use Rattle.directory.specs.Entry.{offset_at, length_at}
use Rattle.directory.specs.Layout.{laid_out}

-- entry i starts at `from`, its length is allowed, and the n entries after it follow
pub record First (w : ℕ) (directory : List ℕ) (i from filled n : ℕ) : Type 0 where
  pub starts : offset_at directory i ≡ from
  pub some : 1 ≤ length_at directory i
  pub bounded : length_at directory i ≤ 256 * w + 1
  pub rest : laid_out w directory (suc i) (from + length_at directory i) filled n ≡ true

module _ (w : ℕ) (directory : List ℕ) where
  -- at least one entry
  pub first : (i from filled n : ℕ) → laid_out w directory i from filled (suc n) ≡ true → First w directory i from filled n
  unfolding laid_out
  first i from filled n h =
      let k = (and-eq-true_iff _ _).0 h in
      let l = (and-eq-true_iff _ _).0 k.0 in
      let m = (and-eq-true_iff _ _).0 l.0 in
      record {
        starts = eqb-true _ _ m.0;
        some = leb-true _ _ m.1;
        bounded = leb-true _ _ l.1;
        rest = k.1;
      }

  -- and back
  first_back : (i from filled n : ℕ) → First w directory i from filled n
      → laid_out w directory i from filled (suc n) ≡ true
  unfolding laid_out
  first_back i from filled n f =
      rw (eq-eqb _ _ f.starts, le-leb _ _ f.some, le-leb _ _ f.bounded) f.rest

  -- no entries end where they start
  pub none : (i from filled : ℕ) → laid_out w directory i from filled 0 ≡ true → from ≡ filled
  unfolding laid_out
  none i from filled h = eqb-true from filled h

  -- and back
  none_back : (i from filled : ℕ) → from ≡ filled → laid_out w directory i from filled 0 ≡ true
  unfolding laid_out
  none_back i from filled e = eq-eqb from filled e

  -- entries end no earlier than they start
  pub laid_end : (i from filled n : ℕ) → laid_out w directory i from filled n ≡ true → from ≤ filled
  laid_end i from filled zero h = omega (arith, none i from filled h)
  laid_end i from filled (suc n) h =
      let f = first i from filled n h in
      omega (arith, laid_end (suc i) (from + length_at directory i) filled n f.rest)

  -- one more entry, which starts at the end of the others
  pub laid_added : (i from filled n q : ℕ) → i + n ≡ q → laid_out w directory i from filled n ≡ true
      → offset_at directory q ≡ filled → 1 ≤ length_at directory q → length_at directory q ≤ 256 * w + 1
      → laid_out w directory i from (filled + length_at directory q) (suc n) ≡ true
  laid_added i from filled zero q e h o s b =
      let e' : i ≡ q = omega arith in
      let f = none i from filled h in
      first_back i from (filled + length_at directory q) zero
      (rw e' (record {
        starts = o ∙ sym f;
        some = s;
        bounded = b;
        rest = none_back (suc q) (from + length_at directory q) (filled + length_at directory q) (omega arith);
      }))
  laid_added i from filled (suc n) q e h o s b =
      let f = first i from filled n h in
      first_back i from (filled + length_at directory q) (suc n)
      (record {
        starts = f.starts;
        some = f.some;
        bounded = f.bounded;
        rest = laid_added (suc i) (from + length_at directory i) filled n q (omega arith) f.rest o s b;
      })

  -- entries depend on no other part of a directory
  pub laid_same : (directory' : List ℕ) (i from filled n : ℕ)
      → ((q : ℕ) → i ≤ q → q < i + n
      → (offset_at directory' q ≡ offset_at directory q) × (length_at directory' q ≡ length_at directory q))
      → laid_out w directory' i from filled n ≡ laid_out w directory i from filled n
  unfolding laid_out
  laid_same directory' i from filled zero e = refl
  laid_same directory' i from filled (suc n) e =
      let k = e i (omega arith) (omega arith) in
      rw (
        k.0,
        k.1,
        laid_same directory' (suc i) (from + length_at directory i) filled n
            (λ q a b. e q (omega arith) (omega arith)),
      )

-- what the layout says of entry q
pub record Entry (w : ℕ) (directory : List ℕ) (filled q : ℕ) : Type 0 where
  pub some : 1 ≤ length_at directory q
  pub bounded : length_at directory q ≤ 256 * w + 1
  pub within : offset_at directory q + length_at directory q ≤ filled

-- of each of the n entries from entry i on
pub laid_entry : (w : ℕ) (directory : List ℕ) (i from filled n k q : ℕ) → i + k ≡ q → k < n
    → laid_out w directory i from filled n ≡ true → Entry w directory filled q
laid_entry w directory i from filled zero k q e l h = absurd (omega arith)
laid_entry w directory i from filled (suc n) zero q e l h =
    let f = first w directory i from filled n h in
    let end = laid_end w directory (suc i) (from + length_at directory i) filled n f.rest in
    let e' : i ≡ q = omega arith in
    let here : Entry w directory filled i =
    record { some = f.some; bounded = f.bounded; within = rw f.starts end } in
    rw e' at here
laid_entry w directory i from filled (suc n) (suc k) q e l h =
    laid_entry w directory (suc i) (from + length_at directory i) filled n k q (omega arith) (omega arith)
    (first w directory i from filled n h).rest
