-- Of chunks in a row, those that appear for the first time.
use Prim.Native.Nat.{ℕ, zero, suc, ◌≤◌, ◌<◌}
use native.Mathlib.Omega.{arith}
use mathlib.Core.Path.{◌≡◌, refl, sym, ap, ◌∙◌}
use mathlib.Core.Bool.{Bool, true, false, cond, ◌||◌, or-true, true≢false}
use mathlib.Core.List.{List, [], ◌∷◌, ◌++◌, append_assoc, append-nil}
use lib.ListN.{length, get_or, take, get_or-append}
use lib.Seq.{take_at, take-append-le, get_or_at}
use Rattle.store.specs.Contents.{same, number, has}
use Rattle.store.proofs.laws.contents.Sameness.{same_equal, equal_same}
use Rattle.store.proofs.laws.contents.Growth.{has_append}
use Rattle.marks.specs.Marks.{appearing}

-- a chunk or nothing for each
pub length_appearing : (held earlier ds : List (List ℕ)) → length (appearing held earlier ds) ≡ length ds
unfolding appearing
length_appearing held earlier [] = refl
length_appearing held earlier (d ∷ ds) = ap suc (length_appearing held (earlier ++ (d ∷ [])) ds)

-- those of two stretches of chunks
pub appearing_append : (held earlier xs ys : List (List ℕ))
    → appearing held earlier (xs ++ ys) ≡ appearing held earlier xs ++ appearing held (earlier ++ xs) ys
unfolding appearing
appearing_append held earlier [] ys = rw (append-nil earlier)
appearing_append held earlier (x ∷ xs) ys =
    ap (λ (fs : List (List ℕ)). cond (has held x || has earlier x) [] x ∷ fs)
    (rw (append_assoc earlier (x ∷ []) xs) at (appearing_append held (earlier ++ (x ∷ [])) xs ys))

-- at the place of a chunk, and before it
module _ (held ds rest before after : List (List ℕ)) (c : List ℕ) (split : ds ++ rest ≡ before ++ (c ∷ after))
    (q : ℕ) (at : length before ≡ q) (inside : q < length ds) where
  appearing_split : appearing held [] ds ++ appearing held ds rest
      ≡ appearing held [] before ++ (cond (has held c || has before c) [] c ∷ appearing held (before ++ (c ∷ [])) after)
  unfolding appearing
  appearing_split =
      sym (appearing_append held [] ds rest) ∙ ap (appearing held []) split ∙ appearing_append held [] before (c ∷ after)

  pub appearing_here : get_or (appearing held [] ds) q [] ≡ cond (has held c || has before c) [] c
  appearing_here =
      let size = length_appearing held [] ds in
      sym (get_or-append (appearing held [] ds) (appearing held ds rest) [] q (omega arith))
      ∙ ap (λ fs. get_or fs q []) appearing_split
      ∙ get_or_at (appearing held [] before) _ _ [] q (length_appearing held [] before ∙ at)

  pub appearing_before : take q (appearing held [] ds) ≡ appearing held [] before
  appearing_before =
      let size = length_appearing held [] ds in
      sym (take-append-le q (appearing held [] ds) (appearing held ds rest) (omega arith))
      ∙ ap (take q) appearing_split
      ∙ take_at (appearing held [] before) _ q (length_appearing held [] before ∙ at)

-- a chunk is not empty
not_empty : (c : List ℕ) → 1 ≤ length c → same [] c ≡ false
unfolding same
not_empty [] l = absurd (omega arith)
not_empty (b ∷ bs) l = refl

module _ (held : List (List ℕ)) (c : List ℕ) (some : 1 ≤ length c) where
  -- what appears is one of the chunks
  pub appearing_among : (earlier ds : List (List ℕ)) (q : ℕ) → get_or (appearing held earlier ds) q [] ≡ c → has ds c ≡ true
  unfolding appearing has
  appearing_among earlier [] q e = absurd (omega (arith, ap length e))
  appearing_among earlier (d ∷ ds) zero e = by_test (has held d || has earlier d) e
    where
      by_test : (t : Bool) → cond t [] d ≡ c → (same d c || has ds c) ≡ true
      by_test true h = absurd (omega (arith, ap length h))
      by_test false h = rw (equal_same d c h)
  appearing_among earlier (d ∷ ds) (suc q) e =
      rw (appearing_among (earlier ++ (d ∷ [])) ds q e) (or-true (same d c))

  module _ (new : has held c ≡ false) where
    -- a chunk that is known is not c where c is not
    other : (earlier : List (List ℕ)) (d : List ℕ) → has earlier c ≡ false → (has held d || has earlier d) ≡ true
        → same d c ≡ false
    other earlier d none known = by_test (same d c) refl
      where
        by_test : (t : Bool) → same d c ≡ t → t ≡ false
        by_test true e =
            let unknown : (has held d || has earlier d) ≡ false = rw (same_equal d c e, new, none) in
            absurd (true≢false (sym known ∙ unknown))
        by_test false e = refl

    -- so the place of a chunk d shows c where the two are equal
    shows : (earlier : List (List ℕ)) (d : List ℕ) → has earlier c ≡ false
        → same (cond (has held d || has earlier d) [] d) c ≡ same d c
    shows earlier d none = by_test (has held d || has earlier d) refl
      where
        by_test : (t : Bool) → (has held d || has earlier d) ≡ t → same (cond t [] d) c ≡ same d c
        by_test true e = not_empty c some ∙ sym (other earlier d none e)
        by_test false e = refl

    pub number_appearing : (earlier ds : List (List ℕ)) → has earlier c ≡ false
        → number (appearing held earlier ds) c ≡ number ds c
    unfolding appearing number has
    number_appearing earlier [] none = refl
    number_appearing earlier (d ∷ ds) none =
        rw (shows earlier d none)
        (by_test (same d c) refl (λ e. number_appearing (earlier ++ (d ∷ [])) ds (later e)))
      where
        later : same d c ≡ false → has (earlier ++ (d ∷ [])) c ≡ false
        later e = rw (has_append earlier (d ∷ []) c, none, e)

        by_test : (t : Bool) → same d c ≡ t
            → (same d c ≡ false → number (appearing held (earlier ++ (d ∷ [])) ds) c ≡ number ds c)
            → cond t 0 (suc (number (appearing held (earlier ++ (d ∷ [])) ds) c)) ≡ cond t 0 (suc (number ds c))
        by_test true e on = refl
        by_test false e on = ap suc (on e)
