-- Laws of the largest byte of a stretch, found byte by byte.
use Prim.Native.Nat.{ℕ, zero, suc, ◌+◌, ◌-◌, max, ◌≤◌, ◌<◌}
use native.Mathlib.Omega.{arith}
use native.Mathlib.Nat.{le_refl}
use native.Mathlib.Decide.{dec_lt}
use mathlib.Core.Path.{◌≡◌, refl, subst}
use mathlib.Core.List.{List}
use lib.ListN.{length, get_or, drop, drop_of_length-le}
use Rattle.std.specs.List.{fold}
use Rattle.std.proofs.lemmas.List.{drop_more}
use Rattle.blocks.specs.internal.Largest.{Stands, AtMost, FirstAt}

-- what holds at i holds at each index from i up to i + 1
pub at_one : (P : ℕ → Type 0) (i q : ℕ) → P i → i ≤ q → q < i + 1 → P q
at_one P i q h after within = let same : i ≡ q = omega arith in subst P same h

-- m is the largest byte from a on, 0 where there is none
pub record LargestFrom (xs : List ℕ) (a m : ℕ) : Type 0 where
  pub stands : 1 ≤ m → Stands xs a (length xs) m
  pub most : AtMost xs a (length xs) m

-- .. from a up to i
record Looked (xs : List ℕ) (a i m : ℕ) : Type 0 where
  stands : 1 ≤ m → Stands xs a i m
  most : AtMost xs a i m

module _ (xs : List ℕ) (a : ℕ) where
  looked_none : Looked xs a a 0
  looked_none = record { stands = λ h. absurd (omega arith); most = record { bound = λ q l r. absurd (omega arith) } }

  -- the next byte is looked at too
  looked_more : (i m k : ℕ) → Looked xs a i m → a ≤ i → k ≡ max m (get_or xs i 0) → Looked xs a (i + 1) k
  looked_more i m k h order same =
      record {
        stands = λ some.
            elim (dec_lt m (get_or xs i 0)) [
              | yes c ↦ record { index = i; from = order; to = omega arith; is = omega arith }
              | no c ↦
                  let s = h.stands (omega arith) in
                  record { index = s.index; from = s.from; to = omega arith; is = omega (arith, s.is) }
            ];
        most = record {
          bound = λ q l r.
              elim (dec_lt q i) [
                | yes c ↦ omega (arith, h.most.bound q l c)
                | no c ↦ at_one (λ x. get_or xs x 0 ≤ k) i q (omega arith) (omega arith) r
              ];
        };
      }

  -- the last n bytes are looked at too
  looked_all : (n i m : ℕ) → Looked xs a i m → a ≤ i → i + n ≡ length xs → LargestFrom xs a (fold max m (drop i xs))
  looked_all zero i m h order end =
      let all : Looked xs a (length xs) m = subst (λ x. Looked xs a x m) (omega arith) h in
      let done : length xs ≤ i = omega arith in
      rw (drop_of_length-le xs done) (record { stands = all.stands; most = all.most })
  looked_all (suc n) i m h order end =
      let some : i < length xs = omega arith in
      rw (drop_more xs i 0 some)
      (looked_all n (i + 1) (max m (get_or xs i 0)) (looked_more i m _ h order refl) (omega arith) (omega arith))

  pub largest_fold : (m : ℕ) → a ≤ length xs → m ≡ fold max 0 (drop a xs) → LargestFrom xs a m
  largest_fold m within same = rw same (looked_all (length xs - a) a 0 looked_none (le_refl a) (omega arith))

-- m stands from i up to e, and nowhere from a up to i
pub record Unseen (xs : List ℕ) (a e m i : ℕ) : Type 0 where
  pub from : a ≤ i
  pub stands : Stands xs i e m
  pub before : (q : ℕ) → a ≤ q → q < i → get_or xs q 0 ≡ m → ⊥

module _ (xs : List ℕ) (a e m : ℕ) where
  pub unseen_none : Stands xs a e m → Unseen xs a e m a
  unseen_none h = record { from = le_refl a; stands = h; before = λ q l r. absurd (omega arith) }

  -- m stands nowhere from i up to k either
  pub unseen_to : (i k : ℕ) → Unseen xs a e m i → i ≤ k → ((q : ℕ) → i ≤ q → q < k → get_or xs q 0 ≡ m → ⊥)
      → Unseen xs a e m k
  unseen_to i k h order none =
      let s = h.stands in
      let later : k ≤ s.index =
      elim (dec_lt s.index k) [ yes c ↦ absurd (none s.index s.from c s.is) | no c ↦ omega arith ] in
      record {
        from = omega arith;
        stands = record { index = s.index; from = later; to = s.to; is = s.is };
        before = λ q l r. elim (dec_lt q i) [ yes c ↦ h.before q l c | no c ↦ none q (omega arith) r ];
      }

  pub unseen_found : (i : ℕ) → Unseen xs a e m i → get_or xs i 0 ≡ m → FirstAt xs a m i
  unseen_found i h here = record { from = h.from; is = here; before = h.before }

-- the first index of a byte is not after any other of its indices
pub first_within : (xs : List ℕ) (a e m j : ℕ) → FirstAt xs a m j → Stands xs a e m → j < e
first_within xs a e m j f s =
    elim (dec_lt s.index j) [ yes c ↦ absurd (f.before s.index s.from c s.is) | no c ↦ omega arith ]
