-- The last of chunks in a row that is of a chain.
use Prim.Native.Nat.{ℕ, zero, suc, ◌+◌, ◌/◌, ◌^◌, ◌≤◌, ◌<◌}
use native.Mathlib.Omega.{arith}
use native.Mathlib.Nat.{add-zero, zero-add}
use mathlib.Core.Path.{◌≡◌, refl, ◌∙◌}
use mathlib.Core.Bool.{Bool, true, false, cond}
use mathlib.Core.List.{List, [], ◌∷◌, ◌++◌}
use lib.ListN.{length, get_or}
use borrow.Author.Tests.{eq-eqb, eqb-true}
use Rattle.gear.specs.Gear.{sum}
use Rattle.gear.proofs.laws.Sums.{sum_from_below}
use Rattle.marks.specs.Marks.{no_place, own_chains, own_chain, of_chain, last_from, last_of}

-- a chain is one of those that there are heads for
pub own_below : (bs : List ℕ) → own_chain bs < own_chains
unfolding own_chain
own_below bs = omega (arith, sum_from_below 0 bs (omega arith))

-- by the sum
pub own_sum : (bs : List ℕ) → sum bs / 2 ^ 20 ≡ own_chain bs
unfolding own_chain
own_sum bs = refl

-- a chunk is of its own chain
pub of_own : (f : List ℕ) (c : ℕ) → 1 ≤ length f → own_chain f ≡ c → of_chain c f ≡ true
unfolding of_chain
of_own [] c l e = absurd (omega arith)
of_own (b ∷ bs) c l e = eq-eqb (own_chain (b ∷ bs)) c e

-- what is of a chain is a chunk, and the chain is its own
pub of_chain_lem : (f : List ℕ) (c : ℕ) → of_chain c f ≡ true → (1 ≤ length f) × (own_chain f ≡ c)
unfolding of_chain
of_chain_lem [] c e = absurd (let z : ◌≡◌ {A = ℕ} 0 1 = cc in omega arith)
of_chain_lem (b ∷ bs) c e = (omega arith, eqb-true (own_chain (b ∷ bs)) c e)

-- nothing is of no chain
pub of_none : (c : ℕ) → of_chain c [] ≡ false
unfolding of_chain
of_none c = refl

-- r is the place of the last chunk of the chain, counted from `at` on, or `before`
pub data Last (c at before : ℕ) (fs : List (List ℕ)) (r : ℕ) : Type 0 where
  nowhere : r ≡ before → ((q : ℕ) → q < length fs → of_chain c (get_or fs q []) ≡ false) → Last c at before fs r
  place : (p : ℕ) → r ≡ at + p → p < length fs → of_chain c (get_or fs p []) ≡ true
      → ((q : ℕ) → p < q → q < length fs → of_chain c (get_or fs q []) ≡ false) → Last c at before fs r

-- what holds of later places of fs holds of those of f ∷ fs
later : (c : ℕ) (f : List ℕ) (fs : List (List ℕ)) (p : ℕ)
    → ((q : ℕ) → p ≤ q → q < length fs → of_chain c (get_or fs q []) ≡ false)
    → (q : ℕ) → p < q → q < length (f ∷ fs) → of_chain c (get_or (f ∷ fs) q []) ≡ false
later c f fs p others zero l b = absurd (omega arith)
later c f fs p others (suc q) l b = others q (omega arith) (omega arith)

module _ {c at before r : ℕ} {f : List ℕ} {fs : List (List ℕ)} where
  -- one chunk more in front, which is of the chain
  last_met : of_chain c f ≡ true → Last c (suc at) at fs r → Last c at before (f ∷ fs) r
  last_met e (nowhere h others) = place 0 (omega arith) (omega arith) e (later c f fs 0 (λ q l b. others q b))
  last_met e (place p h b o others) =
      place (suc p) (omega arith) (omega arith) o (later c f fs (suc p) (λ q l. others q (omega arith)))

  -- and one that is not
  last_passed : of_chain c f ≡ false → Last c (suc at) before fs r → Last c at before (f ∷ fs) r
  last_passed e (nowhere h others) = nowhere h all
    where
      all : (q : ℕ) → q < length (f ∷ fs) → of_chain c (get_or (f ∷ fs) q []) ≡ false
      all zero b = e
      all (suc q) b = others q (omega arith)
  last_passed e (place p h b o others) =
      place (suc p) (omega arith) (omega arith) o (later c f fs (suc p) (λ q l. others q (omega arith)))

pub last_from_lem : (c at before : ℕ) (fs : List (List ℕ)) → Last c at before fs (last_from c at before fs)
unfolding last_from
last_from_lem c at before [] = nowhere refl (λ q l. absurd (omega arith))
last_from_lem c at before (f ∷ fs) = by_test (of_chain c f) refl (λ b. last_from_lem c (suc at) b fs)
  where
    by_test : (t : Bool) → of_chain c f ≡ t → ((b : ℕ) → Last c (suc at) b fs (last_from c (suc at) b fs))
        → Last c at before (f ∷ fs) (last_from c (suc at) (cond t at before) fs)
    by_test true e on = last_met e (on at)
    by_test false e on = last_passed e (on before)

-- the last of few chunks, or none, is no more than `no_place`
pub last_small : (c : ℕ) (fs : List (List ℕ)) → length fs ≤ no_place → last_of c fs ≤ no_place
last_small c fs few = by_last (last_from_lem c 0 no_place fs)
  where
    by_last : {r : ℕ} → Last c 0 no_place fs r → r ≤ no_place
    by_last (nowhere e others) = omega arith
    by_last (place p e h o others) = omega arith

-- of one chunk more
last_more : (c at before : ℕ) (fs : List (List ℕ)) (f : List ℕ)
    → last_from c at before (fs ++ (f ∷ [])) ≡ cond (of_chain c f) (at + length fs) (last_from c at before fs)
unfolding last_from
last_more c at before [] f = rw (add-zero at)
last_more c at before (g ∷ gs) f =
    let place : suc at + length gs ≡ at + suc (length gs) = omega arith in
    last_more c (suc at) (cond (of_chain c g) at before) gs f ∙ rw place

pub last_append : (c : ℕ) (fs : List (List ℕ)) (f : List ℕ)
    → last_of c (fs ++ (f ∷ [])) ≡ cond (of_chain c f) (length fs) (last_of c fs)
last_append c fs f = last_more c 0 no_place fs f ∙ rw (zero-add (length fs))
