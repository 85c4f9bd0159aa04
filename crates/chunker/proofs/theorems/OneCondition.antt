-- From a chunk's start the cut comes w after the first byte that is not smaller than each of the w after it: that it is larger than
-- all before it follows.
use Prim.Native.Nat.{ℕ, zero, suc, ◌+◌, ◌≤◌, ◌<◌}
use native.Mathlib.Omega.{arith}
use native.Mathlib.Nat.{le_refl}
use native.Mathlib.Decide.{dec_lt}
use mathlib.Core.Path.{◌≡◌, subst}
use mathlib.Core.List.{List, [], ◌∷◌}
use lib.ListN.{drop}
use Rattle.scan.specs.Scanner.{fresh}
use Rattle.chunker.specs.Method.{byte_at, MaximumPoint, FirstMaximumPoint, Division}
use Rattle.chunker.specs.OneCondition.{Unexceeded, FirstUnexceeded, InOneCondition}
use Rattle.chunker.specs.Chunks.{cut_chunks, remaining}
use Rattle.chunker.proofs.theorems.PublishedMethod.{divides}

module _ (w : ℕ) (xs : List ℕ) where
  -- a maximum point meets the condition
  unexceeded_of : (p : ℕ) → MaximumPoint w xs p → Unexceeded w xs p
  unexceeded_of p m = record { place = m.place; window = m.window; not_smaller = m.not_smaller }

  module _ (p : ℕ) (f : FirstUnexceeded w xs p) where
    -- a place before p that is not smaller than p, with smaller ones between, meets the condition
    meets : (q : ℕ) → 1 ≤ q → q < p → ((r : ℕ) → q < r → r < p → byte_at xs r < byte_at xs p) → byte_at xs p ≤ byte_at xs q
        → Unexceeded w xs q
    meets q some before between large =
        record {
          place = some;
          window = omega (arith, f.unexceeded.window);
          not_smaller = λ r after within.
              elim (dec_lt r p) [
                | yes c ↦ omega (arith, between r after c)
                | no c ↦
                    elim (dec_lt p r) [
                      | yes d ↦ omega (arith, f.unexceeded.not_smaller r d (omega arith))
                      | no d ↦
                          let same : p ≡ r = omega arith in
                          subst (λ x. byte_at xs x ≤ byte_at xs q) same large
                    ]
              ];
        }

    larger_by : (n q : ℕ) → p ≤ q + n → 1 ≤ q → q < p → byte_at xs q < byte_at xs p
    larger_by zero q near some before = absurd (omega arith)
    larger_by (suc n) q near some before =
        elim (dec_lt (byte_at xs q) (byte_at xs p)) [
          | yes c ↦ c
          | no c ↦
              absurd (f.first q before
              (meets q some before (λ r after early. larger_by n r (omega arith) (omega arith) early) (omega arith)))
        ]

    -- the first place that meets the condition is larger than all before it: it is a maximum point
    pub maximum_of : MaximumPoint w xs p
    maximum_of =
        record {
          place = f.unexceeded.place;
          window = f.unexceeded.window;
          larger = λ q some before. larger_by p q (omega arith) some before;
          not_smaller = f.unexceeded.not_smaller;
        }

  -- the first maximum point is the first place that meets the condition
  pub first_maximum : (p : ℕ) → FirstUnexceeded w xs p → FirstMaximumPoint w xs p
  first_maximum p f =
      record { maximum = maximum_of p f; first = λ q before m. f.first q before (unexceeded_of q m) }

  -- where no place up to q is a maximum point, none meets the condition
  none_by : (n q : ℕ) → q ≤ n → ((r : ℕ) → r ≤ q → MaximumPoint w xs r → ⊥) → Unexceeded w xs q → ⊥
  none_by zero q small none u = omega (arith, u.place)
  none_by (suc n) q small none u =
      none q (le_refl q)
      (maximum_of q
      (record {
        unexceeded = u;
        first = λ r before v. none_by n r (omega arith) (λ x within. none x (omega arith)) v;
      }))

  pub first_unexceeded : (p : ℕ) → FirstMaximumPoint w xs p → FirstUnexceeded w xs p
  first_unexceeded p f =
      record {
        unexceeded = unexceeded_of p f.maximum;
        first = λ q before u. none_by q q (le_refl q) (λ r within. f.first r (omega arith)) u;
      }

  none_unexceeded : ((p : ℕ) → MaximumPoint w xs p → ⊥) → (p : ℕ) → Unexceeded w xs p → ⊥
  none_unexceeded none p u = none_by p p (le_refl p) (λ r within. none r) u

-- a division by the published method is one in one condition
pub in_one_condition : (w : ℕ) (xs : List ℕ) (cs : List (List ℕ)) (rest : List ℕ) → Division w xs cs rest
    → InOneCondition w xs cs rest
in_one_condition w xs [] rest d = (d.0, none_unexceeded w xs d.1)
in_one_condition w xs (c ∷ cs) rest d =
    (d.0, first_unexceeded w xs d.0 d.1, d.2, in_one_condition w (drop (d.0 + w) xs) cs rest d.3)

-- .. and the other way round
pub in_two_conditions : (w : ℕ) (xs : List ℕ) (cs : List (List ℕ)) (rest : List ℕ) → InOneCondition w xs cs rest
    → Division w xs cs rest
in_two_conditions w xs [] rest d = (d.0, λ p m. d.1 p (unexceeded_of w xs p m))
in_two_conditions w xs (c ∷ cs) rest d =
    (d.0, first_maximum w xs d.0 d.1, d.2, in_two_conditions w (drop (d.0 + w) xs) cs rest d.3)

-- the chunks computed are those of the one condition
pub chunks_in_one_condition : (w : ℕ) → 1 ≤ w → (job : List ℕ)
    → InOneCondition w job (cut_chunks (fresh w) [] job) (remaining (fresh w) [] job)
chunks_in_one_condition w h job =
    in_one_condition w job (cut_chunks (fresh w) [] job) (remaining (fresh w) [] job) (divides w h job)
