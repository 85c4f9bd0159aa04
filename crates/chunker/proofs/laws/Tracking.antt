-- What a scanner's numbers say of the bytes since the last cut, and that each move keeps it true.
use Prim.Native.Nat.{ℕ, zero, suc, ◌+◌, ◌-◌, ◌≤◌, ◌<◌, min}
use native.Mathlib.Omega.{arith}
use native.Mathlib.Decide.{dec_le}
use mathlib.Core.Path.{◌≡◌, refl, ◌∙◌}
use mathlib.Core.List.{List, [], ◌∷◌, ◌++◌}
use lib.ListN.{length, length-append, get_or-append}
use lib.Seq.{get_or-append_seam}
use Rattle.scan.specs.declared.Scanner.{Scanner}
use Rattle.scan.specs.Scanner.{fresh}
use Rattle.scan.specs.Move.{Move, move, moved, next, rise, hold}
use Rattle.scan.proofs.laws.Moves.{Moved, starts, rises, holds, cuts, facts}
use Rattle.chunker.specs.Chunks.{kept, after, remaining}
use Rattle.chunker.specs.Method.{byte_at, MaximumPoint, FirstMaximumPoint}
use Rattle.chunker.specs.Peaks.{peak_of}

-- a place of o has the same byte when bytes follow o
pub byte_at_front : (o t : List ℕ) (q : ℕ) → q ≤ length o → byte_at (o ++ t) q ≡ byte_at o q
byte_at_front o t zero h = refl
byte_at_front o t (suc q) h = get_or-append o t 0 q h

-- the byte that follows o
pub byte_at_last : (o : List ℕ) (b : ℕ) (t : List ℕ) → byte_at (o ++ b ∷ t) (suc (length o)) ≡ b
byte_at_last o b t = get_or-append_seam o b t 0

-- an empty list has no byte, so 0 is read at each place
byte_at_nil : (q : ℕ) → byte_at [] q ≡ 0
byte_at_nil zero = refl
byte_at_nil (suc q) = refl

-- the byte at a place of o followed by b is one of o, or is b
data Placed (o : List ℕ) (b : ℕ) (t : List ℕ) (q : ℕ) : Type 0 where
  front : q ≤ length o → byte_at (o ++ b ∷ t) q ≡ byte_at o q → Placed o b t q
  last : q ≡ suc (length o) → byte_at (o ++ b ∷ t) q ≡ b → Placed o b t q

-- each place up to that of b is of one of the two kinds
placed : (o : List ℕ) (b : ℕ) (t : List ℕ) (q : ℕ) → q ≤ suc (length o) → Placed o b t q
placed o b t q h =
    elim (dec_le q (length o)) [ yes g ↦ front g (byte_at_front o (b ∷ t) q g) | no g ↦ at_end_lem (omega arith) ]
  where
    at_end_lem : q ≡ suc (length o) → Placed o b t q
    at_end_lem e = last e (rw e (byte_at_last o b t))

-- a maximum point whose window lies in o does not depend on the bytes that follow o
pub maximum_front : (w : ℕ) (o t : List ℕ) (p : ℕ) → p + w ≤ length o → MaximumPoint w (o ++ t) p → MaximumPoint w o p
maximum_front w o t p h m =
    let here = byte_at_front o t p (omega arith) in
    record {
      place = m.place;
      window = h;
      larger = λ q g k. omega (arith, m.larger q g k, byte_at_front o t q (omega arith));
      not_smaller = λ q g k. omega (arith, m.not_smaller q g k, byte_at_front o t q (omega arith));
    }

-- The scanner s fits the bytes o since the last cut: it has their number, and the place (first on a tie) and value of the
-- largest; the window of the largest is not over, and o has no maximum point
pub record Tracks (s : Scanner) (o : List ℕ) : Type 0 where
  pub positive : 1 ≤ s.window
  pub counts : s.count ≡ length o
  pub within : s.place ≤ s.count
  pub live : s.count < s.place + s.window
  pub begun : min 1 s.count ≤ s.place
  pub at : byte_at o s.place ≡ s.value
  pub most : (q : ℕ) → q ≤ length o → byte_at o q ≤ s.value
  pub before : (q : ℕ) → 1 ≤ q → q < s.place → byte_at o q < s.value
  pub none : (p : ℕ) → MaximumPoint s.window o p → ⊥

-- a fresh scanner fits no bytes
pub tracks_fresh : (w : ℕ) → 1 ≤ w → Tracks (fresh w) []
tracks_fresh w h =
    record {
      positive = h;
      counts = refl;
      within = omega arith;
      live = omega arith;
      begun = omega arith;
      at = refl;
      most = λ q g. omega (arith, byte_at_nil q);
      before = omega arith;
      none = λ p m. omega (arith, m.window);
    }

-- no byte of o followed by b is larger than v if none of o is and b is not
bounded : (o : List ℕ) (b : ℕ) (t : List ℕ) (v : ℕ) → ((q : ℕ) → q ≤ length o → byte_at o q ≤ v) → b ≤ v
    → (q : ℕ) → q ≤ suc (length o) → byte_at (o ++ b ∷ t) q ≤ v
bounded o b t v f h q g =
    elim (placed o b t q g) [ front k e ↦ omega (arith, f q k) | last k e ↦ omega arith ]

module _ (s : Scanner) (o : List ℕ) (b : ℕ) (t : Tracks s o) where
  -- after one more byte, the only new maximum point could be the one whose window that byte ends
  none_more : ((p : ℕ) → p + s.window ≡ suc (length o) → MaximumPoint s.window (o ++ (b ∷ [])) p → ⊥)
      → (p : ℕ) → MaximumPoint s.window (o ++ (b ∷ [])) p → ⊥
  none_more f p m =
      elim (dec_le (p + s.window) (length o)) [
        | yes g ↦ t.none p (maximum_front s.window o (b ∷ []) p g m)
        | no g ↦ f p (omega (arith, m.window, length-append o (b ∷ []))) m
      ]

  -- a byte larger than all before it becomes the largest
  pub tracks_rise : ((q : ℕ) → 1 ≤ q → q ≤ length o → byte_at o q < b) → Tracks (rise s b) (o ++ (b ∷ []))
  tracks_rise below =
      let longer = length-append o (b ∷ []) in
      record {
        positive = t.positive;
        counts = omega arith;
        within = omega arith;
        live = omega arith;
        begun = omega arith;
        at = rw t.counts (byte_at_last o b []);
        most = λ q h. bounded o b [] b up_to (omega arith) q (omega arith);
        before = λ q h g. omega (arith, below q h (omega arith), byte_at_front o (b ∷ []) q (omega arith));
        none = none_more refuted;
      }
    where
      up_to : (q : ℕ) → q ≤ length o → byte_at o q ≤ b
      up_to zero h = omega arith
      up_to (suc q) h = omega (arith, below (suc q) (omega arith) h)

      refuted : (p : ℕ) → p + s.window ≡ suc (length o) → MaximumPoint s.window (o ++ (b ∷ [])) p → ⊥
      refuted p e m =
          let new = m.not_smaller (suc (length o)) (omega arith) (omega arith) in
          let same = byte_at_front o (b ∷ []) p (omega arith) in
          omega (arith, below p m.place (omega arith), byte_at_last o b [])

  -- a byte that is not larger, and does not end the window, is only counted
  pub tracks_hold : 1 ≤ s.count → b ≤ s.value → suc s.count < s.place + s.window
      → Tracks (hold s) (o ++ (b ∷ []))
  tracks_hold h g k =
      let longer = length-append o (b ∷ []) in
      record {
        positive = t.positive;
        counts = omega arith;
        within = omega arith;
        live = omega arith;
        begun = omega arith;
        at = omega (arith, byte_at_front o (b ∷ []) s.place (omega arith));
        most = λ q l. bounded o b [] s.value t.most g q (omega arith);
        before = λ q l r. omega (arith, t.before q l r, byte_at_front o (b ∷ []) q (omega arith));
        none = none_more refuted;
      }
    where
      refuted : (p : ℕ) → p + s.window ≡ suc (length o) → MaximumPoint s.window (o ++ (b ∷ [])) p → ⊥
      refuted p e m =
          let largest = m.not_smaller s.place (omega arith) (omega arith) in
          let same = byte_at_front o (b ∷ []) p (omega arith) in
          let same' = byte_at_front o (b ∷ []) s.place (omega arith) in
          omega (arith, t.before p m.place (omega arith))

  -- a byte that is not larger and ends the window makes the largest the first maximum point
  pub tracks_cut : 1 ≤ s.count → b ≤ s.value → s.place + s.window ≤ suc s.count → (bs : List ℕ)
      → FirstMaximumPoint s.window (o ++ b ∷ bs) s.place
  tracks_cut h g k bs =
      let longer = length-append o (b ∷ bs) in
      let here = byte_at_front o (b ∷ bs) s.place (omega arith) in
      record {
        maximum = record {
          place = omega arith;
          window = omega arith;
          larger = λ q l r. omega (arith, t.before q l r, byte_at_front o (b ∷ bs) q (omega arith));
          not_smaller = λ q l r. omega (arith, bounded o b bs s.value t.most g q (omega arith));
        };
        first = λ q l m. t.none q (maximum_front s.window o (b ∷ bs) q (omega arith) m);
      }

  -- .. and the scanner's place and value are the peak of the chunk that it ends
  pub tracks_peak : 1 ≤ s.count → s.place + s.window ≤ suc s.count
      → record { place = s.place; value = s.value } ≡ peak_of s.window (o ++ (b ∷ []))
  unfolding peak_of
  tracks_peak h k =
      let place : length (o ++ (b ∷ [])) - s.window ≡ s.place = omega (arith, length-append o (b ∷ [])) in
      let byte = byte_at_front o (b ∷ []) s.place (omega arith) ∙ t.at in
      rw (place, byte)

  -- the scanner after each of the moves fits the bytes since the last cut
  tracks_moved : {m : Move} → Moved s b m → Tracks (moved m s b) (kept m (o ++ (b ∷ [])))
  tracks_moved (starts h) = tracks_rise (λ q l r. omega arith)
  tracks_moved (rises h) = tracks_rise (λ q l r. omega (arith, t.most q r))
  tracks_moved (holds h g k) = tracks_hold h g k
  tracks_moved (cuts h g k) = tracks_fresh s.window t.positive

  pub tracks_next : Tracks (next s b) (kept (move s b) (o ++ (b ∷ [])))
  unfolding next
  tracks_next = tracks_moved (facts s b)

-- so does the scanner after bytes
pub tracks_after : (s : Scanner) (o xs : List ℕ) → Tracks s o → Tracks (after s xs) (remaining s o xs)
unfolding after remaining
tracks_after s o [] t = t
tracks_after s o (b ∷ bs) t = tracks_after (next s b) (kept (move s b) (o ++ (b ∷ []))) bs (tracks_next s o b t)
