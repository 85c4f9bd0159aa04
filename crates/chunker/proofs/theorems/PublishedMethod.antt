-- The chunks computed byte by byte are those of the published method, which divides a job in one way only.
use Prim.Native.Nat.{ℕ, ◌+◌, ◌≤◌}
use native.Mathlib.Omega.{arith}
use native.Mathlib.Decide.{dec_lt}
use mathlib.Core.Path.{◌≡◌, refl, sym, ◌∙◌, ap₂}
use mathlib.Core.List.{List, [], ◌∷◌, ◌++◌, append-nil}
use lib.ListN.{length, length-append, drop}
use lib.Seq.{append_snoc, take_at, drop_at}
use Rattle.scan.specs.declared.Scanner.{Scanner}
use Rattle.scan.specs.Scanner.{fresh}
use Rattle.scan.specs.Move.{Move, moved, next}
use Rattle.chunker.specs.Chunks.{kept, ended, cut_chunks, remaining, last_chunk, chunks}
use Rattle.chunker.specs.Method.{FirstMaximumPoint, Division}
use Rattle.scan.proofs.laws.Moves.{Moved, starts, rises, holds, cuts, facts}
use Rattle.chunker.proofs.laws.Tracking.{Tracks, tracks_fresh, tracks_rise, tracks_hold, tracks_cut}

-- the chunks computed from a scanner, the bytes o since the last cut and the bytes xs to come divide o ++ xs
abbrev Divides : Scanner → List ℕ → List ℕ → Type 0
Divides s o xs = Division s.window (o ++ xs) (cut_chunks s o xs) (remaining s o xs)

module _ (s : Scanner) (o : List ℕ) (b : ℕ) (bs : List ℕ) (t : Tracks s o)
    (ih : (s' : Scanner) (o' : List ℕ) → Tracks s' o' → Divides s' o' bs) where
  -- after a byte that ends no chunk, the division is that of the bytes to come
  grown : (s' : Scanner) → Tracks s' (o ++ (b ∷ []))
      → Division s'.window (o ++ b ∷ bs) (cut_chunks s' (o ++ (b ∷ [])) bs) (remaining s' (o ++ (b ∷ [])) bs)
  grown s' u = rw (append_snoc o b bs) at (ih s' (o ++ (b ∷ [])) u)

  -- the division after each of the moves
  step : {m : Move} → Moved s b m
      → Division s.window (o ++ b ∷ bs)
      (ended m (o ++ (b ∷ [])) ++ cut_chunks (moved m s b) (kept m (o ++ (b ∷ []))) bs)
      (remaining (moved m s b) (kept m (o ++ (b ∷ []))) bs)
  step (starts h) = grown _ (tracks_rise s o b t (λ q l r. omega arith))
  step (rises h) = grown _ (tracks_rise s o b t (λ q l r. omega (arith, t.most q r)))
  step (holds h g k) = grown _ (tracks_hold s o b t h g k)
  step (cuts h g k) =
      let ends : length (o ++ (b ∷ [])) ≡ s.place + s.window = omega (arith, length-append o (b ∷ [])) in (
        s.place,
        tracks_cut s o b t h g k bs,
        rw (← append_snoc o b bs, take_at (o ++ (b ∷ [])) bs (s.place + s.window) ends),
        rw (← append_snoc o b bs, drop_at (o ++ (b ∷ [])) bs (s.place + s.window) ends)
            (ih (fresh s.window) [] (tracks_fresh s.window t.positive)),
      )

-- the division of the bytes since the last cut followed by the bytes to come
divides_from : (xs : List ℕ) (s : Scanner) (o : List ℕ) → Tracks s o → Divides s o xs
unfolding cut_chunks remaining next
divides_from [] s o t = rw (append-nil o) (refl, t.none)
divides_from (b ∷ bs) s o t = step s o b bs t (divides_from bs) (facts s b)

-- the chunks computed are a division of the job
pub divides : (w : ℕ) → 1 ≤ w → (job : List ℕ) → Division w job (cut_chunks (fresh w) [] job) (remaining (fresh w) [] job)
divides w h job = divides_from job (fresh w) [] (tracks_fresh w h)

-- there is one first maximum point
pub first_unique : (w : ℕ) (xs : List ℕ) (p q : ℕ) → FirstMaximumPoint w xs p → FirstMaximumPoint w xs q → p ≡ q
first_unique w xs p q f g =
    elim (dec_lt p q) [
      | yes l ↦ absurd (g.first p l f.maximum)
      | no l ↦ elim (dec_lt q p) [ yes r ↦ absurd (f.first q r g.maximum) | no r ↦ omega arith ]
    ]

-- a job is divided in one way only
pub unique : (w : ℕ) (job : List ℕ) (cs cs' : List (List ℕ)) (rest rest' : List ℕ) → Division w job cs rest
    → Division w job cs' rest' → (cs ≡ cs') × (rest ≡ rest')
unique w job [] [] rest rest' d d' = (refl, sym d.0 ∙ d'.0)
unique w job [] (c' ∷ cs') rest rest' d d' = absurd (d.1 d'.0 d'.1.maximum)
unique w job (c ∷ cs) [] rest rest' d d' = absurd (d'.1 d.0 d.1.maximum)
unique w job (c ∷ cs) (c' ∷ cs') rest rest' d d' =
    let e = first_unique w job d'.0 d.0 d'.1 d.1 in
    let tail = unique w (drop (d.0 + w) job) cs cs' rest rest' d.3 (rw e at d'.3) in
    (ap₂ ◌∷◌ (d.2 ∙ sym (rw e at d'.2)) tail.0, tail.1)

-- a division of a job is the one computed
pub same_as_published : (w : ℕ) → 1 ≤ w → (job : List ℕ) (cs : List (List ℕ)) (rest : List ℕ) → Division w job cs rest
    → (cs ≡ cut_chunks (fresh w) [] job) × (rest ≡ remaining (fresh w) [] job)
same_as_published w h job cs rest d = unique w job cs _ rest _ d (divides w h job)

-- the chunks of a job are those of its division, then what remains
pub chunks_published : (w : ℕ) → 1 ≤ w → (job : List ℕ) (cs : List (List ℕ)) (rest : List ℕ) → Division w job cs rest
    → chunks w job ≡ cs ++ last_chunk rest
unfolding chunks
chunks_published w h job cs rest d =
    let same = same_as_published w h job cs rest d in
    rw (same.0, same.1)
