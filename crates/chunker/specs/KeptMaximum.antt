-- The place from which two jobs with the same ending are cut alike.
use Rattle.std.specs.Prelude.{ℕ, ◌+◌, ◌≤◌, ◌<◌, ◌≡◌, List, ◌∷◌, ◌++◌, length}
use Rattle.chunker.specs.Chunks.{chunks, ending_cuts, starting_after}
use Rattle.chunker.specs.Method.{byte_at}

-- "any place k of the kept ending whose byte is larger than each of the w kept bytes before it and no smaller than each of
-- the w after it", "with w < k and k + w at most the ending's length"
pub record KeptMaximum (w : ℕ) (e : List ℕ) (k : ℕ) : Type 0 where
  pub before : w < k
  pub after : k + w ≤ length e
  pub larger : (q : ℕ) → k ≤ q + w → q < k → byte_at e q < byte_at e k
  pub not_smaller : (q : ℕ) → k < q → q ≤ k + w → byte_at e q ≤ byte_at e k

-- "from place k + w of the ending on both jobs have exactly the same cuts; the pieces starting after it are" the same, of the
-- jobs x ++ e and y ++ e; a cut stands at that place
pub record LinedUp (w : ℕ) (x y e : List ℕ) (k : ℕ) : Type 0 where
  pub cut_there : (ps : List ℕ) × (ending_cuts w x e (k + w) ≡ (k + w) ∷ ps)
  pub same_cuts : ending_cuts w x e (k + w) ≡ ending_cuts w y e (k + w)
  pub same_chunks : starting_after (length x + (k + w)) (chunks w (x ++ e))
      ≡ starting_after (length y + (k + w)) (chunks w (y ++ e))
