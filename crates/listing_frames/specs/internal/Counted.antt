-- The frames of chunks by a count of the new ones, which is the number that the next new chunk gets.
use Rattle.std.specs.Prelude.{ℕ, ◌+◌, cond, List, [], ◌∷◌, ◌++◌, eqb, length}
use Rattle.frame_text.specs.Frame.{frame}

-- 1 where a chunk is new
abbrev pub mark : ℕ → ℕ → ℕ
mark number next = cond (eqb number next) 1 0

-- the frames of chunks that follow one another from a position of the job on, with their numbers
unfoldable pub counted_frames : ℕ → ℕ → List (List ℕ) → List ℕ → List ℕ
counted_frames next position [] numbers = []
counted_frames next position (c ∷ cs) [] = []
counted_frames next position (c ∷ cs) (n ∷ ns) =
    frame n position (length c) (mark n next) ++ counted_frames (next + mark n next) (position + length c) cs ns
