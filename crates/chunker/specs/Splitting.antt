-- A job that arrives in parts: what a caller of open, feed and finish gets.
use Rattle.std.specs.Prelude.{ℕ, ◌≡◌, true, false, List, [], ◌∷◌, ◌++◌, length, take, drop, None}
use Rattle.scan.specs.declared.Scanner.{Scanner}
use Rattle.chunker.specs.Answers.{fed, finished}
use Rattle.chunker.specs.Chunks.{last_chunk}
use Rattle.chunker.specs.Peaks.{Peak, told_peak}

-- the parts laid end to end
abbrev pub joined : List (List ℕ) → List ℕ
joined [] = []
joined (part ∷ parts) = part ++ joined parts

-- From the scanner s, with `since` the bytes since the last cut, feeding the parts in order gives the chunks cs and tells the
-- peaks ps: after a cut the rest of the part is fed again; at the end finishing tells the length of the last chunk. Nothing is
-- refused on the way
pub data Feeding : Scanner → List ℕ → List (List ℕ) → List (List ℕ) → List Peak → Type 0 where
  cutting : {s : Scanner} {since part : List ℕ} {parts cs : List (List ℕ)} {ps : List Peak} → (fed s part).refusal ≡ None
      → (fed s part).cut ≡ true
      → Feeding (fed s part).scanner [] (drop (fed s part).consumed part ∷ parts) cs ps
      → Feeding s since (part ∷ parts) ((since ++ take (fed s part).consumed part) ∷ cs) (told_peak (fed s part) ∷ ps)
  passing : {s : Scanner} {since part : List ℕ} {parts cs : List (List ℕ)} {ps : List Peak} → (fed s part).refusal ≡ None
      → (fed s part).cut ≡ false → (fed s part).consumed ≡ length part
      → Feeding (fed s part).scanner (since ++ part) parts cs ps → Feeding s since (part ∷ parts) cs ps
  finishing : {s : Scanner} {since : List ℕ} → (finished s).refusal ≡ None → (finished s).count ≡ length since
      → Feeding s since [] (last_chunk since) []
