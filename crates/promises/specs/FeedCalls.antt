-- A job that a C program feeds in parts: calls of hirunvel_scanner_feed, and of hirunvel_scanner_finish at the end.
use Rattle.std.specs.Prelude.{ℕ, ◌≡◌, List, [], ◌∷◌, ◌++◌, length, take, drop}
use Rattle.chunker.specs.Chunks.{last_chunk}
use Rattle.chunker.specs.Peaks.{Peak}
use Rattle.hirunvel.specs.Scanning.{scanner_fed, scanner_finished}

-- From the scanner's numbers n, with `since` the bytes since the last cut, calls for the parts in order give the chunks cs and
-- tell the peaks ps: after a cut the rest of the part is fed again; at the end finishing tells the length of the last chunk.
-- Every call returns 0, and gets the numbers that the one before it wrote
pub data FeedCalls : List ℕ → List ℕ → List (List ℕ) → List (List ℕ) → List Peak → Type 0 where
  cutting : {n since part : List ℕ} {parts cs : List (List ℕ)} {ps : List Peak} {consumed : ℕ} {p : Peak}
      → (scanner_fed n part).refusal ≡ 0 → (scanner_fed n part).fed ≡ consumed ∷ 1 ∷ p.place ∷ p.value ∷ []
      → FeedCalls (scanner_fed n part).scanner [] (drop consumed part ∷ parts) cs ps
      → FeedCalls n since (part ∷ parts) ((since ++ take consumed part) ∷ cs) (p ∷ ps)
  passing : {n since part : List ℕ} {parts cs : List (List ℕ)} {ps : List Peak} → (scanner_fed n part).refusal ≡ 0
      → (scanner_fed n part).fed ≡ length part ∷ 0 ∷ 0 ∷ 0 ∷ []
      → FeedCalls (scanner_fed n part).scanner (since ++ part) parts cs ps → FeedCalls n since (part ∷ parts) cs ps
  finishing : {n since : List ℕ} → (scanner_finished n).refusal ≡ 0 → (scanner_finished n).count ≡ length since
      → FeedCalls n since [] (last_chunk since) []
