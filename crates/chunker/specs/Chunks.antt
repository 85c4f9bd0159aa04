-- The chunks of a job, computed byte by byte with the scanner's own moves.
use Rattle.std.specs.Prelude.{ℕ, zero, suc, ◌+◌, ◌-◌, Bool, cond, List, [], ◌∷◌, ◌++◌, map, leb, length}
use Rattle.scan.specs.declared.Scanner.{Scanner}
use Rattle.scan.specs.Scanner.{fresh}
use Rattle.scan.specs.Move.{Move, Rise, Hold, Cut, move, next}

-- the bytes since the last cut, after a move
abbrev pub kept : Move → List ℕ → List ℕ
kept Rise bytes = bytes
kept Hold bytes = bytes
kept Cut bytes = []

-- the chunk that a move ends, if it ends one
abbrev pub ended : Move → List ℕ → List (List ℕ)
ended Rise bytes = []
ended Hold bytes = []
ended Cut bytes = bytes ∷ []

-- the scanner after bytes
unfoldable pub after : Scanner → List ℕ → Scanner
after s [] = s
after s (b ∷ bs) = after (next s b) bs

-- the chunks that cuts end on the way, where `since` are the bytes since the last cut
unfoldable pub cut_chunks : Scanner → List ℕ → List ℕ → List (List ℕ)
cut_chunks s since [] = []
cut_chunks s since (b ∷ bs) =
    ended (move s b) (since ++ (b ∷ [])) ++ cut_chunks (next s b) (kept (move s b) (since ++ (b ∷ []))) bs

-- the bytes that no cut has ended
unfoldable pub remaining : Scanner → List ℕ → List ℕ → List ℕ
remaining s since [] = since
remaining s since (b ∷ bs) = remaining (next s b) (kept (move s b) (since ++ (b ∷ []))) bs

-- "What remains at the end of the job, if anything, is the last piece"
abbrev pub last_chunk : List ℕ → List (List ℕ)
last_chunk [] = []
last_chunk (b ∷ bs) = (b ∷ bs) ∷ []

-- the chunks of a job in order
unfoldable pub chunks : ℕ → List ℕ → List (List ℕ)
chunks w job = cut_chunks (fresh w) [] job ++ last_chunk (remaining (fresh w) [] job)

-- the bytes of chunks
abbrev pub total : List (List ℕ) → ℕ
total [] = 0
total (c ∷ cs) = length c + total cs

-- the places at which chunks end that follow one another from place n on
abbrev pub ends : ℕ → List (List ℕ) → List ℕ
ends n [] = []
ends n (c ∷ cs) = (n + length c) ∷ ends (n + length c) cs

-- "a cut's place is that of the byte that ends the piece", counted from 1 in the job; the job's end is no cut by itself
unfoldable pub cuts : ℕ → List ℕ → List ℕ
cuts w job = ends 0 (cut_chunks (fresh w) [] job)

-- the members of a list of places that pass a test
abbrev pub filter : (ℕ → Bool) → List ℕ → List ℕ
filter test [] = []
filter test (p ∷ ps) = cond (test p) (p ∷ filter test ps) (filter test ps)

-- the cuts of the job x ++ e from place n of its ending e on, counted from 1 in e
unfoldable pub ending_cuts : ℕ → List ℕ → List ℕ → ℕ → List ℕ
ending_cuts w x e n = map (λ p. p - length x) (filter (leb (length x + n)) (cuts w (x ++ e)))

-- the cuts of a job up to its place n
unfoldable pub cuts_within : ℕ → List ℕ → ℕ → List ℕ
cuts_within w job n = filter (λ p. leb p n) (cuts w job)

-- of chunks that follow one another from a job's start, those that start after its place n
abbrev pub starting_after : ℕ → List (List ℕ) → List (List ℕ)
starting_after n [] = []
starting_after zero (c ∷ cs) = c ∷ cs
starting_after (suc n) (c ∷ cs) = starting_after (suc n - length c) cs
