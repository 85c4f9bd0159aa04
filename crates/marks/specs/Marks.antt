-- What the places of a recipe say while a quote is under way: each tells what its chunk is, so that a chunk which comes
-- again in the job is found though nothing of the job is stored.
use Rattle.std.specs.Prelude.{ℕ, suc, ◌+◌, ◌*◌, ◌-◌, ◌/◌, ◌%◌, ◌^◌, Bool, false, cond, ◌||◌, List, [], ◌∷◌, ◌++◌, eqb, ltb, length, get_or, take, drop}
use Rattle.gear.specs.Gear.{sum}
use Rattle.store.specs.Contents.{number, has}

-- a mark has the chunk's length below this, which no chunk reaches, and above it a code that says what the chunk is
abbrev pub mark_base : ℕ
mark_base = 16386

abbrev pub mark_of : ℕ → ℕ → ℕ
mark_of code size = code * mark_base + size

abbrev pub code_of : ℕ → ℕ
code_of m = m / mark_base

abbrev pub size_of : ℕ → ℕ
size_of m = m % mark_base

-- the code of a chunk that the store holds is its number, which is below this
abbrev pub repeat_base : ℕ
repeat_base = 65536

-- the code of a chunk that an earlier place of the job has names that place
abbrev pub repeat_code : ℕ → ℕ
repeat_code place = repeat_base + place

-- the codes of first appearances are not below this
abbrev pub first_base : ℕ
first_base = 131072

-- no place of a recipe is as large
abbrev pub no_place : ℕ
no_place = 65535

-- the code of a first appearance names the last place before it at which a chunk of its chain appears first, or none
abbrev pub first_code : ℕ → ℕ
first_code place = first_base + place

-- the chains of a job's own new chunks; as the job is not stored, they are apart from the index's, and finer
abbrev pub own_chains : ℕ
own_chains = 4096

-- chosen by the Gear sum's top twelve bits
unfoldable pub own_chain : List ℕ → ℕ
own_chain bs = sum bs / 2 ^ 20

-- of a job's chunks, those that appear for the first time, each at its place; at other places nothing
unfoldable pub appearing : List (List ℕ) → List (List ℕ) → List (List ℕ) → List (List ℕ)
appearing held earlier [] = []
appearing held earlier (c ∷ cs) =
    cond (has held c || has earlier c) [] c ∷ appearing held (earlier ++ (c ∷ [])) cs

-- a chunk is there, and is of a chain
unfoldable pub of_chain : ℕ → List ℕ → Bool
of_chain c [] = false
of_chain c (b ∷ bs) = eqb (own_chain (b ∷ bs)) c

-- the last of chunks in a row that is of a chain, by its place, counted from `at` on; `before` where there is none
unfoldable pub last_from : ℕ → ℕ → ℕ → List (List ℕ) → ℕ
last_from c at before [] = before
last_from c at before (f ∷ fs) = last_from c (suc at) (cond (of_chain c f) at before) fs

abbrev pub last_of : ℕ → List (List ℕ) → ℕ
last_of c fs = last_from c 0 no_place fs

-- the code of a chunk, where `held` are the chunks of the store and `earlier` those of the job before it
unfoldable pub code_in : List (List ℕ) → List (List ℕ) → List ℕ → ℕ
code_in held earlier c =
    cond (has held c) (number held c)
    (cond (has earlier c) (repeat_code (number earlier c)) (first_code (last_of (own_chain c) (appearing held [] earlier))))

-- its mark
abbrev pub mark : List (List ℕ) → List (List ℕ) → List ℕ → ℕ
mark held earlier c = mark_of (code_in held earlier c) (length c)

-- the marks of chunks in a row
unfoldable pub marks : List (List ℕ) → List (List ℕ) → List (List ℕ) → List ℕ
marks held earlier [] = []
marks held earlier (c ∷ cs) = mark held earlier c ∷ marks held (earlier ++ (c ∷ [])) cs

-- the bytes of the chunks of marks in a row: where the chunk of the next place starts in the job
unfoldable pub sizes : List ℕ → ℕ
sizes [] = 0
sizes (m ∷ ms) = size_of m + sizes ms

-- the chunk at a position of the job that a mark says appears for the first time; empty where it says another thing
unfoldable pub first_at : List ℕ → ℕ → ℕ → List ℕ
first_at job at m = cond (ltb (code_of m) first_base) [] (take (size_of m) (drop at job))

-- those of marks in a row, the first of which stands for the chunk at a position
unfoldable pub firsts : List ℕ → ℕ → List ℕ → List (List ℕ)
firsts job at [] = []
firsts job at (m ∷ ms) = first_at job at m ∷ firsts job (at + size_of m) ms

-- those alone
unfoldable pub new_chunks : List ℕ → ℕ → List ℕ → List (List ℕ)
new_chunks job at [] = []
new_chunks job at (m ∷ ms) =
    let later = new_chunks job (at + size_of m) ms in
    cond (ltb (code_of m) first_base) later (take (size_of m) (drop at job) ∷ later)

-- the number that a mark stands for, where `done` are the numbers of the places before it and the next new chunk gets
-- the number `next`
abbrev pub settled_mark : ℕ → List ℕ → ℕ → ℕ
settled_mark next done m =
    cond (ltb (code_of m) repeat_base) (code_of m)
    (cond (ltb (code_of m) first_base) (get_or done (code_of m - repeat_base) 0) next)

-- the numbers that marks in a row stand for
unfoldable pub settled : ℕ → List ℕ → List ℕ → List ℕ
settled next done [] = []
settled next done (m ∷ ms) =
    settled_mark next done m
    ∷ settled (cond (ltb (code_of m) first_base) next (next + 1)) (done ++ (settled_mark next done m ∷ [])) ms
