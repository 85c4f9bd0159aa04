-- The chunks that marks say are new.
use Prim.Native.Nat.{ℕ, ◌+◌}
use native.Mathlib.Omega.{arith}
use mathlib.Core.Path.{◌≡◌, refl}
use mathlib.Core.Bool.{cond}
use mathlib.Core.List.{List, [], ◌∷◌, ◌++◌}
use lib.Dec.{ltb}
use lib.ListN.{take, drop}
use borrow.Author.Tests.{lt-ltb, le-ltb}
use Rattle.chunker.specs.Chunks.{total}
use Rattle.store.specs.Contents.{has, gain, grown, added}
use Rattle.store.proofs.laws.contents.Growth.{has_grown, grown_append}
use Rattle.store.proofs.laws.contents.Additions.{total_append}
use Rattle.marks.specs.Marks.{code_of, size_of, first_base, mark, marks, new_chunks}
use Rattle.marks.proofs.laws.Positions.{StartsAt}
use Rattle.marks.proofs.laws.Marking.{Marked, stored, repeats, appears, size_marked, Places, places_on, place_start, place_marked}

-- a chunk and those after it, by what its mark says
new_step : (job : List ℕ) (held earlier : List (List ℕ)) (c : List ℕ) (m : ℕ) → Marked held earlier c m
    → StartsAt job (total earlier) c → (later : List (List ℕ))
    → cond (ltb (code_of m) first_base) later (take (size_of m) (drop (total earlier) job) ∷ later)
    ≡ cond (has (grown held earlier) c) later (c ∷ later)
new_step job held earlier c m (stored h e l z) s later =
    rw (lt-ltb (code_of m) first_base (omega arith), has_grown held earlier c, h)
new_step job held earlier c m (repeats h k e b l z) s later =
    rw (lt-ltb (code_of m) first_base l, has_grown held earlier c, h, k)
new_step job held earlier c m (appears h k l e z) s later =
    rw (le-ltb (code_of m) first_base l, has_grown held earlier c, h, k, z, s.is)

-- they are the new ones of the job's chunks
pub new_chunks_lem : (w : ℕ) (job : List ℕ) (held earlier ds rest : List (List ℕ)) → Places w job held earlier ds rest
    → new_chunks job (total earlier) (marks held earlier ds) ≡ added (grown held earlier) ds
unfolding marks new_chunks added grown
new_chunks_lem w job held earlier [] rest p = refl
new_chunks_lem w job held earlier (d ∷ ds) rest p =
    let at : total earlier + size_of (mark held earlier d) ≡ total (earlier ++ (d ∷ [])) =
    omega (arith, total_append earlier (d ∷ []), size_marked (place_marked p)) in
    let on = rw (grown_append held earlier (d ∷ [])) at (new_chunks_lem w job held (earlier ++ (d ∷ [])) ds rest (places_on p)) in
    rw (at, on)
    (new_step job held earlier d (mark held earlier d) (place_marked p) (place_start p) (added (gain (grown held earlier) d) ds))
