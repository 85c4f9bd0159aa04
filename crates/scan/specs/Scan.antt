-- What a part does to a scanner that is not refused.
use Rattle.std.specs.Prelude.{ℕ, suc, true, false, List, [], ◌∷◌, None}
use Rattle.scan.specs.declared.Scanner.{Scanner}
use Rattle.scan.specs.declared.Fed.{Fed}
use Rattle.scan.specs.declared.FirstChunk.{FirstChunk}
use Rattle.scan.specs.Scanner.{fresh}
use Rattle.scan.specs.Move.{Move, Rise, Hold, Cut, move, next}

-- the answer to a part of which n bytes were consumed with no cut: "without a cut both are 0"
abbrev pub uncut : Scanner → ℕ → Fed
uncut s n = record { refusal = None; scanner = s; consumed = n; cut = false; place = 0; value = 0 }

-- the answer to a part of which n bytes were consumed up to a cut: "Each cut now reports the place and value of its maximum
-- point"; "After a cut, count, place and value are 0"
abbrev pub cut_after : ℕ → ℕ → ℕ → ℕ → Fed
cut_after w n place value =
    record { refusal = None; scanner = fresh w; consumed = n; cut = true; place = place; value = value }

-- a part's bytes up to a cut, or all of them
abbrev pub stop_at_cut : Move → Fed → Fed → Fed
stop_at_cut Rise cut on = on
stop_at_cut Hold cut on = on
stop_at_cut Cut cut on = cut

-- "A fed part is consumed up to and including the byte that ends a piece, or whole"; n bytes of it are consumed already. The
-- byte that ends a piece is not its maximum point: that is the largest byte before it
unfoldable pub scan : Scanner → ℕ → List ℕ → Fed
scan s n [] = uncut s n
scan s n (b ∷ bs) =
    let on = scan (next s b) (suc n) bs in
    stop_at_cut (move s b) (cut_after s.window (suc n) s.place s.value) on

-- what an answer to a whole job says of its first chunk
abbrev pub first_chunk : Fed → FirstChunk
first_chunk f = record { length = f.consumed; cut = f.cut; place = f.place; value = f.value }
