-- Two jobs with the same beginning are cut alike up to its end.
use Prim.Native.Nat.{ℕ, ◌+◌, ◌≤◌, ◌<◌}
use native.Mathlib.Omega.{arith}
use mathlib.Core.Path.{◌≡◌, refl, sym, ◌∙◌}
use mathlib.Core.List.{List, [], ◌∷◌, ◌++◌, append-nil}
use lib.Dec.{leb}
use lib.ListN.{length, length-append}
use borrow.Author.Tests.{lt-leb}
use Rattle.scan.specs.declared.Scanner.{Scanner}
use Rattle.scan.specs.Scanner.{fresh}
use Rattle.scan.specs.Move.{Move, Rise, Hold, Cut, move, next}
use Rattle.chunker.specs.Chunks.{kept, ended, after, cut_chunks, remaining, ends, cuts, filter, cuts_within, total}
use Rattle.chunker.proofs.laws.Appending.{cut_chunks_append}
use Rattle.chunker.proofs.laws.CutPlaces.{total_cut, ends_append, filter_append, filter_to}

-- of the ends of chunks none is at most k
abbrev Beyond : ℕ → ℕ → List (List ℕ) → Type 0
Beyond k n cs = filter (λ p. leb p k) (ends n cs) ≡ []

-- a chunk that a move ends after the place k does not count
beyond_ended : (k : ℕ) (m : Move) (n : ℕ) (since : List ℕ) (cs : List (List ℕ)) → k < n + length since
    → ((n' : ℕ) → k ≤ n' + length (kept m since) → Beyond k n' cs) → Beyond k n (ended m since ++ cs)
beyond_ended k Rise n since cs h ih = ih n (omega arith)
beyond_ended k Hold n since cs h ih = ih n (omega arith)
beyond_ended k Cut n since cs h ih = rw (lt-leb (n + length since) k h) (ih (n + length since) (omega arith))

-- bytes that come after the place k end no chunk at or before it
beyond : (k n : ℕ) (s : Scanner) (since x : List ℕ) → k ≤ n + length since → Beyond k n (cut_chunks s since x)
unfolding cut_chunks
beyond k n s since [] h = refl
beyond k n s since (b ∷ x) h =
    beyond_ended k (move s b) n (since ++ (b ∷ [])) _ (omega (arith, length-append since (b ∷ [])))
    (λ n' g. beyond k n' (next s b) (kept (move s b) (since ++ (b ∷ []))) x g)

-- the chunks that cuts end in a beginning are the first of the whole job
pub beginning_chunks : (w : ℕ) (b x : List ℕ)
    → (rest : List (List ℕ)) × (cut_chunks (fresh w) [] (b ++ x) ≡ cut_chunks (fresh w) [] b ++ rest)
beginning_chunks w b x = (_, cut_chunks_append (fresh w) [] b x)

-- up to the end of a beginning, the cuts are the beginning's own
pub beginning_cuts : (w : ℕ) (b x : List ℕ) → cuts_within w (b ++ x) (length b) ≡ cuts w b
unfolding cuts_within cuts
beginning_cuts w b x =
    let cs = cut_chunks (fresh w) [] b in
    let s = after (fresh w) b in
    let since = remaining (fresh w) [] b in
    let all = total_cut (fresh w) [] b in
    rw (
      cut_chunks_append (fresh w) [] b x,
      ends_append 0 cs (cut_chunks s since x),
      filter_append (λ p. leb p (length b)) (ends 0 cs) (ends (0 + total cs) (cut_chunks s since x)),
      filter_to (length b) 0 cs (omega arith),
      beyond (length b) (0 + total cs) s since x (omega arith),
    )
    (append-nil (ends 0 cs))

-- two jobs with the same beginning have the same cuts in it
pub same_beginning : (w : ℕ) (b x y : List ℕ) → cuts_within w (b ++ x) (length b) ≡ cuts_within w (b ++ y) (length b)
same_beginning w b x y = beginning_cuts w b x ∙ sym (beginning_cuts w b y)
