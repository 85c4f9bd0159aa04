-- Laws of the places at which chunks end, and of the lengths of chunks that cuts end.
use Prim.Native.Nat.{ℕ, ◌+◌, ◌-◌, ◌≤◌, ◌<◌}
use native.Mathlib.Nat.{add_assoc}
use native.Mathlib.Omega.{arith}
use mathlib.Core.Path.{◌≡◌, refl, ap, ap₂}
use mathlib.Core.Bool.{Bool, true, false, cond}
use mathlib.Core.List.{List, [], ◌∷◌, ◌++◌, map}
use lib.Dec.{leb}
use lib.ListN.{length, length-append}
use borrow.Author.Tests.{le-leb, lt-leb}
use Rattle.scan.specs.declared.Scanner.{Scanner}
use Rattle.scan.specs.Move.{Move, Rise, Hold, Cut, move, next}
use Rattle.chunker.specs.Chunks.{kept, ended, cut_chunks, remaining, ends, filter, total}

-- a move keeps the bytes since the last cut, or ends the chunk of them
total_ended : (m : Move) (c : List ℕ) (cs : List (List ℕ))
    → total (ended m c ++ cs) + length (kept m c) ≡ length c + total cs
total_ended Rise c cs = omega arith
total_ended Hold c cs = omega arith
total_ended Cut c cs = omega arith

-- the bytes in the chunks that cuts end and the bytes that remain are all the bytes
pub total_cut : (s : Scanner) (since x : List ℕ)
    → total (cut_chunks s since x) + length (remaining s since x) ≡ length since + length x
unfolding cut_chunks remaining
total_cut s since [] = omega arith
total_cut s since (b ∷ x) =
    let c = since ++ (b ∷ []) in
    let later = total_cut (next s b) (kept (move s b) c) x in
    omega (arith, total_ended (move s b) c (cut_chunks (next s b) (kept (move s b) c) x), length-append since (b ∷ []))

-- none of the chunks is empty
abbrev pub NoneEmpty : List (List ℕ) → Type 0
NoneEmpty [] = Unit {0}
NoneEmpty (c ∷ cs) = (1 ≤ length c) × NoneEmpty cs

-- a move adds no empty chunk
none_empty_ended : (m : Move) (c : List ℕ) (cs : List (List ℕ)) → 1 ≤ length c → NoneEmpty cs
    → NoneEmpty (ended m c ++ cs)
none_empty_ended Rise c cs h g = g
none_empty_ended Hold c cs h g = g
none_empty_ended Cut c cs h g = (h, g)

-- a chunk that a cut ends has at least the byte that ends it
pub cut_none_empty : (s : Scanner) (since x : List ℕ) → NoneEmpty (cut_chunks s since x)
unfolding cut_chunks
cut_none_empty s since [] = tt
cut_none_empty s since (b ∷ x) =
    none_empty_ended (move s b) (since ++ (b ∷ [])) _ (omega (arith, length-append since (b ∷ [])))
    (cut_none_empty (next s b) (kept (move s b) (since ++ (b ∷ []))) x)

-- the ends of chunks that follow others are counted from the end of those
pub ends_append : (n : ℕ) (cs ds : List (List ℕ)) → ends n (cs ++ ds) ≡ ends n cs ++ ends (n + total cs) ds
ends_append n [] ds = ap (λ m. ends m ds) (omega arith)
ends_append n (c ∷ cs) ds = rw (ends_append (n + length c) cs ds, add_assoc)

-- the ends of chunks that follow one another from place i = a + n + m, less a, are those from place m, and n
pub ends_from : (a n m i : ℕ) → i ≡ a + (n + m) → (cs : List (List ℕ))
    → map (λ p. p - a) (ends i cs) ≡ map (λ p. n + p) (ends m cs)
ends_from a n m i h [] = refl
ends_from a n m i h (c ∷ cs) =
    ap₂ ◌∷◌ (omega arith) (ends_from a n (m + length c) (i + length c) (omega arith) cs)

-- a test passes the members of each of two lists
pub filter_append : (test : ℕ → Bool) (ps qs : List ℕ) → filter test (ps ++ qs) ≡ filter test ps ++ filter test qs
filter_append test [] qs = refl
filter_append test (p ∷ ps) qs = rw (filter_append test ps qs) (step (test p))
  where
    step : (t : Bool) → cond t (p ∷ (filter test ps ++ filter test qs)) (filter test ps ++ filter test qs)
        ≡ cond t (p ∷ filter test ps) (filter test ps) ++ filter test qs
    step true = refl
    step false = refl

-- each end is at least the start
pub filter_from : (k n : ℕ) → k ≤ n → (cs : List (List ℕ)) → filter (leb k) (ends n cs) ≡ ends n cs
filter_from k n h [] = refl
filter_from k n h (c ∷ cs) = rw (le-leb k (n + length c) (omega arith), filter_from k (n + length c) (omega arith) cs)

-- each end is at most the last
pub filter_to : (k n : ℕ) (cs : List (List ℕ)) → n + total cs ≤ k → filter (λ p. leb p k) (ends n cs) ≡ ends n cs
filter_to k n [] h = refl
filter_to k n (c ∷ cs) h = rw (le-leb (n + length c) k (omega arith), filter_to k (n + length c) cs (omega arith))

-- of the ends of chunks none of which is empty, only the last is as large as itself
pub filter_last : (k n : ℕ) (cs : List (List ℕ)) → NoneEmpty cs → n < k → n + total cs ≡ k
    → filter (leb k) (ends n cs) ≡ k ∷ []
filter_last k n [] h l e = absurd (omega arith)
filter_last k n (c ∷ []) h l e = rw (le-leb k (n + length c) (omega arith)) (ap (λ p. p ∷ []) (omega arith))
filter_last k n (c ∷ d ∷ cs) h l e =
    rw (lt-leb k (n + length c) (omega arith)) (filter_last k (n + length c) (d ∷ cs) h.1 (omega arith) (omega arith))
