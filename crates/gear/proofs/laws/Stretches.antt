-- The sum of a stretch of bytes, byte by byte, and of two that follow each other.
use Rattle.std.proofs.Common.{◌≡◌, ℕ, suc, ◌+◌, ◌-◌, ◌*◌, ◌%◌, ◌^◌, ◌<◌, ◌≤◌, List, [], ◌∷◌, ◌++◌, length, get_or, take, drop, sym, ap, ◌∙◌, arith, length-drop, length-take, get_or-drop, take-suc, drop-drop, take-add}
use Rattle.gear.specs.Gear.{table, sum_from, sum}
use Rattle.gear.proofs.laws.Sums.{sum_append, sum_last, sum_one_more}

-- the bytes from one place to another
abbrev stretch : List ℕ → ℕ → ℕ → List ℕ
stretch bytes from to = take (to - from) (drop from bytes)

-- `s` is the sum of the bytes from `from` to `to`
pub record Summed (bytes : List ℕ) (from to s : ℕ) : Type 0 where
  pub order : from ≤ to
  pub gives : s ≡ sum (stretch bytes from to)

pub summed_none : (bytes : List ℕ) (from to : ℕ) → to ≡ from → Summed bytes from to 0
unfolding sum_from
summed_none bytes from to e =
    let n : to - from ≡ 0 = omega arith in
    record { order = omega arith; gives = rw n }

pub summed_more : {bytes : List ℕ} {from to s : ℕ} → Summed bytes from to s → (next r : ℕ) → next ≡ to + 1 → to < length bytes
    → r ≡ (s * 2 + get_or table (get_or bytes to 0) 0) % 2 ^ 32 → Summed bytes from next r
summed_more {bytes} {from} {to} {s} h next r e l q = record {
  order = omega (arith, h.order);
  gives = q ∙ rw h.gives (sym (ap sum longer ∙ sum_one_more (stretch bytes from to) (get_or bytes to 0)));
}
  where
    longer : stretch bytes from next ≡ stretch bytes from to ++ (get_or bytes to 0 ∷ [])
    longer =
        let n : next - from ≡ suc (to - from) = omega (arith, h.order) in
        let k : from + (to - from) ≡ to = omega (arith, h.order) in
        let m : to - from < length (drop from bytes) = rw (length-drop from bytes) (omega (arith, h.order)) in
        rw (n, take-suc (drop from bytes) (to - from) 0 m, get_or-drop from bytes (to - from) 0, k)

pub summed_all : {bytes : List ℕ} {from to s : ℕ} → Summed bytes from to s → (n : ℕ) → to - from ≡ n → s ≡ sum (take n (drop from bytes))
summed_all h n e = rw e at h.gives

-- eight more bytes
pub summed_joined : {bytes : List ℕ} {from to start end s t : ℕ} → Summed bytes from to s → Summed bytes start end t → (r : ℕ)
    → to ≡ start → end ≡ start + 8 → end ≤ length bytes → r ≡ (s * 2 ^ 8 + t) % 2 ^ 32 → Summed bytes from end r
summed_joined {bytes} {from} {to} {start} {end} {s} {t} h k r e w l q = record {
  order = omega (arith, h.order);
  gives = q ∙ rw (h.gives, k.gives) (sym (ap sum both ∙ sum_append (stretch bytes from to) (stretch bytes start end) ∙ rw size));
}
  where
    size : length (stretch bytes start end) ≡ 8
    size = simp (length-take, length-drop) (omega arith)

    both : stretch bytes from end ≡ stretch bytes from to ++ stretch bytes start end
    both =
        let n : end - from ≡ to - from + (end - start) = omega (arith, h.order) in
        let m : from + (to - from) ≡ start = omega (arith, h.order) in
        rw (n, take-add (to - from) (end - start) (drop from bytes), drop-drop (to - from) from bytes, m)

-- of the bytes before a place, no others show than the last 32
pub last_32_show : (bytes : List ℕ) (end : ℕ) → 32 ≤ end → end ≤ length bytes
    → sum (take 32 (drop (end - 32) bytes)) ≡ sum (take end bytes)
last_32_show bytes end h l =
    let n : end ≡ end - 32 + 32 = omega arith in
    let m : length (take 32 (drop (end - 32) bytes)) ≡ 32 = simp (length-take, length-drop) (omega arith) in
    sym (ap (λ i. sum (take i bytes)) n ∙ ap sum (take-add (end - 32) 32 bytes) ∙ sum_last (take (end - 32) bytes) _ m)
