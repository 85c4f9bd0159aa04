-- Laws of a window that is looked at as two overlapping blocks of n bytes, whatever n is.
use Prim.Native.Nat.{ℕ, ◌+◌, ◌-◌, ◌/◌, ◌%◌, min, max, ◌≤◌, ◌<◌}
use native.Mathlib.Omega.{arith}
use native.Mathlib.Decide.{dec_lt}
use mathlib.Core.Path.{◌≡◌, refl, subst}
use mathlib.Core.Bool.{Bool, true, false, true≢false, false≢true}
use mathlib.Core.List.{List}
use lib.ListN.{get_or}
use Rattle.blocks.specs.internal.Largest.{Exceeded, AnyLarger, FirstLargest}
use Rattle.blocks.specs.internal.Key.{key_of, key_limit}

module _ (xs : List ℕ) (a b n : ℕ) where
  -- what holds of the i-th bytes of both blocks, the first from a on and the second from b on, holds of every byte of the window
  in_window : (P : ℕ → Type 0) → b ≤ a + n → ((q : ℕ) → q < n → P (a + q) × P (b + q)) → (x : ℕ) → a ≤ x → x < b + n → P x
  in_window P overlap both x l r =
      elim (dec_lt x (a + n)) [
        | yes c ↦ let same : a + (x - a) ≡ x = omega arith in subst P same (both (x - a) (omega arith)).0
        | no c ↦ let same : b + (x - b) ≡ x = omega arith in subst P same (both (x - b) (omega arith)).1
      ]

  -- whether one of the first i bytes of the blocks is larger than v
  pub record Asked (v i : ℕ) (any : Bool) : Type 0 where
    pub some : any ≡ true → Exceeded xs a (b + n) v
    pub none : any ≡ false → (q : ℕ) → q < i → (get_or xs (a + q) 0 ≤ v) × (get_or xs (b + q) 0 ≤ v)

  pub asked_none : (v : ℕ) → Asked v 0 false
  asked_none v = record { some = λ e. absurd (false≢true e); none = λ e q l. absurd (omega arith) }

  -- one of the next two bytes is larger
  pub asked_larger : (v i : ℕ) → a ≤ b → b ≤ a + n → i < n → v < max (get_or xs (a + i) 0) (get_or xs (b + i) 0)
      → Asked v (i + 1) true
  asked_larger v i order overlap within larger =
      record {
        some = λ e.
            elim (dec_lt v (get_or xs (a + i) 0)) [
              | yes c ↦ record { index = a + i; from = omega arith; to = omega arith; larger = c }
              | no c ↦ record { index = b + i; from = omega arith; to = omega arith; larger = omega arith }
            ];
        none = λ e. absurd (true≢false e);
      }

  -- neither is
  pub asked_more : (v i : ℕ) (any : Bool) → Asked v i any → max (get_or xs (a + i) 0) (get_or xs (b + i) 0) ≤ v
      → Asked v (i + 1) any
  asked_more v i any h not_larger =
      record {
        some = h.some;
        none = λ e q l.
            elim (dec_lt q i) [
              | yes c ↦ h.none e q c
              | no c ↦
                  let same : i ≡ q = omega arith in
                  subst (λ x. (get_or xs (a + x) 0 ≤ v) × (get_or xs (b + x) 0 ≤ v)) same (omega arith, omega arith)
            ];
      }

  pub asked_all : (v i : ℕ) (any : Bool) → Asked v i any → n ≤ i → b ≤ a + n → AnyLarger xs a (b + n) v any
  asked_all v i any h whole overlap =
      record {
        some = h.some;
        none = λ e.
            record { bound = in_window (λ x. get_or xs x 0 ≤ v) overlap (λ q l. h.none e q (omega arith)) };
      }

  -- the key of a place of the window
  pub record KeyAt (key : ℕ) : Type 0 where
    pub place : ℕ
    pub within : a + place < b + n
    pub is : key ≡ key_of (get_or xs (a + place) 0) place

  -- the least key of the first i bytes of the blocks, of which the second starts `shift` bytes after the first
  pub record Least (shift i least : ℕ) : Type 0 where
    pub none : i ≡ 0 → least ≡ key_limit
    pub some : 1 ≤ i → KeyAt least
    pub low : (q : ℕ) → q < i
        → (least ≤ key_of (get_or xs (a + q) 0) q) × (least ≤ key_of (get_or xs (b + q) 0) (q + shift))

  pub least_none : (shift : ℕ) → Least shift 0 key_limit
  least_none shift =
      record { none = λ e. refl; some = λ h. absurd (omega arith); low = λ q l. absurd (omega arith) }

  -- the next two bytes are looked at too
  module _ (shift i least next : ℕ) (h : Least shift i least) (second : b ≡ a + shift) (within : i < n)
      (same : next ≡ min least (min (key_of (get_or xs (a + i) 0) i) (key_of (get_or xs (b + i) 0) (i + shift)))) where
    second_place : next ≡ key_of (get_or xs (b + i) 0) (i + shift) → KeyAt next
    second_place e =
        let there : b + i ≡ a + (i + shift) = omega arith in
        record { place = i + shift; within = omega arith; is = rw there at e }

    least_some : KeyAt next
    least_some =
        elim (dec_lt next (key_of (get_or xs (a + i) 0) i)) [
          | no c ↦ record { place = i; within = omega arith; is = omega arith }
          | yes c ↦
              elim (dec_lt next (key_of (get_or xs (b + i) 0) (i + shift))) [
                | no d ↦ second_place (omega arith)
                | yes d ↦
                    let old : least ≡ next = omega arith in
                    elim (dec_lt 0 i) [
                      | yes begun ↦ rw old at (h.some begun)
                      | no fresh ↦ let start = h.none (omega arith) in absurd (omega arith)
                    ]
              ]
        ]

    pub least_more : Least shift (i + 1) next
    least_more =
        record {
          none = λ e. absurd (omega arith);
          some = λ e. least_some;
          low = λ q l.
              elim (dec_lt q i) [
                | yes c ↦ let old = h.low q c in (omega (arith, old.0), omega (arith, old.1))
                | no c ↦
                    let here : i ≡ q = omega arith in
                    subst
                    (λ x. (next ≤ key_of (get_or xs (a + x) 0) x) × (next ≤ key_of (get_or xs (b + x) 0) (x + shift))) here
                    (omega arith, omega arith)
              ];
        }

  -- the least key is that of the first of the largest bytes
  module _ (shift i least : ℕ) (h : Least shift i least) (whole : n ≤ i) (second : b ≡ a + shift) (overlap : shift ≤ n)
      (some : 1 ≤ n) (small : n ≤ 32) (byte : (q : ℕ) → get_or xs q 0 < 256) where
    of_place : (x : ℕ) → a ≤ x → x < b + n → least ≤ key_of (get_or xs x 0) (x - a)
    of_place =
        in_window (λ x. least ≤ key_of (get_or xs x 0) (x - a)) (omega arith)
        (λ q l. let both = h.low q (omega arith) in (omega (arith, both.0), omega (arith, both.1)))

    pub least_all : FirstLargest xs a (b + n) (record { after = a + least % 64 + 1; value = 255 - least / 64 })
    least_all =
        let k = h.some (omega arith) in
        let p = k.place in
        let there : a + p ≡ a + least % 64 + 1 - 1 = omega (arith, k.is, k.within) in
        let value : get_or xs (a + p) 0 ≡ 255 - least / 64 = omega (arith, k.is, k.within, byte (a + p)) in
        record {
          from = omega arith;
          to = omega (arith, k.is, k.within);
          is = rw there at value;
          before = λ q l r.
              omega (arith, of_place q l (omega (arith, k.is, k.within)), byte q, byte (a + p), k.is, k.within);
          most = record { bound = λ q l r. omega (arith, of_place q l r, byte q, byte (a + p), k.is, k.within) };
        }
