-- The Gear sum of bytes: its table by the rule, and the chain that the sum chooses.
use Rattle.std.specs.Prelude.{ℕ, zero, suc, ◌+◌, ◌*◌, ◌/◌, ◌%◌, ◌^◌, List, [], ◌∷◌, bit_xor, slice_index}

-- "the xorshift steps: left 13, right 17, left 5, each shifted copy combined by exclusive or, 32 bits"
unfoldable pub next : ℕ → ℕ
next x =
    let a = bit_xor x (x * 2 ^ 13 % 2 ^ 32) in
    let b = bit_xor a (a / 2 ^ 17) in
    bit_xor b (b * 2 ^ 5 % 2 ^ 32)

-- n entries, the first of which is x
unfoldable pub entries_from : ℕ → ℕ → List ℕ
entries_from zero x = []
entries_from (suc n) x = x ∷ entries_from n (next x)

-- "Entry 0 is 270369; each next entry follows from the last"
unfoldable pub table : List ℕ
table = entries_from 256 270369

-- "each byte b makes it twice itself plus entry b of a table, kept to 32 bits", from a sum s on
unfoldable pub sum_from : ℕ → List ℕ → ℕ
sum_from s [] = s
sum_from s (b ∷ bs) = sum_from ((s * 2 + slice_index table b) % 2 ^ 32) bs

-- "The Gear sum of a piece .. starts at 0"
abbrev pub sum : List ℕ → ℕ
sum bs = sum_from 0 bs

-- "1,024 chain heads"
abbrev pub chains : ℕ
chains = 1024

-- "chosen by the sum's top ten bits"
unfoldable pub chain : List ℕ → ℕ
chain bs = sum bs / 2 ^ 22
