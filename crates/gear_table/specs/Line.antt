-- One line of the table: "eight upper-case hexadecimal digits" and a line feed.
use Rattle.std.specs.Prelude.{ℕ, ◌*◌, ◌/◌, ◌%◌, ◌^◌, List, [], ◌∷◌, get_or}

-- "0123456789ABCDEF"
abbrev pub digits : List ℕ
digits = 48 ∷ 49 ∷ 50 ∷ 51 ∷ 52 ∷ 53 ∷ 54 ∷ 55 ∷ 56 ∷ 57 ∷ 65 ∷ 66 ∷ 67 ∷ 68 ∷ 69 ∷ 70 ∷ []

-- the digit of a number at a place, counted from 0 at its last digit: four bits each
unfoldable pub digit_at : ℕ → ℕ → ℕ
digit_at n place = get_or digits (n / 2 ^ (4 * place) % 16) 0

-- eight digits and a line feed
unfoldable pub line : ℕ → List ℕ
line n =
    digit_at n 7 ∷ digit_at n 6 ∷ digit_at n 5 ∷ digit_at n 4 ∷ digit_at n 3 ∷ digit_at n 2 ∷ digit_at n 1 ∷ digit_at n 0 ∷ 10 ∷ []
