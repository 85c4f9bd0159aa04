-- The text of one frame: "22 upper-case hexadecimal digits and a line feed".
use Rattle.std.specs.Prelude.{ℕ, zero, suc, ◌+◌, ◌/◌, ◌%◌, cond, List, [], ◌∷◌, ◌++◌, ltb, Option}
use Rattle.refusal.specs.Number.{number_of}
use Rattle.refusal.specs.declared.Refusal.{Refusal}

-- the character of a digit: 48 is "0", and 55 is 10 less than "A"
abbrev pub digit : ℕ → ℕ
digit d = cond (ltb d 10) (48 + d) (55 + d)

-- the last `width` hexadecimal digits of a number
unfoldable pub hex : ℕ → ℕ → List ℕ
hex zero n = []
hex (suc width) n = hex width (n / 16) ++ (digit (n % 16) ∷ [])

-- "22 upper-case hexadecimal digits and a line feed"
abbrev pub frame_bytes : ℕ
frame_bytes = 23

-- "piece number (4), job position from 0 (8), length (8), 01 for new or 00 for repeated (2)" and a line feed
unfoldable pub frame : ℕ → ℕ → ℕ → ℕ → List ℕ
frame number position size mark = hex 4 number ++ (hex 8 position ++ (hex 8 size ++ (hex 2 mark ++ (10 ∷ []))))

-- "The last frame is FFFF, new bytes (8), job length (8), refusal or 00 (2)"
abbrev pub last_frame : ℕ → ℕ → Option Refusal → List ℕ
last_frame new_bytes job_length refusal = frame 65535 new_bytes job_length (number_of refusal)
