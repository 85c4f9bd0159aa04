-- A store and the chunks that came to it have the same members.
use Prim.Native.Nat.{ℕ}
use mathlib.Core.Path.{◌≡◌}
use mathlib.Core.Bool.{or-false}
use mathlib.Core.List.{List, [], ◌∷◌, ◌++◌}
use Rattle.store.specs.Contents.{same, has, gain, grown}
use Rattle.store.proofs.laws.contents.Growth.{has_append, has_gain, has_grown}

-- the same chunks are among both lists
abbrev pub SameMembers : List (List ℕ) → List (List ℕ) → Type 0
SameMembers xs ys = (c : List ℕ) → has xs c ≡ has ys c

-- a store and the chunks that came to it so far have the same members where one chunk comes
pub gain_members : (held earlier : List (List ℕ)) → SameMembers held earlier → (d : List ℕ)
    → SameMembers (gain held d) (earlier ++ (d ∷ []))
unfolding has
gain_members held earlier a d c = rw (has_gain held d c, has_append earlier (d ∷ []) c, a c, or-false (same d c))

-- and where chunks come
pub grown_members : (held earlier : List (List ℕ)) → SameMembers held earlier → (cs : List (List ℕ))
    → SameMembers (grown held cs) (earlier ++ cs)
grown_members held earlier a cs c = rw (has_grown held cs c, has_append earlier cs c, a c)
