-- The new ones of a job's chunks in a store are those that appear for the first time.
use Prim.Native.Nat.{ℕ}
use mathlib.Core.Path.{◌≡◌, refl}
use mathlib.Core.List.{List, [], ◌∷◌, ◌++◌}
use Rattle.store.specs.Contents.{gain, added, repeated}
use Rattle.store.proofs.laws.contents.Members.{SameMembers, gain_members}
use Rattle.promises.specs.FirstAppearances.{first_appearances, later_appearances}

-- the new chunks
pub added_first : (held earlier : List (List ℕ)) → SameMembers held earlier → (cs : List (List ℕ))
    → added held cs ≡ first_appearances earlier cs
unfolding added first_appearances
added_first held earlier a [] = refl
added_first held earlier a (c ∷ cs) =
    rw (a c, added_first (gain held c) (earlier ++ (c ∷ [])) (gain_members held earlier a c) cs)

-- the others
pub repeated_later : (held earlier : List (List ℕ)) → SameMembers held earlier → (cs : List (List ℕ))
    → repeated held cs ≡ later_appearances earlier cs
unfolding repeated later_appearances
repeated_later held earlier a [] = refl
repeated_later held earlier a (c ∷ cs) =
    rw (a c, repeated_later (gain held c) (earlier ++ (c ∷ [])) (gain_members held earlier a c) cs)
