-- Indexes of three chunks, two of them of one chain: which are accepted.
use Prim.Native.Nat.{ℕ}
use mathlib.Core.Path.{◌≡◌, refl}
use mathlib.Core.Bool.{true, false}
use mathlib.Core.List.{List, [], ◌∷◌}
use lib.ListN.{set}
use Rattle.gear.specs.Gear.{next, entries_from, table, sum_from, chain}
use Rattle.store.specs.Contents.{same}
use Rattle.index.specs.Index.{none, fresh_index, enter, enter_all}
use Rattle.index.specs.Along.{belongs, along, along_all, seek, number_found}
use Rattle.index.specs.Ordered.{as_link, passes, ordered}
use Rattle.index.specs.Grounds.{meets}

-- the first two are of chain 177, the last of chain 16
held : List (List ℕ)
held = (5 ∷ []) ∷ (213 ∷ []) ∷ (1 ∷ []) ∷ []

-- as takes build it: chain 177 holds 1, then 0
built : List ℕ
built = enter_all (fresh_index 3) 0 held

built_accepted : meets built held ≡ true
unfolding next entries_from table sum_from chain belongs along along_all meets fresh_index enter enter_all held built
built_accepted = refl

built_ordered : ordered built held ≡ true
unfolding next entries_from table sum_from chain fresh_index enter enter_all as_link passes ordered same held built
built_ordered = refl

-- any order in a chain is accepted
turned : List ℕ
turned = set (set (set built 177 0) 1024 1) 1025 none

turned_accepted : meets turned held ≡ true
unfolding next entries_from table sum_from chain belongs along along_all meets fresh_index enter enter_all held built turned
turned_accepted = refl

turned_not_ordered : ordered turned held ≡ false
unfolding next entries_from table sum_from chain fresh_index enter enter_all as_link passes ordered same held built turned
turned_not_ordered = refl

turned_found : number_found turned held (213 ∷ []) ≡ 1
unfolding next entries_from table sum_from chain fresh_index enter enter_all seek number_found same held built turned
turned_found = refl

-- the lowest number of an equal chunk is found also where it comes last
twice : List (List ℕ)
twice = (5 ∷ []) ∷ (5 ∷ []) ∷ []

twice_found : number_found (enter_all (fresh_index 2) 0 twice) twice (5 ∷ []) ≡ 0
unfolding next entries_from table sum_from chain fresh_index enter enter_all seek number_found same twice
twice_found = refl

-- a ring, a chunk that is missed, a chunk on another chain, a number that is no chunk's
ring_refused : meets (set built 1024 1) held ≡ false
unfolding next entries_from table sum_from chain belongs along along_all meets fresh_index enter enter_all held built
ring_refused = refl

missed_refused : meets (set built 177 0) held ≡ false
unfolding next entries_from table sum_from chain belongs along along_all meets fresh_index enter enter_all held built
missed_refused = refl

stray_refused : meets (set built 500 2) held ≡ false
unfolding next entries_from table sum_from chain belongs along along_all meets fresh_index enter enter_all held built
stray_refused = refl

past_refused : meets (set built 1026 3) held ≡ false
unfolding next entries_from table sum_from chain belongs along along_all meets fresh_index enter enter_all held built
past_refused = refl
