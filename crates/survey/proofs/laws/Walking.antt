-- What a walk over a job's chunks comes to.
use Prim.Native.Nat.{ℕ, suc, ◌+◌, ◌≤◌, ◌<◌}
use native.Mathlib.Omega.{arith}
use mathlib.Core.Path.{◌≡◌, refl, sym, ap, ◌∙◌}
use mathlib.Core.Bool.{Bool, true, false, cond, ◌||◌, false≢true}
use mathlib.Core.List.{List, [], ◌∷◌, ◌++◌}
use lib.Dec.{leb, ltb}
use lib.ListN.{length, length-append}
use borrow.Author.Tests.{ltb-true, leb-true}
use Rattle.refusal.specs.Number.{accepted}
use Rattle.refusal.specs.Grounds.{unless, first}
use Rattle.refusal.specs.declared.Refusal.TheVariants.{RecipeFull, DirectoryFull, PoolFull}
use Rattle.chunker.specs.Chunks.{total}
use Rattle.store.specs.Contents.{has, gain, grown}
use Rattle.store.proofs.laws.contents.Additions.{total_append}
use Rattle.survey.specs.Walk.{Room, Walk, chunk_ground, walk}

module _ (room : Room) where
  -- a chunk that no ground refuses, then the rest
  pub walk_on : (used : ℕ) (held : List (List ℕ)) (c : List ℕ) (cs : List (List ℕ))
      → accepted (chunk_ground room used held c) ≡ true
      → let on = walk room (suc used) (gain held c) cs in
      walk room used held (c ∷ cs) ≡ record { refusal = on.refusal; passed = c ∷ on.passed }
  unfolding walk
  walk_on used held c cs h = rw h

  -- a refused one ends it
  pub walk_stops : (used : ℕ) (held : List (List ℕ)) (c : List ℕ) (cs : List (List ℕ))
      → accepted (chunk_ground room used held c) ≡ false
      → walk room used held (c ∷ cs) ≡ record { refusal = chunk_ground room used held c; passed = [] }
  unfolding walk
  walk_stops used held c cs h = rw h

-- there is room for chunks: with those before them, and the new ones of them in a store
pub record Fits (room : Room) (used : ℕ) (held cs : List (List ℕ)) : Type 0 where
  pub places : used + length cs ≤ room.places
  pub entries : length (grown held cs) ≤ room.entries
  pub bytes : total (grown held cs) ≤ room.bytes

-- a chunk that no ground refuses has room
module _ (room : Room) (used : ℕ) (held : List (List ℕ)) (c : List ℕ) where
  by_tests : (place known entry bytes : Bool) → ltb used room.places ≡ place → has held c ≡ known
      → ltb (length held) room.entries ≡ entry → leb (total held + length c) room.bytes ≡ bytes
      → accepted (first (unless place RecipeFull ∷ unless (known || entry) DirectoryFull ∷ unless (known || bytes) PoolFull ∷ [])) ≡ true
      → length held ≤ room.entries → total held ≤ room.bytes
      → (used < room.places) × (length (cond known held (held ++ (c ∷ []))) ≤ room.entries)
      × (total (cond known held (held ++ (c ∷ []))) ≤ room.bytes)
  by_tests true true entry bytes p k e b h l t = (ltb-true used room.places p, l, t)
  by_tests true false true true p k e b h l t = (
    ltb-true used room.places p,
    omega (arith, ltb-true (length held) room.entries e, length-append held (c ∷ [])),
    omega (arith, leb-true (total held + length c) room.bytes b, total_append held (c ∷ [])),
  )
  by_tests false known entry bytes p k e b h l t = absurd (false≢true h)
  by_tests true false false bytes p k e b h l t = absurd (false≢true h)
  by_tests true false true false p k e b h l t = absurd (false≢true h)

  pub chunk_fits : accepted (chunk_ground room used held c) ≡ true → length held ≤ room.entries → total held ≤ room.bytes
      → (used < room.places) × (length (gain held c) ≤ room.entries) × (total (gain held c) ≤ room.bytes)
  unfolding chunk_ground gain
  chunk_fits h l t = by_tests _ _ _ _ refl refl refl refl h l t

-- so have all that a walk passes
pub walk_fits : (room : Room) (used : ℕ) (held cs : List (List ℕ)) → used ≤ room.places
    → length held ≤ room.entries → total held ≤ room.bytes → Fits room used held (walk room used held cs).passed
unfolding walk grown
walk_fits room used held [] u l t = record { places = omega arith; entries = l; bytes = t }
walk_fits room used held (c ∷ cs) u l t =
    by_ground (accepted (chunk_ground room used held c)) refl (walk_fits room (suc used) (gain held c) cs)
  where
    by_ground : (x : Bool) → accepted (chunk_ground room used held c) ≡ x
        → (suc used ≤ room.places → length (gain held c) ≤ room.entries → total (gain held c) ≤ room.bytes
        → Fits room (suc used) (gain held c) (walk room (suc used) (gain held c) cs).passed)
        → let on = walk room (suc used) (gain held c) cs in
        Fits room used held
        (cond {A = Walk} x (record { refusal = on.refusal; passed = c ∷ on.passed })
        (record { refusal = chunk_ground room used held c; passed = [] })).passed
    by_ground true h on =
        let r = chunk_fits room used held c h l t in
        let f = on (omega (arith, r.0)) r.1 r.2 in
        record { places = omega (arith, f.places); entries = f.entries; bytes = f.bytes }
    by_ground false h on = record { places = omega arith; entries = l; bytes = t }

-- a walk passes the chunks up to some place, and all where none is refused
pub record Prefix (cs : List (List ℕ)) (v : Walk) : Type 0 where
  pub rest : List (List ℕ)
  pub whole : cs ≡ v.passed ++ rest
  pub all : accepted v.refusal ≡ true → v.passed ≡ cs

pub walk_prefix : (room : Room) (used : ℕ) (held cs : List (List ℕ)) → Prefix cs (walk room used held cs)
unfolding walk
walk_prefix room used held [] = record { rest = []; whole = refl; all = λ _. refl }
walk_prefix room used held (c ∷ cs) =
    by_ground (accepted (chunk_ground room used held c)) refl (walk_prefix room (suc used) (gain held c) cs)
  where
    by_ground : (x : Bool) → accepted (chunk_ground room used held c) ≡ x
        → Prefix cs (walk room (suc used) (gain held c) cs)
        → let on = walk room (suc used) (gain held c) cs in
        Prefix (c ∷ cs)
        (cond {A = Walk} x (record { refusal = on.refusal; passed = c ∷ on.passed })
        (record { refusal = chunk_ground room used held c; passed = [] }))
    by_ground true h on =
        record {
          rest = on.rest;
          whole = ap (λ (ds : List (List ℕ)). c ∷ ds) on.whole;
          all = λ a. ap (λ (ds : List (List ℕ)). c ∷ ds) (on.all a);
        }
    by_ground false h on = record { rest = c ∷ cs; whole = refl; all = λ a. absurd (false≢true (sym h ∙ a)) }
