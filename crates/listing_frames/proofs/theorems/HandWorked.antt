-- Listings that the paper lays down.
use Prim.Native.Nat.{ℕ}
use mathlib.Core.Path.{◌≡◌, refl}
use mathlib.Core.List.{List, [], ◌∷◌, ◌++◌}
use lib.ListN.{replicate}
use Rattle.refusal.specs.declared.Refusal.TheVariants.{JobLength}
use Rattle.chunker.specs.Scanner.{window_allowed}
use Rattle.scan.specs.Move.{move, next}
use Rattle.chunker.specs.Chunks.{cut_chunks, remaining, chunks}
use Rattle.directory.specs.Layout.{laid_out}
use Rattle.store.specs.Grounds.{fits, memory_allowed, recipe_allowed}
use Rattle.survey.specs.Walk.{chunk_ground, walk}
use Rattle.admission.specs.Grounds.{job_allowed, admission_ground}
use Rattle.admission.specs.Quote.{quoted}
use Rattle.store.specs.Memory.{chunks_from}
use Rattle.store.specs.Contents.{same, number, has, gain, added, numbers}
use Rattle.index.specs.Index.{fresh_index}
use Rattle.index.specs.Grounds.{length_allowed, meets}
use Rattle.index.specs.Along.{belongs, along, along_all}
use Rattle.frame_text.specs.Frame.{hex, frame}
use Rattle.listing_frames.specs.Frames.{chunk_frames, refused_frame, listing}
use Rattle.std.specs.Prelude.{Some}

-- 0000000000000000000501
abbrev pub first : List ℕ
first = 48 ∷ 48 ∷ 48 ∷ 48 ∷ 48 ∷ 48 ∷ 48 ∷ 48 ∷ 48 ∷ 48 ∷ 48 ∷ 48 ∷ 48 ∷ 48 ∷ 48 ∷ 48 ∷ 48 ∷ 48 ∷ 48 ∷ 53 ∷ 48 ∷ 49 ∷ 10 ∷ []

-- 0000000000050000000500
abbrev pub second : List ℕ
second = 48 ∷ 48 ∷ 48 ∷ 48 ∷ 48 ∷ 48 ∷ 48 ∷ 48 ∷ 48 ∷ 48 ∷ 48 ∷ 53 ∷ 48 ∷ 48 ∷ 48 ∷ 48 ∷ 48 ∷ 48 ∷ 48 ∷ 53 ∷ 48 ∷ 48 ∷ 10 ∷ []

-- 00010000000A0000000201
abbrev pub third : List ℕ
third = 48 ∷ 48 ∷ 48 ∷ 49 ∷ 48 ∷ 48 ∷ 48 ∷ 48 ∷ 48 ∷ 48 ∷ 48 ∷ 65 ∷ 48 ∷ 48 ∷ 48 ∷ 48 ∷ 48 ∷ 48 ∷ 48 ∷ 50 ∷ 48 ∷ 49 ∷ 10 ∷ []

-- FFFF000000070000000C00
abbrev pub last : List ℕ
last = 70 ∷ 70 ∷ 70 ∷ 70 ∷ 48 ∷ 48 ∷ 48 ∷ 48 ∷ 48 ∷ 48 ∷ 48 ∷ 55 ∷ 48 ∷ 48 ∷ 48 ∷ 48 ∷ 48 ∷ 48 ∷ 48 ∷ 67 ∷ 48 ∷ 48 ∷ 10 ∷ []

-- "For twelve bytes 41 it prints exactly" these four lines
pub twelve_bytes : listing (replicate 12 65) ≡ first ++ (second ++ (third ++ last))
unfolding listing frame hex chunk_frames has quoted admission_ground window_allowed job_allowed memory_allowed recipe_allowed fits laid_out
    length_allowed meets along_all along belongs fresh_index chunks cut_chunks remaining next move walk chunk_ground gain added
    numbers number same chunks_from
twelve_bytes = refl

-- an empty job gives the last frame only, with refusal 3
pub empty_job : listing [] ≡ refused_frame (Some JobLength)
unfolding listing quoted admission_ground window_allowed job_allowed
empty_job = refl
