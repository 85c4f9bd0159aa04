-- What a store that holds the chunks of a job gains from a revision of it that changes several fields.
use Prim.Native.Nat.{ℕ, ◌+◌, ◌*◌, ◌≤◌}
use native.Mathlib.Omega.{arith}
use mathlib.Core.Path.{◌≡◌, refl, sym, ap, ◌∙◌}
use mathlib.Core.List.{List, [], ◌∷◌, ◌++◌, append_assoc, append-nil}
use lib.ListN.{length, take, drop, length-append, length-take, take-append-drop}
use Rattle.scan.specs.Scanner.{fresh}
use Rattle.scan.specs.Limits.{window_limit}
use Rattle.chunker.specs.Bytes.{Bytes}
use Rattle.chunker.specs.Chunks.{after, cut_chunks, remaining, chunks, total}
use Rattle.chunker.specs.KeptMaximum.{KeptMaximum}
use Rattle.chunker.proofs.laws.ground.Soundness.{bytes_parts}
use Rattle.chunker.proofs.laws.Appending.{cut_chunks_append}
use Rattle.chunker.proofs.laws.CutPlaces.{total_cut}
use Rattle.chunker.proofs.laws.KeptMaximum.{kept_cut}
use Rattle.chunker.proofs.theorems.ChunkSizes.{last_size}
use Rattle.chunker.proofs.theorems.SharedEnding.{chunks_append}
use Rattle.store.specs.Contents.{grown, gained}
use Rattle.store.proofs.laws.contents.Growth.{Among, among_parts, grown_keeps}
use Rattle.store.proofs.laws.contents.Additions.{added_none, gained_past}
use Rattle.promises.specs.Fields.{Field, filled, old_job, revision, AllKept, ceiling_of, joined}

-- bytes at the start of the opening stand at the start of the job
filled_opening : (stretch : Field → List ℕ) (x y : List ℕ) (fs : List Field)
    → filled stretch (x ++ y) fs ≡ x ++ filled stretch y fs
filled_opening stretch x y [] = refl
filled_opening stretch x y (f ∷ fs) = append_assoc x y _

module _ (w : ℕ) (b : List ℕ) where
  -- the chunks that cuts end in bytes after the bytes b
  abbrev cuts_after : List ℕ → List (List ℕ)
  cuts_after m = cut_chunks (after (fresh w) b) (remaining (fresh w) [] b) m

  -- a job's chunks: those that end in its beginning b, those that end up to a kept maximum's cut, and those after it
  chunks_parts : 1 ≤ w → (m e : List ℕ) (k : ℕ) → KeptMaximum w e k → (rest : List ℕ)
      → chunks w (b ++ (m ++ (take (k + w) e ++ rest)))
      ≡ cut_chunks (fresh w) [] b ++ (cuts_after (m ++ take (k + w) e) ++ chunks w rest)
  chunks_parts h m e k kept rest =
      let front = b ++ (m ++ take (k + w) e) in
      let whole : front ++ rest ≡ b ++ (m ++ (take (k + w) e ++ rest)) = simp append_assoc in
      let cut = rw (append_assoc b m (take (k + w) e)) at (kept_cut w h (b ++ m) e k kept) in
      rw (
        ← whole,
        chunks_append w front rest cut.afresh cut.none,
        cut_chunks_append (fresh w) [] b (m ++ take (k + w) e),
      )
      (append_assoc (cut_chunks (fresh w) [] b) (cuts_after (m ++ take (k + w) e)) (chunks w rest))

  -- the bytes of the chunks between
  parts_total : 1 ≤ w → w ≤ window_limit → Bytes b → (m e : List ℕ) (k : ℕ)
      → total (cuts_after (m ++ take (k + w) e)) ≤ length m + k + 257 * w
  parts_total h g bytes m e k =
      let all = total_cut (after (fresh w) b) (remaining (fresh w) [] b) (m ++ take (k + w) e) in
      omega (arith, last_size w h g b bytes, length-append m (take (k + w) e), length-take (k + w) e)

module _ (w : ℕ) (h : 1 ≤ w) (g : w ≤ window_limit) where
  -- field by field: the chunks that end in the opening are held, those up to the kept maximum's cut weigh at most the
  -- field's part of the ceiling, and what is kept after that cut is the opening of the other fields
  pub gained_fields : (fs : List Field) → AllKept w fs → (opening : List ℕ) → Bytes (revision opening fs)
      → (held : List (List ℕ)) → Among (chunks w (old_job opening fs)) held
      → gained held (chunks w (revision opening fs)) ≤ ceiling_of w fs
  gained_fields [] kept opening bytes held old = rw (added_none held (chunks w opening) old) (omega arith)
  gained_fields (f ∷ fs) kept opening bytes held old =
      let n = f.place + w in
      let up_to = take n f.kept in
      let next = drop n f.kept in
      let split = sym (take-append-drop n f.kept) in
      let old_split = ap (λ e. old_job e fs) split ∙ filled_opening (λ f. f.replaced) up_to next fs in
      let new_split = ap (λ e. revision e fs) split ∙ filled_opening (λ f. f.changed) up_to next fs in
      let firsts = cut_chunks (fresh w) [] opening in
      let old_middle = cuts_after w opening (f.replaced ++ up_to) in
      let new_middle = cuts_after w opening (f.changed ++ up_to) in
      let parts = chunks_parts w opening h f.replaced f.kept f.place kept.0 (old_job next fs) in
      let had = among_parts held firsts (old_middle ++ chunks w (old_job next fs)) (rw (old_split, parts) at old) in
      let later = (among_parts held old_middle (chunks w (old_job next fs)) had.1).1 in
      let front = bytes_parts opening _ (rw new_split at bytes) in
      let behind = (bytes_parts up_to _ (bytes_parts f.changed _ front.1).1).1 in
      let others = gained_fields fs kept.1 next behind (grown held new_middle)
      (λ c l. grown_keeps held new_middle c (later c l)) in
      let weight = parts_total w opening h g front.0 f.changed f.kept f.place in
      rw (new_split, chunks_parts w opening h f.changed f.kept f.place kept.0 (revision next fs))
      (omega (arith, gained_past held firsts new_middle (chunks w (revision next fs)) had.0))

-- the bytes after an opening, grouped in two ways
regroup : (r k m s e : List ℕ) → r ++ (k ++ ((m ++ s) ++ e)) ≡ ((r ++ (k ++ m)) ++ s) ++ e
regroup r k m s e = simp append_assoc

-- up to its last kept stretch a job is what the fields before make of it, and the stretch in the last field
filled_last : (stretch : Field → List ℕ) (opening : List ℕ) (fs : List Field) (last : Field)
    → filled stretch opening (fs ++ (last ∷ [])) ≡ opening ++ ((filled stretch [] fs ++ stretch last) ++ last.kept)
filled_last stretch opening [] last = refl
filled_last stretch opening (f ∷ fs) last =
    let after = rw (append-nil f.kept) at (filled_opening stretch f.kept [] fs) in
    rw (filled_last stretch f.kept fs last, after)
    (ap (λ x. opening ++ x) (regroup (stretch f) f.kept (filled stretch [] fs) (stretch last) last.kept))

-- as a single field, several fields make the same jobs
pub old_joined : (opening : List ℕ) (fs : List Field) (last : Field)
    → old_job opening (fs ++ (last ∷ [])) ≡ old_job opening (joined fs last ∷ [])
old_joined opening fs last = filled_last (λ f. f.replaced) opening fs last

pub revision_joined : (opening : List ℕ) (fs : List Field) (last : Field)
    → revision opening (fs ++ (last ∷ [])) ≡ revision opening (joined fs last ∷ [])
revision_joined opening fs last = filled_last (λ f. f.changed) opening fs last
