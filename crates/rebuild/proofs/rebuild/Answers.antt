-- `rebuild::rebuild` meets its contract.
use Prim.Native.Nat.{ℕ, ◌≤◌}
use lib.ListN.{length}
use lib.Seq.{length-take-le}
use mathlib.Core.List.{List}
use mathlib.Core.Path.{◌≡◌, ap, sym, ◌∙◌}
use Rattle.std.specs.Prelude.{None}
use Rattle.std.specs.Result.{result_err}
use Rattle.refusal.specs.Number.{accepted}
use Rattle.store.specs.declared.Head.{Head}
use Rattle.rebuild.specs.Rebuilding.{rebuilt_bytes, rebuild_ground, rebuilt}
use Rattle.rebuild.proofs.laws.grounds.RebuildGround.{rebuilding_located, output_long}
use Rattle.rebuild.proofs.rebuild.Goals as goal

-- an accepted rebuilding has room for the bytes that it told
room : (head : Head) (pool directory recipe output : List ℕ) {total : ℕ}
    → None ≡ rebuild_ground head pool directory recipe output → total ≡ length (rebuilt_bytes pool directory recipe)
    → total ≤ length output
room head pool directory recipe output none told =
    rw told (output_long head pool directory recipe output (ap accepted (sym none)))

pub slice_bounds-write_chunks-end : goal.slice_bounds-write_chunks-end
slice_bounds-write_chunks-end c =
    room _ _ _ _ _ (ap result_err (sym c.in-Ok.is) ∙ c.rebuild_ground.ensures.refusal) c.in-Ok.ensures.counted

pub slice_bounds-write_chunks-end-in-Ok : goal.slice_bounds-write_chunks-end-in-Ok
slice_bounds-write_chunks-end-in-Ok c =
    sym (length-take-le _ _
    (room _ _ _ _ _ (ap result_err (sym c.in-Ok.is) ∙ c.rebuild_ground.ensures.refusal) c.in-Ok.ensures.counted))

pub write_chunks-requires-clause-located : goal.write_chunks-requires-clause-located
write_chunks-requires-clause-located c =
    rebuilding_located _ _ _ _ _ (ap accepted (sym c.rebuild_ground.ensures.refusal ∙ ap result_err c.in-Ok.is))

pub write_chunks-requires-clause-output_len : goal.write_chunks-requires-clause-output_len
write_chunks-requires-clause-output_len c =
    length-take-le _ _
    (room _ _ _ _ _ (ap result_err (sym c.in-Ok.is) ∙ c.rebuild_ground.ensures.refusal) c.in-Ok.ensures.counted)
    ∙ c.in-Ok.ensures.counted

pub returns-in-Ok : goal.returns-in-Ok
unfolding rebuilt
returns-in-Ok c =
    let none = sym c.rebuild_ground.ensures.refusal ∙ ap result_err c.in-Ok.is in
    rw (none, c.write_chunks.ensures, ← c.in-Ok.ensures.counted)

pub returns-in-Err : goal.returns-in-Err
unfolding rebuilt
returns-in-Err c = rw (sym c.rebuild_ground.ensures.refusal ∙ ap result_err c.in-Err.is)
