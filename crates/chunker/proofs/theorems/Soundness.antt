-- What the scanner's functions hand back is sound again.
use Prim.Native.Nat.{ℕ, ◌<◌}
use mathlib.Core.Path.{◌≡◌}
use mathlib.Core.Bool.{true}
use mathlib.Core.List.{List}
use Rattle.scan.specs.declared.Scanner.{Scanner}
use Rattle.scan.proofs.laws.Soundness.{fresh_sound}
use Rattle.chunker.specs.Bytes.{Bytes}
use Rattle.chunker.specs.Scanner.{window_allowed, scanner_ground}
use Rattle.chunker.specs.Answers.{opened, fed, finished}
use Rattle.chunker.proofs.laws.ground.Soundness.{ground_sound, sound_ground, scan_sound, fed_accepted, opened_fresh, fresh_ground}
use Rattle.std.specs.Prelude.{None}

-- a scanner that feeding answers with is accepted again
pub feed_keeps_sound : (s : Scanner) (part : List ℕ) → s.value < 256 → Bytes part → scanner_ground s ≡ None
    → scanner_ground (fed s part).scanner ≡ None
feed_keeps_sound s part h k e =
    rw (fed_accepted s part e) (sound_ground _ (scan_sound s 0 part k (ground_sound s h e)))

-- a scanner that finishing answers with is accepted again
pub finish_keeps_sound : (s : Scanner) → s.value < 256 → scanner_ground s ≡ None
    → scanner_ground (finished s).scanner ≡ None
unfolding finished
finish_keeps_sound s h e =
    let g = ground_sound s h e in rw e (sound_ground _ (fresh_sound s.window g.low g.high))

-- an opened scanner is accepted
pub open_sound : (w : ℕ) → window_allowed w ≡ true → scanner_ground (opened w).scanner ≡ None
open_sound w e = rw (opened_fresh w e) (fresh_ground w e)
