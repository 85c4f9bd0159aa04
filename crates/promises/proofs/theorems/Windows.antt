-- Which windows are accepted: "Window 64 is accepted, 65 and 1,024 are refused". Of the line that document 01 works by hand, 0 and
-- 1,025 give 1 and 1 is accepted, as before.
use Prim.Native.Nat.{ℕ, ◌≤◌, ◌<◌}
use native.Mathlib.Omega.{arith}
use mathlib.Core.Path.{◌≡◌, refl}
use borrow.Author.Tests.{le-leb, lt-leb}
use Rattle.refusal.specs.declared.Refusal.TheVariants.{Window}
use Rattle.scan.specs.Limits.{window_limit}
use Rattle.scan.specs.Scanner.{fresh as fresh_scanner}
use Rattle.chunker.specs.Scanner.{window_allowed}
use Rattle.chunker.specs.Answers.{opened as opened_scanner}
use Rattle.store.specs.Opening.{fresh, opened}
use Rattle.std.specs.Prelude.{None, Some}

-- a scanner and a store of the window are refused by ground 1, with all zeros
pub record Refused (w : ℕ) : Type 0 where
  pub scanner : opened_scanner w ≡ record { refusal = Some Window; scanner = fresh_scanner 0 }
  pub store : opened w ≡ record { refusal = Some Window; head = fresh 0 }

-- a scanner and a store of the window are fresh
pub record Opens (w : ℕ) : Type 0 where
  pub scanner : opened_scanner w ≡ record { refusal = None; scanner = fresh_scanner w }
  pub store : opened w ≡ record { refusal = None; head = fresh w }

-- every window above the limit is refused
pub refused_above : (w : ℕ) → window_limit < w → Refused w
unfolding opened_scanner opened window_allowed
refused_above w h =
    record {
      scanner = rw (le-leb 1 w (omega arith), lt-leb w window_limit h);
      store = rw (le-leb 1 w (omega arith), lt-leb w window_limit h);
    }

-- every window from 1 to the limit is accepted
pub opens_within : (w : ℕ) → 1 ≤ w → w ≤ window_limit → Opens w
unfolding opened_scanner opened window_allowed
opens_within w low high =
    record {
      scanner = rw (le-leb 1 w low, le-leb w window_limit high);
      store = rw (le-leb 1 w low, le-leb w window_limit high);
    }

-- the windows on both sides of the limits
pub windows : Refused 0 × Refused 65 × Opens 1 × Opens 64
unfolding opened_scanner opened window_allowed
windows = (
  record { scanner = refl; store = refl },
  record { scanner = refl; store = refl },
  record { scanner = refl; store = refl },
  record { scanner = refl; store = refl },
)
