-- `block_scan::at_peak` meets its contract.
use mathlib.Core.Path.{refl}
use Rattle.block_scan.proofs.laws.windows.Peaks.{settled_under}
use Rattle.block_scan.proofs.at_peak.Goals as goal

pub invariant_of-result : goal.invariant_of-result
invariant_of-result c = record { order = (settled_under c.requires.settled c.requires.at_largest).order }

pub returns : goal.returns
returns c =
    record {
      further = record { part = refl; window = refl; gives = (settled_under c.requires.settled c.requires.at_largest).gives };
      deadline = refl;
    }
