-- `block_scan::to_end` meets its contract.
use native.Mathlib.Omega.{arith}
use mathlib.Core.Path.{refl}
use Rattle.blocks.proofs.laws.Largest.{largest_fold}
use Rattle.block_scan.proofs.laws.PartEnds.{ends_larger, ends_passed}
use Rattle.block_scan.proofs.to_end.Goals as goal
use Rattle.block_scan.proofs.to_end.Goals.{then-most-value, else-most-value}

pub place_of-requires : goal.place_of-requires
place_of-requires c = (largest_fold _ _ _ c.args.run.order.index c.largest_from-most.ensures).stands (omega arith)

pub invariant_of-result : goal.invariant_of-result
invariant_of-result c =
    let s = c in
    let largest = largest_fold _ _ _ c.args.run.order.index c.largest_from-most.ensures in
    record {
      order = elim c.if-most-value.branch [
        | then-most-value w ↦ rw (w.value-is, w.deadline-is) (ends_larger (record { order = s.args.run.order; gives = refl }) s.requires _ _ largest w.place_of.ensures w.if-most-value.true s.largest_from-most.type_inv).order
        | else-most-value w ↦ rw (w.value-is, w.deadline-is) (ends_passed (record { order = s.args.run.order; gives = refl }) s.requires _ largest w.if-most-value.false).order
      ];
    }

pub returns : goal.returns
returns c =
    let s = c in
    let largest = largest_fold _ _ _ c.args.run.order.index c.largest_from-most.ensures in
    record {
      further = record {
        part = refl;
        window = refl;
        gives = elim c.if-most-value.branch [
          | then-most-value w ↦ rw (w.value-is, w.deadline-is) (ends_larger (record { order = s.args.run.order; gives = refl }) s.requires _ _ largest w.place_of.ensures w.if-most-value.true s.largest_from-most.type_inv).gives
          | else-most-value w ↦ rw (w.value-is, w.deadline-is) (ends_passed (record { order = s.args.run.order; gives = refl }) s.requires _ largest w.if-most-value.false).gives
        ];
      };
      end = refl;
    }
