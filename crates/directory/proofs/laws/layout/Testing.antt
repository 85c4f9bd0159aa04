-- The test of a directory's layout, an entry at a time.
use Rattle.std.proofs.Common.{◌≡◌, ℕ, suc, ◌+◌, ◌-◌, ◌*◌, ◌<◌, ◌≤◌, true, false, ◌&&◌, eqb, List, sym, ◌∙◌, add-one, arith}
use Rattle.directory.specs.Entry.{offset_at, length_at}
use Rattle.directory.specs.Layout.{entry_allowed, laid_out}

-- of the first `count` entries those from `entry` on are still to test, and the answer is theirs
pub record Tested (w : ℕ) (directory : List ℕ) (filled count from entry : ℕ) : Type 0 where
  pub order : entry ≤ count
  pub small : from ≤ entry * 4294967295
  pub gives : laid_out w directory entry from filled (count - entry) ≡ laid_out w directory 0 0 filled count

module _ {w : ℕ} {directory : List ℕ} {filled count from entry : ℕ}
    (t : Tested w directory filled count from entry) where
  -- with no entry left, it is whether the last one ended at `filled`
  pub none_left : count ≤ entry → laid_out w directory 0 0 filled count ≡ eqb from filled
  unfolding laid_out
  none_left h = let e : count - entry ≡ 0 = omega arith in sym t.gives ∙ rw e

  module _ (more : entry < count) where
    -- else it is that of the next entry and of those after it
    one_more : laid_out w directory 0 0 filled count
        ≡ (entry_allowed (offset_at directory entry) (length_at directory entry) from (256 * w + 1)
        && laid_out w directory (entry + 1) (from + length_at directory entry) filled (count - (entry + 1)))
    unfolding laid_out
    one_more =
        let e : count - entry ≡ suc (count - (entry + 1)) = omega arith in
        sym t.gives ∙ rw (e, add-one entry)

    -- the next entry is not allowed
    pub not_laid : entry_allowed (offset_at directory entry) (length_at directory entry) from (256 * w + 1) ≡ false
        → laid_out w directory 0 0 filled count ≡ false
    not_laid e = rw (one_more, e)

    -- the next entry is allowed
    pub tested_more : entry_allowed (offset_at directory entry) (length_at directory entry) from (256 * w + 1) ≡ true
        → length_at directory entry ≤ 4294967295
        → Tested w directory filled count (from + length_at directory entry) (entry + 1)
    tested_more e l =
        record { order = omega arith; small = omega (arith, t.small); gives = rw (one_more, e) }
