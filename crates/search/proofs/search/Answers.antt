-- `search::search` meets its contract: each turn over the chain passes an entry, or keeps its number.
use Prim.Native.Nat.{◌+◌}
use native.Mathlib.Nat.{sub-zero}
use native.Mathlib.Omega.{arith}
use borrow.Author.Rules.{rules}
use Rattle.gear.proofs.laws.Sums.{chain_below}
use Rattle.search.proofs.laws.Searching.{sought_begun, sought_none_left, sought_out, sought_longer, sought_unlike, sought_alike}
use Rattle.search.proofs.search.Goals as goal

pub offset_bounds-index-own : goal.offset_bounds-index-own
offset_bounds-index-own c = omega (arith, chain_below c.args.chunk.now)

pub bounds-index-own : goal.bounds-index-own
bounds-index-own c = omega (arith, chain_below c.args.chunk.now)

pub entries-init : goal.entries-init
entries-init c = rw sub-zero (sought_begun _ _ _ _ _ _ c.requires.own_value c.requires.chunks_value (omega (arith, c.type_inv.index c.args.own)))

pub entries-preserved-then-length_of-chunk : goal.entries-preserved-then-length_of-chunk
entries-preserved-then-length_of-chunk c =
    sought_longer c.entries.invariant (omega arith) c.if-count-number.false (omega (arith, c.type_inv.index (1024 + c.entries.next)))
    c.requires.entries_in c.length_of.ensures c.if-length_of-chunk.true

pub entries-preserved-then-stored-i : goal.entries-preserved-then-stored-i
entries-preserved-then-stored-i c =
    sought_unlike c.entries.invariant (omega arith) c.if-count-number.false (omega (arith, c.type_inv.index (1024 + c.entries.next)))
    c.length_of.ensures c.if-length_of-chunk.false c.offset_of-from.ensures
    c.loop-i.i c.if-stored-i.true

pub entries-preserved : goal.entries-preserved
entries-preserved c =
    sought_alike c.entries.invariant (omega arith) c.if-count-number.false (omega (arith, c.type_inv.index (1024 + c.entries.next)))
    c.length_of.ensures c.if-length_of-chunk.false c.offset_of-from.ensures {n = c.loop-i.i} (search rules)
    (omega (arith, c.loop-i-test.false)) c.loop-i.invariant _ (search rules)

pub returns-after-entries : goal.returns-after-entries
returns-after-entries c = sought_none_left c.entries.invariant (omega arith)

pub returns-then-count-number : goal.returns-then-count-number
returns-then-count-number c = sought_out c.entries.invariant c.if-count-number.true
