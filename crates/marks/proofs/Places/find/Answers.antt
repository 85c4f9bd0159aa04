-- `marks::Places::find` meets its contract: each turn passes a place of the chunk's chain that shows another chunk.
use Rattle.std.proofs.Common.{◌≡◌, ℕ, ◌-◌, ◌≤◌, ◌<◌, List, [], get_or, refl, sym, ◌∙◌, arith}
use Rattle.marks.specs.declared.Kind.{Kind}
use Rattle.marks.specs.declared.Kind.TheVariants.{Stored, Repeat, First}
use Rattle.marks.specs.Marks.{code_of, first_base, own_chains, own_chain}
use Rattle.marks.specs.internal.Kinds.{Says}
use Rattle.marks.proofs.laws.Sizes.{sizes_fewer}
use Rattle.marks.proofs.laws.Chains.{own_below}
use Rattle.marks.proofs.laws.Finding.{Finding, shown, finding_starts, finding_none}
use Rattle.marks.proofs.laws.Following.{left, says_first, finding_inside, other_size, other_bytes, finding_here, finding_on, finding_less}
use Rattle.marks.proofs.Places.find.Goals as goal
use Rattle.marks.proofs.Places.find.Goals.{then-size_of-chunk+else-stands_at, else-size_of-chunk}

-- the chain is one of those that there are heads for
chain_below : (chain : ℕ) (chunk : List ℕ) → chain ≡ own_chain chunk → chain < own_chains
chain_below chain chunk e = rw e (own_below chunk)

pub offset_bounds-self-chain : goal.offset_bounds-self-chain
offset_bounds-self-chain c = omega (arith, chain_below _ _ c.requires.chain_value)

pub bounds-self-chain : goal.bounds-self-chain
bounds-self-chain c = chain_below _ _ c.requires.chain_value

pub loop-place-init : goal.loop-place-init
loop-place-init c =
    let a = c.args in
    let pre = c.requires in
    finding_starts a.job.now a.recipe.now a.used pre.placed.used a.chunk.now a.self.now.heads a.chain pre.placed.own_heads pre.chain_value
    (chain_below _ _ pre.chain_value)

pub start_of-from-requires-clause-recipe_bound : goal.start_of-from-requires-clause-recipe_bound
start_of-from-requires-clause-recipe_bound c =
    let pre = c.requires in
    omega (arith, sizes_fewer c.args.recipe.now c.loop-place.place c.args.used (omega arith), pre.placed.linked.inside, pre.job_len_bound)

pub stands_at-requires : goal.stands_at-requires
stands_at-requires c =
    let pre = c.requires in
    omega (
      arith,
      c.start_of-from.ensures,
      c.size_of.ensures,
      c.if-size_of-chunk.true,
      finding_inside pre.placed.used pre.in_bounds pre.placed.linked c.loop-place.invariant c.loop-place-test.true,
    )

pub returns-then-stands_at : goal.returns-then-stands_at
returns-then-stands_at c =
    let pre = c.requires in
    let is = rw c.start_of-from.ensures at c.if-stands_at.ensures in
    let here = finding_here pre.placed.used pre.in_bounds pre.placed.linked c.loop-place.invariant c.loop-place-test.true
    (sym c.size_of.ensures ∙ c.if-size_of-chunk.true) (sym is) in
    (here, c.loop-place-test.true)

-- a turn that does not end the search shows another chunk
other : (c : goal.In-First) → let a = c.args in get_or (shown a.job.now a.recipe.now a.used) c.loop-place.place [] ≡ a.chunk.now → ⊥
other c =
    let pre = c.requires in
    let s = c.loop-place.invariant in
    let more = c.loop-place-test.true in
    let size = c.size_of.ensures in
    elim c.if-size_of-chunk.branch [
      | then-size_of-chunk+else-stands_at w ↦
          other_bytes pre.placed.used pre.in_bounds pre.placed.linked s more (sym size ∙ w.if-size_of-chunk.true)
          (sym (rw w.start_of-from.ensures at w.if-stands_at.ensures))
      | else-size_of-chunk w ↦
          other_size pre.placed.used pre.in_bounds pre.placed.linked s more (λ e. w.if-size_of-chunk.false (size ∙ e))
    ]

-- the place that its mark names
earlier : (c : goal.In-First) → c.in-First.earlier ≡ code_of (get_or c.args.recipe.now c.loop-place.place 0) - first_base
earlier c = omega (arith, c.in-First.ensures)

-- the search goes on at the place that the mark names, and the measure falls
module _ (c : goal.In-First) {next : ℕ} (named : next ≡ code_of (get_or c.args.recipe.now c.loop-place.place 0) - first_base) where
  goes_on : Finding c.args.job.now c.args.recipe.now c.args.chunk.now c.args.used next
  goes_on =
      let pre = c.requires in
      rw named (finding_on pre.placed.used pre.in_bounds pre.placed.linked c.loop-place.invariant c.loop-place-test.true (other c))

  falls : left c.args.used next < left c.args.used c.loop-place.place
  falls =
      let pre = c.requires in
      rw named (finding_less pre.placed.used pre.in_bounds pre.placed.linked c.loop-place.invariant c.loop-place-test.true (other c))

pub loop-place-smaller : goal.loop-place-smaller
loop-place-smaller c = falls c (omega (arith, earlier c))

pub loop-place-preserved : goal.loop-place-preserved
loop-place-preserved c = goes_on c (omega (arith, earlier c))

pub unreachable-requires : goal.unreachable-requires
unreachable-requires c =
    let pre = c.requires in
    let says = says_first pre.placed.used pre.in_bounds pre.placed.linked c.loop-place.invariant c.loop-place-test.true in
    no_other _ _ c.kind_of.ensures says c.in_default.not-First
  where
    -- a code of a first appearance is of that kind
    no_other : (kind : Kind) (code : ℕ) → Says kind code → first_base ≤ code → ((p : ℕ) → kind ≡ First p → ⊥) → ⊥
    no_other (Stored n) code says l not = omega (arith, says.1)
    no_other (Repeat p) code says l not = omega (arith, says.1)
    no_other (First p) code says l not = not p refl

pub returns : goal.returns
returns c = finding_none c.requires.placed.used c.requires.in_bounds c.loop-place.invariant c.loop-place-test.false
