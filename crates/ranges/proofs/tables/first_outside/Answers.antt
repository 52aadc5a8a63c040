-- Each number is held to the range of its place in a record. Assumes nothing.
use mathlib.Core.Path.{sym, refl, ◌∙◌}
use native.Mathlib.Omega.{arith}
use Rattle.ranges.proofs.Held.{on, here, end}
use Rattle.ranges.specs.Outside.{first_outside}
use Rattle.ranges.proofs.tables.first_outside.Goals as goal

pub loop-i-init : goal.loop-i-init
unfolding first_outside
loop-i-init g c = refl

pub returns-then-not-is_within : goal.returns-then-not-is_within
returns-then-not-is_within g c =
    here g.met.N.Number.reads_each _ c.bounds-bounds.ensures.ranges c.args.table.now c.loop-i.i c.loop-i.invariant c.index-table-i.result c.index-table-i.is c.loop-i-test.true c.bounds-bounds.ensures.some
    (sym c.is_within.ensures ∙ c.if-not-is_within.true)

pub loop-i-preserved : goal.loop-i-preserved
loop-i-preserved g c =
    on g.met.N.Number.reads_each _ c.bounds-bounds.ensures.ranges c.args.table.now c.loop-i.i c.loop-i.invariant c.index-table-i.result c.index-table-i.is c.loop-i-test.true c.bounds-bounds.ensures.some
    (sym c.is_within.ensures ∙ c.if-not-is_within.false)

pub returns : goal.returns
returns g c = end g.met.N.Number.reads_each _ c.bounds-bounds.ensures.ranges c.args.table.now c.loop-i.i c.loop-i.invariant (omega arith)
