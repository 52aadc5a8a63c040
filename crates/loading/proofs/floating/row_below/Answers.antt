-- The walk up the rows while the next is not above the weight. Assumes nothing.
use mathlib.Core.Path.{◌≡◌, ◌∙◌}
use Prim.Native.Nat.{◌+◌, ◌-◌, ◌≤◌}
use native.Mathlib.Omega.{arith}
use Rattle.hydrostatics.specs.Usable.{row_in}
use Rattle.loading.specs.Private.Afloat.{count_of}
use Rattle.loading.proofs.Tables.{place_next}
use Rattle.loading.proofs.Trying.{lent_usable}
use Rattle.loading.proofs.floating.row_below.Goals as goal

pub overflow_sub-last : goal.overflow_sub-last
overflow_sub-last c = omega (arith, c.count-last.ensures, (lent_usable c.args.rows.numbers.now c.args.rows.usable).size.least)

pub loop-r-preserved : goal.loop-r-preserved
loop-r-preserved c =
    let s = c.args in
    let rows = s.rows.numbers.now in
    let lighter : (row_in rows (c.loop-r.r + 1)).displacement ≤ s.weight = omega (arith, c.displacement.ensures, c.if-weight-displacement.false) in
    (lighter, c.loop-r.invariant.1 ∙ place_next rows (count_of rows) c.loop-r.r s.weight (omega (arith, c.count-last.ensures)) lighter)

pub returns : goal.returns
returns c =
    let rows = c.args.rows.numbers.now in
    let last : c.loop-r.r ≡ c.count-last.result - 1 = omega arith in
    rw (← last) (record {
      there = omega (arith, c.count-last.ensures, (lent_usable c.args.rows.numbers.now c.args.rows.usable).size.least);
      not_above = c.loop-r.invariant.0;
      next_above = λ h. absurd (omega (arith, c.count-last.ensures));
      falls = c.loop-r.invariant.1;
    })
