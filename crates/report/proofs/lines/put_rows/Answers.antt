-- The lines of the rows passed are put, and each turn puts one more. Assumes nothing.
use mathlib.Core.List.{◌∷◌, []}
use mathlib.Core.Path.{◌≡◌, ap, ◌∙◌}
use native.Mathlib.Omega.{arith}
use lib.ListN.{length, length-append}
use Rattle.ranges.specs.Sizes.{row_width}
use Rattle.report.proofs.Fields.{rows_begin, rows_more}
use Rattle.report.proofs.lines.put_rows.Goals as goal

pub loop-row-init : goal.loop-row-init
loop-row-init c =
    let same = c.into_iter-row-iterator.ensures.into_iter_gives in
    let items = c.chunks_exact-row-items.ensures in
    let size : c.into_iter-row-iterator.result.size ≡ row_width = ap (λ i. i.size) same ∙ items.size in
    ((omega arith, tt), size, rw (ap (λ i. i.rest.now) same ∙ items.rest) (rows_begin c.args.rows.now c.args.to.now))

pub loop-row-preserved : goal.loop-row-preserved
loop-row-preserved c =
    let steps = c.in-Some.ensures.steps in
    let seven : length c.in-Some.row.now ≡ row_width = steps.1.1 ∙ c.loop-row.invariant.1 in
    let size : c.next.new.self.size ≡ row_width = steps.0 ∙ c.loop-row.invariant.1 in (
      (omega arith, tt),
      size,
      rw (length-append c.loop-row.yielded (c.in-Some.row ∷ []))
          (rows_more c.loop-row.invariant.2 c.in-Some.row.now c.next.new.self.rest.now steps.1.0 seven c.put_line.ensures),
    )
