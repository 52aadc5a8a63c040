-- The fields of the numbers passed are put, and each turn puts one more. Assumes nothing.
use Rattle.report.proofs.Fields.{fields_none, fields_more}
use Rattle.report.proofs.lines.put_fields.Goals as goal

pub loop-number-init : goal.loop-number-init
loop-number-init g c = fields_none _

pub loop-number-preserved : goal.loop-number-preserved
loop-number-preserved g c =
    fields_more g.N.Printable.value c.args.numbers.now c.loop-number.number-index c.number-item.result c.loop-number-test.true c.number-item.is c.loop-number.invariant c.put_field.ensures
