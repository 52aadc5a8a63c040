-- Seven pieces, one after another, are the C line. Assumes nothing.
use native.Mathlib.Omega.{arith}
use Rattle.std.proofs.Common.{rules}
use Rattle.arithmetic.proofs.Crossing.{back_is}
use Rattle.numerals.proofs.Pieces.{was_put}
use Rattle.report.specs.Private.Putting.{most_word}
use Rattle.report.proofs.Fields.{condition_line_is}
use Rattle.report.proofs.Pieces.{few_of, few_le, puts_both, room_le, room_next}
use Rattle.report.proofs.lines.put_condition.Goals as goal

pub put_field-requires : goal.put_field-requires
put_field-requires c =
    let letter = few_of (was_put (room_le (omega arith) c.requires) c.put_byte.ensures) in
    let signed = puts_both (puts_both letter c.put_fields.ensures) c.put_fields-2.ensures in
    let space = puts_both signed (few_of (was_put (room_next signed c.requires (omega arith)) c.put_byte-2.ensures)) in
    let outcome = few_of (was_put (room_next space c.requires (omega (arith, c.word.ensures.few))) c.put.ensures) in
    room_next (puts_both space outcome) c.requires (omega (arith, c.word.ensures.few))

pub returns : goal.returns
returns c =
    let letter = few_of (was_put (room_le (omega arith) c.requires) c.put_byte.ensures) in
    let signed = puts_both (puts_both letter c.put_fields.ensures) c.put_fields-2.ensures in
    let gap = few_of (was_put (room_next signed c.requires (omega arith)) c.put_byte-2.ensures) in
    let space = puts_both signed gap in
    let said = few_of (was_put (room_next space c.requires (omega (arith, c.word.ensures.few))) c.put.ensures) in
    let mark = puts_both (puts_both space said) c.put_field.ensures in
    let feed = few_of (was_put (room_next mark c.requires (omega (arith, c.word.ensures.few))) c.put-2.ensures) in
    let two = rw (back_is {v = c.args.c.gm} (record { sfits = search rules }), back_is {v = c.args.c.transverse_moment} (record { sfits = search rules })) at c.put_fields-2.ensures in
    let outcome = few_le (rw c.word.ensures.word at said) most_word (rw c.word.ensures.word at c.word.ensures.few) in
    let passes = rw c.from-passes.ensures at c.put_field.ensures in
    rw (← condition_line_is c.args.c)
    (puts_both (puts_both (puts_both (puts_both (puts_both (puts_both letter c.put_fields.ensures) two) gap) outcome) passes) feed)
