-- Four tables, one after the other, are the text. Assumes nothing.
use Rattle.numerals.proofs.Pieces.{leads_on, leads_end, room_for_next}
use Rattle.writer.proofs.Tables.{tables_next}
use Rattle.writer.proofs.file.File.put.Goals as goal

pub put_table-requires-clause-room : goal.put_table-requires-clause-room
put_table-requires-clause-room c = room_for_next _ _ (tables_next c.args.self.now.passes _ c.numbers-particulars.ensures _ c.requires)

pub put_table-requires-2-clause-room : goal.put_table-requires-2-clause-room
put_table-requires-2-clause-room c = room_for_next _ _ (leads_on c.put_table.ensures (tables_next c.args.self.now.passes _ c.numbers-particulars.ensures _ c.requires))

pub put_table-requires-3-clause-room : goal.put_table-requires-3-clause-room
put_table-requires-3-clause-room c =
    room_for_next _ _ (leads_on c.put_table-2.ensures (leads_on c.put_table.ensures (tables_next c.args.self.now.passes _ c.numbers-particulars.ensures _ c.requires)))

pub put_table-requires-4-clause-room : goal.put_table-requires-4-clause-room
put_table-requires-4-clause-room c =
    room_for_next _ _
    (leads_on c.put_table-3.ensures (leads_on c.put_table-2.ensures (leads_on c.put_table.ensures (tables_next c.args.self.now.passes _ c.numbers-particulars.ensures _ c.requires))))

pub returns : goal.returns
returns c =
    leads_end
    (leads_on c.put_table-4.ensures (leads_on c.put_table-3.ensures (leads_on c.put_table-2.ensures (leads_on c.put_table.ensures (tables_next c.args.self.now.passes _ c.numbers-particulars.ensures _ c.requires)))))
