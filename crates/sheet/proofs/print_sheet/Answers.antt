-- The lines lie in the room that was lent for them. Assumes nothing.
use Rattle.std.proofs.Common.{arith, ◌≤◌, length, sym}
use Rattle.std.proofs.lemmas.List.{length-take-le}
use Rattle.report.proofs.Sheets.{lines_within}
use Rattle.sheet.proofs.print_sheet.Given.{Over}
use Rattle.sheet.proofs.print_sheet.Goals.{In-Ok}
use Rattle.sheet.proofs.print_sheet.Goals as goal

within : (g : Over) (c : In-Ok g) → c.in-Ok.length ≤ length c.make_report_by.new.room
within g c = omega (arith, lines_within c.in-Ok.ensures.reports, c.make_report_by.auto.room)

pub slice_bounds-lines-end : goal.slice_bounds-lines-end
slice_bounds-lines-end g c = within g c

pub slice_bounds-write_all-end : goal.slice_bounds-write_all-end
slice_bounds-write_all-end g c = sym (length-take-le _ _ (within g (goal.at.slice_bounds-write_all-end g c).In-Ok))
