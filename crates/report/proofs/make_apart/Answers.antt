-- The lines are put into a text of their own, which holds any sheet, and copied where they fit. Assumes nothing.
use mathlib.Core.List.{◌++◌}
use mathlib.Core.Path.{ap}
use lib.ListN.{drop}
use Rattle.report.proofs.Sheets.{report_short, report_fits}
use Rattle.report.proofs.make_apart.Goals as goal

pub returns-then-room-length : goal.returns-then-room-length
returns-then-room-length c = record { reports = report_short _ c.args.text.now c.put_sheet-length.ensures.put c.if-room-length.true c.at.ensures; longest = c.put_sheet-length.ensures.few }

pub returns : goal.returns
returns c = record { reports = report_fits _ c.args.text.now c.put_sheet-length.ensures.put c.if-room-length.false (ap (λ l. l ++ drop c.put_sheet-length.result c.args.room.now) c.copy_from_slice.ensures.after); longest = c.put_sheet-length.ensures.few }
