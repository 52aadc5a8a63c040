-- Room for any sheet is never too short, so that the lines can be put straight into it. Assumes nothing.
use native.Mathlib.Omega.{arith}
use Rattle.report.proofs.Sheets.{report_straight}
use Rattle.report.proofs.make_report_by.Goals as goal

pub returns-then-room-ge-LONGEST_SHEET : goal.returns-then-room-ge-LONGEST_SHEET
returns-then-room-ge-LONGEST_SHEET c = record { reports = report_straight _ c.args.text.now c.put_sheet.ensures.put (omega (arith, c.put_sheet.ensures.few)); longest = c.put_sheet.ensures.few }
