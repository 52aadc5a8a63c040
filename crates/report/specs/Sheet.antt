-- The whole sheet of a file's text. "A refusal prints "E", number, place, and ends the run; R lines come first only where it is the condition that refuses."
use Rattle.std.specs.Prelude.{ℕ, zero, suc, ◌+◌, ◌/◌, List, [], ◌++◌, map, ℤ, nat_abs, length}
use Rattle.hydrostatics.specs.Rows.{rows_of}
use Rattle.hydrostatics.specs.Usable.{row_in}
use Rattle.loading.specs.Condition.{condition_by}
use Rattle.loading.specs.Paper.{default_reading}
use Rattle.loading.specs.declared.Condition.{Condition}
use Rattle.loading.specs.declared.Reading.{Reading}
use Rattle.offsets.specs.File.{Contents}
use Rattle.offsets.specs.Reader.{reader_of}
use Rattle.ranges.specs.Outcome.{Outcome, answered, refused}
use Rattle.ranges.specs.Outside.{particulars_of}
use Rattle.ranges.specs.Sizes.{row_width, room_for_half_breadths, room_for_items, room_for_tanks, room_for_rows}
use Rattle.report.specs.Lines.{row_line, condition_line, refusal_line}

-- the lines of so many rows from row `from` on
unfoldable pub row_lines : List ℕ → ℕ → ℕ → List ℕ
row_lines rows from zero = []
row_lines rows from (suc count) = row_line (row_in rows from) ++ row_lines rows (from + 1) count

-- the C line, or the E line
unfoldable pub condition_said : Outcome Condition → List ℕ
condition_said (answered c) = condition_line c
condition_said (refused number place) = refusal_line number place

-- the R lines and what follows them, or the E line
unfoldable pub rows_said : Reading → List ℤ → List ℤ → Outcome (List ℕ) → List ℕ
rows_said reading items tanks (answered rows) = row_lines rows 0 (length rows / row_width) ++ condition_said (condition_by reading items tanks rows)
rows_said reading items tanks (refused number place) = refusal_line number place

unfoldable pub file_said : Reading → Outcome Contents → List ℕ
file_said reading (answered c) = rows_said reading c.items c.tanks (rows_of (map nat_abs c.half_breadths) (particulars_of c.hull) room_for_rows)
file_said reading (refused number place) = refusal_line number place

-- by a reading of KM
unfoldable pub sheet_by : Reading → List ℕ → List ℕ
sheet_by reading text = file_said reading (reader_of text room_for_half_breadths room_for_items room_for_tanks)

-- where no reading is named
abbrev pub sheet_of : List ℕ → List ℕ
sheet_of = sheet_by default_reading
