-- What the call that makes a sheet promises, of every input.
use Rattle.std.specs.Prelude.{ℕ, ◌≡◌, Result, List, ltb, length}
use Rattle.arithmetic.specs.Choice.{when◌then◌else◌}
use Rattle.arithmetic.specs.Room.{laid}
use Rattle.ranges.specs.Outcome.{Outcome, answered, refused}
use Rattle.ranges.specs.Reasons.{paper}
use Rattle.ranges.specs.Refusals.{room_too_short}
use Rattle.ranges.specs.declared.refusal.Refusal.{Refusal}
use Rattle.loading.specs.Paper.{default_reading}
use Rattle.loading.specs.declared.Reading.{Reading}
use Rattle.report.specs.Sheet.{sheet_by}

-- the length of the sheet's lines; 14 where the room is shorter
unfoldable pub report_by : Reading → List ℕ → ℕ → Outcome ℕ
report_by reading text room = when ltb room (length (sheet_by reading text)) then refused room_too_short (length (sheet_by reading text)) else answered (length (sheet_by reading text))

-- where no reading is named
abbrev pub report_of : List ℕ → ℕ → Outcome ℕ
report_of = report_by default_reading

pub record Reports (reading : Reading) (text room room_left : List ℕ) (answer : Result ℕ Refusal) : Type 0 where
  pub answer_is : paper answer ≡ report_by reading text (length room)
  pub left : room_left ≡ laid (sheet_by reading text) room
