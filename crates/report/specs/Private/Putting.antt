-- What the private functions promise that put a piece of the sheet into a text, and the most bytes that a sheet takes.
use Rattle.std.specs.Prelude.{ℕ, ◌+◌, ◌*◌, ◌≤◌, ◌≡◌, List, ◌++◌, Result, MatchResult, length}
use Rattle.numerals.specs.Pieces.{Puts}
use Rattle.numerals.specs.Printed.{most_printed}
use Rattle.numerals.specs.declared.lines.Lines.{Lines}
use Rattle.ranges.specs.Reasons.{number_of}
use Rattle.ranges.specs.Sizes.{row_width, most_rows}
use Rattle.ranges.specs.declared.refusal.Refusal.{Refusal}
use Rattle.report.specs.Lines.{refusal_line}

-- The most bytes of each piece: a space, a minus and the digits; the longest word, "unstable".
abbrev pub most_field : ℕ
most_field = 1 + most_printed

abbrev pub most_word : ℕ
most_word = 8

-- a letter, so many fields and a line feed
abbrev pub most_line : ℕ → ℕ
most_line count = 1 + most_field * count + 1

-- the C line's letter, eight numbers and word, the mark of a pass and the line feed
abbrev pub most_condition_line : ℕ
most_condition_line = 1 + most_field * 6 + most_field * 2 + 1 + most_word + most_field + 1

-- the rows of the largest hull, and the C line
abbrev pub longest_sheet : ℕ
longest_sheet = most_line row_width * most_rows + most_condition_line

-- what is said, of so many bytes at most, is put
pub record PutsFew (most : ℕ) (said : List ℕ) (was is : Lines) : Type 0 where
  pub few : length said ≤ most
  pub puts : Puts said was is

-- the sheet is put; or what stands before its E line, and the refusal for that is answered
pub record BeforeRefusal (sheet : List ℕ) (was is : Lines) (r : Refusal) : Type 0 where
  pub lines : List ℕ
  pub put : PutsFew (most_line row_width * most_rows) lines was is
  pub sheet_is : sheet ≡ lines ++ refusal_line (number_of r.reason) r.place

abbrev pub PutsFile : List ℕ → Lines → Lines → Result Unit Refusal → Type 0
PutsFile sheet was is answer = MatchResult answer (λ _. PutsFew longest_sheet sheet was is) (BeforeRefusal sheet was is)
