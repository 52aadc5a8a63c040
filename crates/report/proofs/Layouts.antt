-- The sheet of a file does not depend on its layout.
--     read_said         the sheet of a text that is read is that of its contents
--     same_sheet        so texts that are read as the same contents have the same sheet
--     edited_sheet      as have a text and what an editor makes of it that puts separators for separators
-- Assumes nothing.
use Prim.Native.Nat.{ℕ, ◌≤◌}
use mathlib.Core.Path.{◌≡◌, sym, ap, ◌∙◌}
use mathlib.Core.List.{List}
use native.Mathlib.Omega.{arith}
use lib.ListN.{length}
use Rattle.offsets.proofs.Answers.{past_sizes}
use Rattle.offsets.proofs.Editors.{ReadAs, Editor, edited, edited_alike}
use Rattle.offsets.specs.File.{Contents}
use Rattle.ranges.specs.Outcome.{answered}
use Rattle.ranges.specs.Sizes.{longest_file, room_for_half_breadths, room_for_items, room_for_tanks}
use Rattle.loading.specs.declared.Reading.{Reading}
use Rattle.report.specs.Sheet.{file_said, sheet_by}

pub read_said : (reading : Reading) (text : List ℕ) (c : Contents) → length text ≤ longest_file → ReadAs text c → sheet_by reading text ≡ file_said reading (answered c)
unfolding sheet_by
read_said reading text c short e =
    ap (file_said reading) (past_sizes text room_for_half_breadths room_for_items room_for_tanks (omega arith) (omega arith) (omega arith) short ∙ e)

pub same_sheet : (reading : Reading) (text other : List ℕ) (c : Contents) → length text ≤ longest_file → length other ≤ longest_file → ReadAs text c → ReadAs other c → sheet_by reading other ≡ sheet_by reading text
same_sheet reading text other c short few e o = read_said reading other c few o ∙ sym (read_said reading text c short e)

pub edited_sheet : (reading : Reading) {puts : ℕ → List ℕ} → Editor puts → (text : List ℕ) (c : Contents) → length text ≤ longest_file → length (edited puts text) ≤ longest_file
    → ReadAs text c → sheet_by reading (edited puts text) ≡ sheet_by reading text
edited_sheet reading {puts} editor text c short few e = same_sheet reading text (edited puts text) c short few e (edited_alike editor text c e)
