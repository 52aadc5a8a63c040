-- The rooms and the length are tried in the paper's order. Assumes nothing.
use native.Mathlib.Omega.{arith}
use Rattle.offsets.proofs.Answers.{half_short, items_short, tanks_short, text_too_long}
use Rattle.offsets.proofs.reader.read_file.Goals as goal

pub returns-then-half_breadths-lt-HALF_BREADTH_ROOM : goal.returns-then-half_breadths-lt-HALF_BREADTH_ROOM
returns-then-half_breadths-lt-HALF_BREADTH_ROOM c = rw c.at.ensures (half_short _ _ _ _ (omega arith))

pub returns-then-items-lt-ITEM_ROOM : goal.returns-then-items-lt-ITEM_ROOM
returns-then-items-lt-ITEM_ROOM c = rw c.at-then-items-lt-ITEM_ROOM.ensures (items_short _ _ _ _ (omega arith) (omega arith))

pub returns-then-tanks-lt-TANK_ROOM : goal.returns-then-tanks-lt-TANK_ROOM
returns-then-tanks-lt-TANK_ROOM c = rw c.at-then-tanks-lt-TANK_ROOM.ensures (tanks_short _ _ _ _ (omega arith) (omega arith) (omega arith))

pub returns-then-text-gt-LONGEST_FILE : goal.returns-then-text-gt-LONGEST_FILE
returns-then-text-gt-LONGEST_FILE c = rw c.at-then-text-gt-LONGEST_FILE.ensures (text_too_long _ _ _ _ (omega arith) (omega arith) (omega arith) (omega arith))
