-- A slot of a tally by the place of its numbers.
use Rattle.std.specs.Prelude.{ℕ, ◌+◌, ◌*◌, List, ℤ}
use Rattle.ranges.specs.Sizes.{item_width}
use Rattle.loading.specs.Private.Aboard.{number_at}
use Rattle.tally.specs.Tally.{slot_count}
use Rattle.tally.specs.declared.Slot.{Slot}
use Rattle.rugulosca.specs.Panel.{slot_from}

-- how many numbers a slot has, and how many all slots have
abbrev pub slot_width : ℕ
slot_width = 1 + item_width

abbrev pub slot_room : ℕ
slot_room = slot_width * slot_count

abbrev pub slot_in : List ℤ → ℕ → Slot
slot_in numbers at =
    slot_from (number_at numbers at) (number_at numbers (at + 1)) (number_at numbers (at + 2)) (number_at numbers (at + 3)) (number_at numbers (at + 4))
