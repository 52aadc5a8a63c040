-- The items aboard in a table with room for all slots, and slots in range: the words of private contracts.
use Rattle.std.specs.Prelude.{true, ◌≡◌, List, ℕ, ◌<◌, take, set}
use Rattle.tally.specs.Tally.{slot_count, aboard, table_of, in_range}
use Rattle.tally.specs.declared.Slot.{Slot}
use Rattle.tally.specs.declared.Tally.{Tally}
use Rattle.tally.specs.declared.listed.Listed.{Listed}

-- what counts of a table is the items aboard
pub record Lists (slots : List Slot) (r : Listed) : Type 0 where
  pub is : take r.count r.numbers ≡ table_of (aboard slots)

-- there is such a slot, and with this content in it all that is aboard is in range
pub record Fitting (t : Tally) (slot : ℕ) (content : Slot) : Type 0 where
  pub there : slot < slot_count
  pub is_in_range : in_range (aboard (set t.slots slot content)) ≡ true
