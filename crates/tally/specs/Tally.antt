-- A tally: 32 slots, each empty or with an item, and the totals of what is aboard.
use Rattle.std.specs.Prelude.{Bool, false, true, ◌&&◌, List, [], ◌∷◌, ℕ, eqb, ℤ, pos, length, get_or, replicate}
use Rattle.arithmetic.specs.Choice.{when◌then◌else◌}
use Rattle.arithmetic.specs.Signed.{eq_ℤ}
use Rattle.ranges.specs.Fields.{item}
use Rattle.ranges.specs.Outside.{first_outside}
use Rattle.loading.specs.Items.{totals_of_items}
use Rattle.loading.specs.declared.Totals.{Totals}
use Rattle.tally.specs.declared.Item.{Item}
use Rattle.tally.specs.declared.Slot.{Slot}
use Rattle.tally.specs.declared.Tally.{Tally}

-- "a tally of 32 slots"
abbrev pub slot_count : ℕ
slot_count = 32

-- "A freed slot holds zeros"
abbrev pub no_item : Item
no_item = record { kg = pos 0; x = pos 0; y = pos 0; z = pos 0 }

abbrev pub freed : Slot
freed = record { filled = false; item = no_item }

abbrev pub holding : Item → Slot
holding i = record { filled = true; item = i }

-- the slot of a number
abbrev pub slot_at : Tally → ℕ → Slot
slot_at t slot = get_or t.slots slot freed

-- the items aboard: those of the filled slots; what an empty slot holds counts for nothing
unfoldable pub aboard : List Slot → List Item
aboard [] = []
aboard (s ∷ rest) = when s.filled then s.item ∷ aboard rest else aboard rest

-- items as a table of items, four numbers each
unfoldable pub table_of : List Item → List ℤ
table_of [] = []
table_of (i ∷ rest) = i.kg ∷ i.x ∷ i.y ∷ i.z ∷ table_of rest

-- "weight and the three moments are those of the items": the sums are the loading condition's own
abbrev pub added_up : List Item → Totals
added_up items = totals_of_items (table_of items)

-- the tally of these slots
unfoldable pub tally_of : List Slot → Tally
tally_of slots = record { slots = slots; totals = added_up (aboard slots) }

abbrev pub empty : Tally
empty = record { slots = replicate slot_count freed; totals = added_up [] }

-- the place of the first of an item's four numbers out of range, or 4
abbrev pub outside : Item → ℕ
outside i = first_outside item (table_of (i ∷ []))

-- ---- a tally that is handed in
abbrev pub in_range : List Item → Bool
in_range items = eqb (first_outside item (table_of items)) (length (table_of items))

unfoldable pub same_totals : Totals → Totals → Bool
same_totals a b =
    eqb a.weight b.weight && eqb a.longitudinal b.longitudinal && eqb a.vertical b.vertical && eq_ℤ a.transverse b.transverse

-- none of "a filled slot out of range or totals not its items'"
unfoldable pub sound : Tally → Bool
sound t = in_range (aboard t.slots) && same_totals t.totals (added_up (aboard t.slots))
