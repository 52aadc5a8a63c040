-- The three steps: each takes a tally to the tally after it, or to its one refusal.
use Rattle.std.specs.Prelude.{not, ◌≡◌, ℕ, ltb, leb, set, Result, Ok, Err}
use Rattle.arithmetic.specs.Choice.{when◌then◌else◌}
use Rattle.ranges.specs.Outcome.{Outcome, answered, refused, value_after}
use Rattle.ranges.specs.Reasons.{number_of}
use Rattle.ranges.specs.Refusals.{out_of_range, no_such_slot, slot_taken, slot_empty, tally_unsound}
use Rattle.ranges.specs.Sizes.{item_width}
use Rattle.ranges.specs.declared.refusal.Refusal.{Refusal}
use Rattle.tally.specs.Tally.{slot_count, no_item, freed, holding, slot_at, tally_of, outside, sound}
use Rattle.tally.specs.declared.Item.{Item}
use Rattle.tally.specs.declared.Place.{Place}
use Rattle.tally.specs.declared.Slot.{Slot}
use Rattle.tally.specs.declared.Stepped.{Stepped}
use Rattle.tally.specs.declared.Tally.{Tally}

-- an item at a new place
abbrev pub moved_to : Place → Item → Item
moved_to p i = record { kg = i.kg; x = p.x; y = p.y; z = p.z }

-- the tally with a slot's content changed, and its totals those of the items then aboard
abbrev pub with_slot : Tally → ℕ → Slot → Tally
with_slot t slot s = tally_of (set t.slots slot s)

-- "load an item into an empty slot": 22, 4, 15, 16
unfoldable pub loads : ℕ → Item → Tally → Outcome Tally
loads slot i t =
    when not (sound t) then refused tally_unsound 0
    else when ltb (outside i) item_width then refused out_of_range (outside i)
    else when leb slot_count slot then refused no_such_slot slot
    else when (slot_at t slot).filled then refused slot_taken slot
    else answered (with_slot t slot (holding i))

-- "discharge a slot": 22, 15, 17
unfoldable pub discharges : ℕ → Tally → Outcome Tally
discharges slot t =
    when not (sound t) then refused tally_unsound 0
    else when leb slot_count slot then refused no_such_slot slot
    else when not (slot_at t slot).filled then refused slot_empty slot
    else answered (with_slot t slot freed)

-- "shift a slot's item to a new place": 22, 4, 15, 17. The place's numbers are tried as those of an item of 0 kg, so that theirs are the places 1 to 3.
unfoldable pub shifts : ℕ → Place → Tally → Outcome Tally
shifts slot p t =
    when not (sound t) then refused tally_unsound 0
    else when ltb (outside (moved_to p no_item)) item_width then refused out_of_range (outside (moved_to p no_item))
    else when leb slot_count slot then refused no_such_slot slot
    else when not (slot_at t slot).filled then refused slot_empty slot
    else answered (with_slot t slot (holding (moved_to p (slot_at t slot).item)))

-- the paper's number and values for each answer, with the tally beside it
abbrev pub paper_of : Result (Unit {0}) Refusal → Tally → Outcome Tally
paper_of (Ok done) after = answered after
paper_of (Err r) was = refused (number_of r.reason) r.place

abbrev pub paper : Stepped → Outcome Tally
paper s = paper_of s.answer s.tally

-- what a call hands back; "A refused step changes nothing."
pub record HandsBack (t : Tally) (outcome : Outcome Tally) (back : Stepped) : Type 0 where
  pub answer_is : paper back ≡ outcome
  pub tally_is : back.tally ≡ value_after (λ after. after) outcome t
