-- The tests that a step begins with: the words of a private contract.
use Rattle.std.specs.Prelude.{◌≡◌, true, false, ℕ, ◌≤◌, ◌<◌, Result, Ok, Err}
use Rattle.ranges.specs.Sizes.{item_width}
use Rattle.ranges.specs.declared.refusal.Reason.TheVariants.{OutOfRange, NoSuchSlot, TallyUnsound}
use Rattle.ranges.specs.declared.refusal.Refusal.{Refusal}
use Rattle.tally.specs.Tally.{slot_count, outside, sound}
use Rattle.tally.specs.declared.Item.{Item}
use Rattle.tally.specs.declared.Tally.{Tally}

-- the first that refuses, 22, 4 or 15, or none
pub data Tried (t : Tally) (i : Item) (slot : ℕ) : Result (Unit {0}) Refusal → Type 0 where
  unsound : sound t ≡ false → Tried t i slot (Err (record { reason = TallyUnsound; place = 0 }))
  beyond : {place : ℕ} → sound t ≡ true → place ≡ outside i → place < item_width → Tried t i slot (Err (record { reason = OutOfRange; place = place }))
  nowhere : sound t ≡ true → item_width ≤ outside i → slot_count ≤ slot → Tried t i slot (Err (record { reason = NoSuchSlot; place = slot }))
  none : sound t ≡ true → item_width ≤ outside i → slot < slot_count → Tried t i slot (Ok tt)
