-- What change request 2 asks of the running tally, sentence by sentence. That a step is answered or refused with its number, and that a refused one changes nothing: demand 1.
use Rattle.std.specs.Prelude.{◌≡◌, true, List, ℕ, ℤ, length}
use Rattle.ranges.specs.Outcome.{answered}
use Rattle.ranges.specs.Sizes.{item_width}
use Rattle.loading.specs.Condition.{condition_of}
use Rattle.tally.specs.Condition.{condition_aboard}
use Rattle.tally.specs.History.{Step, taken, items_on, unless_refused, tally_after, list_after, answer_after, list_answer_after}
use Rattle.tally.specs.Steps.{with_slot, loads, discharges, HandsBack}
use Rattle.tally.specs.Tally.{slot_count, freed, holding, slot_at, table_of, added_up, outside, sound}
use Rattle.tally.specs.declared.Item.{Item}
use Rattle.tally.specs.declared.Stepped.{Stepped}
use Rattle.tally.specs.declared.Tally.{Tally}

pub record RunningTally : Type 0 where
  -- the tally that a call hands back is the one that the history goes on with
  pub steps_go_on : (step : Step) (t : Tally) (back : Stepped) → HandsBack t (taken step t) back → back.tally ≡ unless_refused (taken step t) t
  -- "After any sequence from an empty tally, weight and the three moments are those of the items then aboard, found by adding up the list of what was loaded
  -- and not discharged, each at its last place."
  pub totals_are_the_lists : (history : List Step) → (tally_after history).totals ≡ added_up (items_on (list_after history))
  -- so does each step answer, and it is refused exactly where the list does not allow it, with the same number and place
  pub answers_are_the_lists : (history : List Step) (step : Step) → answer_after history step ≡ list_answer_after history step
  -- 22 is for a tally that was not so made
  pub never_unsound : (history : List Step) → sound (tally_after history) ≡ true
  -- "A freed slot holds zeros and is usable at once."
  pub freed_is_usable : (slot : ℕ) (i : Item) (t : Tally) {u : Tally} → length t.slots ≡ slot_count → discharges slot t ≡ answered u → outside i ≡ item_width
      → (slot_at u slot ≡ freed) × (loads slot i u ≡ answered (with_slot u slot (holding i)))
  -- "GM is the condition's, from the items aboard with a row table and a tank list."
  pub condition_is_the_lists : (history : List Step) (tanks : List ℤ) (rows : List ℕ) → condition_aboard (tally_after history) tanks rows ≡ condition_of (table_of (items_on (list_after history))) tanks rows
