-- A history: steps from an empty tally on, and the crane driver's own list of what is aboard, kept by the steps alone.
use Rattle.std.specs.Prelude.{Bool, false, not, ◌||◌, List, [], ◌∷◌, map, ℕ, ltb, leb, eqb}
use Rattle.arithmetic.specs.Choice.{when◌then◌else◌}
use Rattle.ranges.specs.Outcome.{Outcome, answered, refused, answer_with}
use Rattle.ranges.specs.Refusals.{out_of_range, no_such_slot, slot_taken, slot_empty}
use Rattle.ranges.specs.Sizes.{item_width}
use Rattle.loading.specs.declared.Totals.{Totals}
use Rattle.tally.specs.Steps.{moved_to, loads, discharges, shifts}
use Rattle.tally.specs.Tally.{slot_count, no_item, outside, added_up, empty}
use Rattle.tally.specs.declared.Item.{Item}
use Rattle.tally.specs.declared.Place.{Place}
use Rattle.tally.specs.declared.Tally.{Tally}

-- a step, as it is ordered
pub data Step : Type 0 where
  load : ℕ → Item → Step
  discharge : ℕ → Step
  shift : ℕ → Place → Step

abbrev pub taken : Step → Tally → Outcome Tally
taken (load slot i) = loads slot i
taken (discharge slot) = discharges slot
taken (shift slot p) = shifts slot p

-- ---- the list
-- a line of it: a slot, and the item that was loaded there
pub record Line : Type 0 where
  pub slot : ℕ
  pub item : Item

unfoldable pub is_listed : ℕ → List Line → Bool
is_listed slot [] = false
is_listed slot (l ∷ rest) = eqb l.slot slot || is_listed slot rest

-- the list without a slot's line
unfoldable pub struck : ℕ → List Line → List Line
struck slot [] = []
struck slot (l ∷ rest) = when eqb l.slot slot then struck slot rest else l ∷ struck slot rest

-- the list with a slot's item at a new place
unfoldable pub moved : ℕ → Place → List Line → List Line
moved slot p [] = []
moved slot p (l ∷ rest) =
    (when eqb l.slot slot then record { slot = l.slot; item = moved_to p l.item } else l) ∷ moved slot p rest

-- what is loaded is entered, what is discharged is struck out, and what is shifted stands at its new place; or why the step is not allowed
unfoldable pub entered : Step → List Line → Outcome (List Line)
entered (load slot i) list =
    when ltb (outside i) item_width then refused out_of_range (outside i)
    else when leb slot_count slot then refused no_such_slot slot
    else when is_listed slot list then refused slot_taken slot
    else answered (record { slot = slot; item = i } ∷ list)
entered (discharge slot) list =
    when leb slot_count slot then refused no_such_slot slot
    else when not (is_listed slot list) then refused slot_empty slot
    else answered (struck slot list)
entered (shift slot p) list =
    when ltb (outside (moved_to p no_item)) item_width then refused out_of_range (outside (moved_to p no_item))
    else when leb slot_count slot then refused no_such_slot slot
    else when not (is_listed slot list) then refused slot_empty slot
    else answered (moved slot p list)

-- "those of the items then aboard, found by adding up the list"
abbrev pub items_on : List Line → List Item
items_on list = map (λ l. l.item) list

-- ---- through a history, the first step first; "A refused step changes nothing."
abbrev pub unless_refused : {A : Type 0} → Outcome A → A → A
unless_refused (answered a) was = a
unless_refused (refused number place) was = was

module _ {State : Type 0} (step : Step → State → Outcome State) where
  unfoldable pub through : State → List Step → State
  through s [] = s
  through s (o ∷ rest) = through (unless_refused (step o s) s) rest

-- the tally, and "the list of what was loaded and not discharged, each at its last place", after a history
abbrev pub tally_after : List Step → Tally
tally_after history = through taken empty history

abbrev pub list_after : List Step → List Line
list_after history = through entered [] history

-- what a step after it answers: the totals then, or its refusal; of the tally, and by the list alone
abbrev pub answer_after : List Step → Step → Outcome Totals
answer_after history step = answer_with (λ t. t.totals) (taken step (tally_after history))

abbrev pub list_answer_after : List Step → Step → Outcome Totals
list_answer_after history step = answer_with (λ list. added_up (items_on list)) (entered step (list_after history))
