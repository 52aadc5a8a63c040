-- A tally through a history, beside the crane driver's list: the theorems of the running tally.
--     totals_after          the totals are those of the items then aboard, found by adding up the list
--     answers_alike         a step answers the list's totals, and is refused exactly where the list does not allow it
--     always_sound          a tally so made is never refused for what it holds
--     condition_after       the condition of what is aboard is that of the list's items
--     usable_at_once        a discharged slot holds zeros, and can be loaded again at once
--     refused_unchanged     a refused step changes nothing
--     stepped_on            the tally that a call hands back is the one that the history goes on with
-- Assumes nothing.
use mathlib.Core.Path.{◌≡◌, refl, sym, ap, ◌∙◌}
use mathlib.Core.Bool.{Bool, true, false, not}
use mathlib.Core.List.{List, [], ◌∷◌}
use Prim.Native.Nat.{ℕ, zero, suc, ◌<◌}
use native.Mathlib.Omega.{arith}
use borrow.Author.Tests.{ltb-false, leb-false, le-ltb, eqb-true, not-false}
use lib.Dec.{ltb, leb}
use lib.IntN.{ℤ}
use lib.ListN.{length, get_or, set, replicate, length-set}
use lib.Seq.{get_or-set_same, get_or-set_other}
use Rattle.arithmetic.specs.Choice.{when◌then◌else◌}
use Rattle.arithmetic.proofs.Choice.{chosen}
use Rattle.arithmetic.proofs.Tests.{same_or_other}
use Rattle.ranges.specs.Fields.{item}
use Rattle.ranges.specs.Outcome.{Outcome, answered, refused, answer_with, value_after}
use Rattle.ranges.specs.Outside.{outside_from, first_outside}
use Rattle.ranges.specs.Refusals.{no_such_slot, slot_empty, tally_unsound}
use Rattle.ranges.specs.Sizes.{item_width}
use Rattle.ranges.proofs.Outcomes.{answer_same, not_refused}
use Rattle.loading.specs.Condition.{condition_of}
use Rattle.loading.specs.Paper.{default_reading}
use Rattle.loading.proofs.SameTotals.{condition_same}
use Rattle.tally.specs.Condition.{condition_aboard}
use Rattle.tally.specs.History.{Step, load, discharge, shift, taken, Line, is_listed, struck, moved, entered, items_on, unless_refused, through, tally_after, list_after, answer_after, list_answer_after}
use Rattle.tally.specs.Steps.{moved_to, with_slot, loads, discharges, shifts, HandsBack}
use Rattle.tally.specs.Tally.{slot_count, no_item, freed, holding, slot_at, aboard, table_of, added_up, tally_of, empty, outside, in_range, sound}
use Rattle.tally.specs.declared.Item.{Item}
use Rattle.tally.specs.declared.Slot.{Slot}
use Rattle.tally.specs.declared.Stepped.{Stepped}
use Rattle.tally.specs.declared.Tally.{Tally}
use Rattle.tally.proofs.AnyOrder.{InAnyOrder, totals_any_order, count_any_order, range_any_order}
use Rattle.tally.proofs.InRange.{in_range_moved}
use Rattle.tally.proofs.Lists.{held, held_listed, held_unlisted, held_entered, held_beside_entered, held_struck, held_beside_struck, held_moved, held_beside_moved, OnceEach, none, more, once_struck, once_moved}
use Rattle.tally.proofs.Slots.{none_aboard, figure_slot, SlotInRange, freed_in_range, in_range_at, in_range_set, sound_is, sound_in_range}

-- ---- one step of any tally
pub refused_unchanged : {t : Tally} {o : Outcome Tally} {s : Stepped} {number place : ℕ} → HandsBack t o s → o ≡ refused number place → s.tally ≡ t
refused_unchanged {t} back e = back.tally_is ∙ ap (λ o. value_after (λ after. after) o t) e

after_or_was : (t : Tally) (o : Outcome Tally) → value_after (λ after. after) o t ≡ unless_refused o t
after_or_was t (answered after) = refl
after_or_was t (refused number place) = refl

pub stepped_on : {t : Tally} {o : Outcome Tally} {s : Stepped} → HandsBack t o s → s.tally ≡ unless_refused o t
stepped_on {t} {o} back = back.tally_is ∙ after_or_was t o

pub usable_at_once : (slot : ℕ) (i : Item) (t : Tally) {u : Tally} → length t.slots ≡ slot_count → discharges slot t ≡ answered u → outside i ≡ item_width → (slot_at u slot ≡ freed) × (loads slot i u ≡ answered (with_slot u slot (holding i)))
unfolding discharges loads tally_of
usable_at_once slot i t {u} size e inside =
    let soundness = not_refused tally_unsound 0 e in
    let exists = not_refused no_such_slot slot soundness.1 in
    let full = not_refused slot_empty slot exists.1 in
    let is : with_slot t slot freed ≡ u = answer_same full.1 in
    let there : slot < length t.slots = omega (arith, size, leb-false slot_count slot exists.0) in
    let is_in_range = sound_in_range t (not-false (sound t) soundness.0) in
    let still-sound : sound u ≡ true = rw (← is) (sound_is (with_slot t slot freed) (in_range_set t.slots slot there is_in_range freed freed_in_range) refl) in
    let free : slot_at u slot ≡ freed = rw (← is) (get_or-set_same t.slots slot freed freed there) in
    (free, simp (still-sound, le-ltb (outside i) item_width (omega (arith, inside)), exists.0, ap (λ s. s.filled) free, chosen))

-- ---- what is aboard and what is listed
-- a figure of items that does not depend on their order is the same of what is aboard and of the list
module _ {A : Type 0} {figure : List Item → A} {put : Item → A → A} (any : InAnyOrder figure put) where
  figure_listed : {list : List Line} → OnceEach list → (slots : List Slot) → length slots ≡ slot_count → ((k : ℕ) → get_or slots k freed ≡ held list k) → figure (aboard slots) ≡ figure (items_on list)
  unfolding held
  figure_listed none slots size holds = ap figure (none_aboard slots holds)
  figure_listed (more {l} {rest} exists alone once) slots size holds =
      let k : ℕ = l.slot in
      let there : k < length slots = omega (arith, size, exists) in
      let others : List Slot = set slots k freed in
      let still : (j : ℕ) → get_or others j freed ≡ held rest j =
      λ j. same_or_other j k
      (λ same. rw same (get_or-set_same slots k freed freed there ∙ sym (held_unlisted rest k alone)))
      (λ other. get_or-set_other slots k j freed freed other ∙ holds j ∙ held_beside_entered l rest j other) in
      figure_slot any slots k there
      ∙ rw (holds k ∙ held_entered l rest) (simp chosen)
      ∙ ap (put l.item) (figure_listed once others (length-set slots k freed ∙ size) still)
      ∙ sym (any.first l.item (items_on rest))

-- ---- the list tells what the tally holds
record Tells (list : List Line) (t : Tally) : Type 0 where
  pub size : length t.slots ≡ slot_count
  pub totals : t.totals ≡ added_up (aboard t.slots)
  pub is_in_range : in_range (aboard t.slots) ≡ true
  pub holds : (k : ℕ) → slot_at t k ≡ held list k
  pub once : OnceEach list

all_freed : (n k : ℕ) → get_or (replicate n freed) k freed ≡ freed
all_freed zero k = refl
all_freed (suc n) zero = refl
all_freed (suc n) (suc k) = all_freed n k

tells_empty : Tells [] empty
unfolding held first_outside outside_from table_of
tells_empty =
    let nothing : aboard (replicate slot_count freed) ≡ [] = none_aboard (replicate slot_count freed) (all_freed slot_count) in
    record { size = refl; totals = ap added_up (sym nothing); is_in_range = ap in_range nothing; holds = all_freed slot_count; once = none }

module _ {list : List Line} {t : Tally} (tells : Tells list t) where
  figure_told : {A : Type 0} {figure : List Item → A} {put : Item → A → A} → InAnyOrder figure put → figure (aboard t.slots) ≡ figure (items_on list)
  figure_told any = figure_listed any tells.once t.slots tells.size tells.holds

  totals_told : t.totals ≡ added_up (items_on list)
  totals_told = tells.totals ∙ figure_told totals_any_order

  sound_told : sound t ≡ true
  sound_told = sound_is t tells.is_in_range tells.totals

  condition_told : (tanks : List ℤ) (rows : List ℕ) → condition_aboard t tanks rows ≡ condition_of (table_of (items_on list)) tanks rows
  unfolding condition_aboard
  condition_told tanks rows =
      let a : List ℤ = table_of (aboard t.slots) in
      let b : List ℤ = table_of (items_on list) in
      simp (sound_told, chosen)
      (condition_same default_reading a b tanks rows
      (figure_told count_any_order)
      (eqb-true (first_outside item a) (length a) tells.is_in_range)
      (eqb-true (first_outside item b) (length b) (sym (figure_told range_any_order) ∙ tells.is_in_range))
      (sym tells.totals ∙ totals_told))

  filled_told : (k : ℕ) → (slot_at t k).filled ≡ is_listed k list
  filled_told k = ap (λ s. s.filled) (tells.holds k) ∙ held_listed list k

  -- a slot's content changed, and a new list that differs in that slot alone
  tells_set : (k : ℕ) (s : Slot) (new : List Line) → k < slot_count → SlotInRange s → held new k ≡ s → ((j : ℕ) → (j ≡ k → ⊥) → held new j ≡ held list j) → OnceEach new → Tells new (with_slot t k s)
  unfolding tally_of
  tells_set k s new exists fits same beside once =
      let there : k < length t.slots = omega (arith, tells.size) in
      record {
        size = length-set t.slots k s ∙ tells.size;
        totals = refl;
        is_in_range = in_range_set t.slots k there tells.is_in_range s fits;
        holds = λ j. same_or_other j k
            (λ q. rw q (get_or-set_same t.slots k s freed there ∙ sym same))
            (λ q. get_or-set_other t.slots k j s freed q ∙ tells.holds j ∙ sym (beside j q));
        once = once;
      }

-- what a step comes to with the tally and with the list: both as told, or one refusal
data Alike : Outcome Tally → Outcome (List Line) → Type 0 where
  both_answered : {t : Tally} {list : List Line} → Tells list t → Alike (answered t) (answered list)
  both_refused : {number place : ℕ} → Alike (refused number place) (refused number place)

alike_if : {o o₂ : Outcome Tally} {p p₂ : Outcome (List Line)} (test : Bool) → (test ≡ true → Alike o p) → (test ≡ false → Alike o₂ p₂) → Alike (when test then o else o₂) (when test then p else p₂)
unfolding when◌then◌else◌
alike_if true when_true when_false = when_true refl
alike_if false when_true when_false = when_false refl

alike_step : (step : Step) {list : List Line} {t : Tally} → Tells list t → Alike (taken step t) (entered step list)
unfolding loads discharges shifts entered
alike_step (load slot i) {list} {t} tells =
    simp (sound_told tells, filled_told tells slot, chosen)
    (alike_if (ltb (outside i) item_width) (λ e. both_refused) (λ inside.
    alike_if (leb slot_count slot) (λ e. both_refused) (λ exists.
    alike_if (is_listed slot list) (λ e. both_refused) (λ free.
    let l : Line = record { slot = slot; item = i } in
    let there = leb-false slot_count slot exists in
    both_answered (tells_set tells slot (holding i) (l ∷ list) there (λ f. ltb-false (outside i) item_width inside) (held_entered l list) (held_beside_entered l list) (more there free tells.once))))))
alike_step (discharge slot) {list} {t} tells =
    simp (sound_told tells, filled_told tells slot, chosen)
    (alike_if (leb slot_count slot) (λ e. both_refused) (λ exists.
    alike_if (not (is_listed slot list)) (λ e. both_refused) (λ full.
    both_answered (tells_set tells slot freed (struck slot list) (leb-false slot_count slot exists) freed_in_range (held_struck slot list) (held_beside_struck slot list) (once_struck slot tells.once)))))
alike_step (shift slot p) {list} {t} tells =
    simp (sound_told tells, filled_told tells slot, chosen)
    (alike_if (ltb (outside (moved_to p no_item)) item_width) (λ e. both_refused) (λ inside.
    alike_if (leb slot_count slot) (λ e. both_refused) (λ exists.
    alike_if (not (is_listed slot list)) (λ e. both_refused) (λ full.
    let there = leb-false slot_count slot exists in
    let listed : is_listed slot list ≡ true = not-false (is_listed slot list) full in
    let was-inside = in_range_at t.slots slot (omega (arith, there, tells.size)) tells.is_in_range (filled_told tells slot ∙ listed) in
    both_answered (tells_set tells slot (holding (moved_to p (slot_at t slot).item)) (moved slot p list) there
    (λ f. in_range_moved p (slot_at t slot).item was-inside (ltb-false (outside (moved_to p no_item)) item_width inside))
    (held_moved slot p list listed ∙ ap (λ s. holding (moved_to p s.item)) (sym (tells.holds slot)))
    (held_beside_moved slot p list)
    (once_moved slot p tells.once))))))

-- ---- through a history
alike_after : {o : Outcome Tally} {p : Outcome (List Line)} {t : Tally} {list : List Line} → Alike o p → Tells list t → Tells (unless_refused p list) (unless_refused o t)
alike_after (both_answered now) before = now
alike_after both_refused before = before

tells_through : {list : List Line} {t : Tally} → Tells list t → (history : List Step) → Tells (through entered list history) (through taken t history)
unfolding through
tells_through tells [] = tells
tells_through {list = list} {t = t} tells (step ∷ rest) = tells_through {list = unless_refused (entered step list) list} {t = unless_refused (taken step t) t} (alike_after (alike_step step tells) tells) rest

tells_after : (history : List Step) → Tells (list_after history) (tally_after history)
tells_after history = tells_through tells_empty history

pub totals_after : (history : List Step) → (tally_after history).totals ≡ added_up (items_on (list_after history))
totals_after history = totals_told (tells_after history)

alike_answers : {o : Outcome Tally} {p : Outcome (List Line)} → Alike o p → answer_with (λ t. t.totals) o ≡ answer_with (λ list. added_up (items_on list)) p
unfolding answer_with
alike_answers (both_answered tells) = ap answered (totals_told tells)
alike_answers both_refused = refl

pub answers_alike : (history : List Step) (step : Step) → answer_after history step ≡ list_answer_after history step
answers_alike history step = alike_answers (alike_step step (tells_after history))

pub always_sound : (history : List Step) → sound (tally_after history) ≡ true
always_sound history = sound_told (tells_after history)

pub condition_after : (history : List Step) (tanks : List ℤ) (rows : List ℕ) → condition_aboard (tally_after history) tanks rows ≡ condition_of (table_of (items_on (list_after history))) tanks rows
condition_after history tanks rows = condition_told (tells_after history) tanks rows
