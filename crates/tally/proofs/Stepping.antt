-- The steps, by their tests one after another.
--     Passed, passed_all                                  what a step rests on that passed the tests it begins with
--     loads_tried, loads_taken, loads_done                load: refused by those tests, by the slot, done
--     discharges_tried, discharges_empty, discharges_done discharge
--     shifts_tried, shifts_empty, shifts_done             shift
--     fitting_load, fitting_discharge, fitting_shift      what is aboard afterwards is in range
--     handed_back, handed                                 what a call hands back of a tally: it keeps the promise of a step
--     refused_as, done_as                                 as a step leaves it that was refused, and that was done
--     handed_unique                                       and nothing else keeps it
--     paper_stepped                                       what is handed back tells the outcome
--     step_unique                                         a lent tally's promise determines the answer and the tally
-- Assumes nothing.
use mathlib.Core.Path.{◌≡◌, refl, sym, ap, ap₂, ◌∙◌}
use mathlib.Core.Bool.{true, false}
use Prim.Native.Nat.{ℕ, ◌≤◌, ◌<◌}
use native.Mathlib.Omega.{arith}
use borrow.Author.Tests.{lt-ltb, le-ltb, le-leb, lt-leb}
use lib.ListN.{length}
use Rattle.std.specs.Prelude.{Result, Ok, Err}
use Rattle.arithmetic.proofs.Choice.{chosen}
use Rattle.arithmetic.proofs.Only.{only}
use Rattle.ranges.specs.Fields.{within}
use Rattle.ranges.specs.Outcome.{Outcome, answered, refused, and_then, value_after}
use Rattle.ranges.specs.Reasons.{number_of, paper as paper_result}
use Rattle.ranges.specs.Outside.{outside_from, first_outside}
use Rattle.ranges.specs.Refusals.{slot_taken, slot_empty}
use Rattle.ranges.specs.Sizes.{item_width}
use Rattle.ranges.specs.declared.refusal.Refusal.{Refusal}
use Rattle.ranges.proofs.Outcomes.{refused_not, refusal_same}
use Rattle.tally.specs.Private.Listing.{Fitting}
use Rattle.tally.specs.Private.Trying.{Tried, unsound, beyond, nowhere, none}
use Rattle.tally.specs.Steps.{moved_to, with_slot, loads, discharges, shifts, paper_of, paper, HandsBack}
use Rattle.tally.specs.Tally.{slot_count, no_item, freed, holding, slot_at, table_of, outside, sound}
use Rattle.tally.specs.declared.Item.{Item}
use Rattle.tally.specs.declared.Place.{Place}
use Rattle.tally.specs.declared.Stepped.{Stepped}
use Rattle.tally.specs.declared.Tally.{Tally}
use Rattle.tally.proofs.InRange.{in_range_moved}
use Rattle.tally.proofs.Slots.{in_range_at, in_range_set, freed_in_range, sound_in_range}

-- ---- the tests that a step begins with
pub record Passed (t : Tally) (i : Item) (slot : ℕ) : Type 0 where
  pub is_sound : sound t ≡ true
  pub inside : item_width ≤ outside i
  pub there : slot < slot_count

pub passed_all : {t : Tally} {i : Item} {slot : ℕ} {r : Result (Unit {0}) Refusal} {done : Unit {0}} → Tried t i slot r → r ≡ Ok done → Passed t i slot
passed_all (unsound s) e = refused_not (ap paper_result e)
passed_all (beyond s o h) e = refused_not (ap paper_result e)
passed_all (nowhere s o h) e = refused_not (ap paper_result e)
passed_all (none s o h) e = record { is_sound = s; inside = o; there = h }

-- a refusal that is passed on, in place of another answer
passed_on : {A B : Type 0} {n p n' p' : ℕ} → ◌≡◌ {A = Outcome A} (refused n p) (refused n' p') → ◌≡◌ {A = Outcome B} (refused n p) (refused n' p')
unfolding and_then
passed_on e = ap (λ o. and_then o (λ a. refused 0 0)) e

-- ---- load
module _ (slot : ℕ) (i : Item) (t : Tally) where
  pub loads_tried : {r : Result (Unit {0}) Refusal} {n p : ℕ} → Tried t i slot r → paper_result r ≡ refused n p → loads slot i t ≡ refused n p
  unfolding loads
  loads_tried (unsound s) e = simp (s, chosen) (passed_on e)
  loads_tried (beyond {place} s o h) e = rw (← o) (simp (s, lt-ltb place item_width h, chosen) (passed_on e))
  loads_tried (nowhere s o h) e = simp (s, le-ltb (outside i) item_width o, le-leb slot_count slot h, chosen) (passed_on e)
  loads_tried (none s o h) e = refused_not (sym e)

  module _ (p : Passed t i slot) where
    pub loads_taken : (slot_at t slot).filled ≡ true → loads slot i t ≡ refused slot_taken slot
    unfolding loads
    loads_taken f = simp (p.is_sound, le-ltb (outside i) item_width p.inside, lt-leb slot_count slot p.there, f, chosen)

    pub loads_done : (slot_at t slot).filled ≡ false → loads slot i t ≡ answered (with_slot t slot (holding i))
    unfolding loads
    loads_done f = simp (p.is_sound, le-ltb (outside i) item_width p.inside, lt-leb slot_count slot p.there, f, chosen)

    pub fitting_load : length t.slots ≡ slot_count → Fitting t slot (holding i)
    fitting_load all =
        record { there = p.there; is_in_range = in_range_set t.slots slot (omega (arith, p.there)) (sound_in_range t p.is_sound) (holding i) (λ f. p.inside) }

-- ---- discharge, tried with no item
nothing_inside : outside no_item ≡ item_width
unfolding table_of first_outside outside_from within
nothing_inside = simp chosen

module _ (slot : ℕ) (t : Tally) where
  pub discharges_tried : {r : Result (Unit {0}) Refusal} {n p : ℕ} → Tried t no_item slot r → paper_result r ≡ refused n p → discharges slot t ≡ refused n p
  unfolding discharges
  discharges_tried (unsound s) e = simp (s, chosen) (passed_on e)
  discharges_tried (beyond s o h) e = absurd (omega (arith, o, nothing_inside))
  discharges_tried (nowhere s o h) e = simp (s, le-leb slot_count slot h, chosen) (passed_on e)
  discharges_tried (none s o h) e = refused_not (sym e)

  module _ (p : Passed t no_item slot) where
    pub discharges_empty : (slot_at t slot).filled ≡ false → discharges slot t ≡ refused slot_empty slot
    unfolding discharges
    discharges_empty f = simp (p.is_sound, lt-leb slot_count slot p.there, f, chosen)

    pub discharges_done : (slot_at t slot).filled ≡ true → discharges slot t ≡ answered (with_slot t slot freed)
    unfolding discharges
    discharges_done f = simp (p.is_sound, lt-leb slot_count slot p.there, f, chosen)

    pub fitting_discharge : length t.slots ≡ slot_count → Fitting t slot freed
    fitting_discharge all =
        record { there = p.there; is_in_range = in_range_set t.slots slot (omega (arith, p.there)) (sound_in_range t p.is_sound) freed freed_in_range }

-- ---- shift, tried with an item of 0 kg at the new place
module _ (slot : ℕ) (to : Place) (t : Tally) where
  abbrev there_at : Item
  there_at = moved_to to no_item

  pub shifts_tried : {r : Result (Unit {0}) Refusal} {n p : ℕ} → Tried t (moved_to to no_item) slot r → paper_result r ≡ refused n p → shifts slot to t ≡ refused n p
  unfolding shifts
  shifts_tried (unsound s) e = simp (s, chosen) (passed_on e)
  shifts_tried (beyond {place} s o h) e = rw (← o) (simp (s, lt-ltb place item_width h, chosen) (passed_on e))
  shifts_tried (nowhere s o h) e = simp (s, le-ltb (outside there_at) item_width o, le-leb slot_count slot h, chosen) (passed_on e)
  shifts_tried (none s o h) e = refused_not (sym e)

  module _ (p : Passed t (moved_to to no_item) slot) where
    pub shifts_empty : (slot_at t slot).filled ≡ false → shifts slot to t ≡ refused slot_empty slot
    unfolding shifts
    shifts_empty f = simp (p.is_sound, le-ltb (outside there_at) item_width p.inside, lt-leb slot_count slot p.there, f, chosen)

    module _ (f : (slot_at t slot).filled ≡ true) where
      pub shifts_done : shifts slot to t ≡ answered (with_slot t slot (holding (moved_to to (slot_at t slot).item)))
      unfolding shifts
      shifts_done = simp (p.is_sound, le-ltb (outside there_at) item_width p.inside, lt-leb slot_count slot p.there, f, chosen)

      pub fitting_shift : length t.slots ≡ slot_count → Fitting t slot (holding (moved_to to (slot_at t slot).item))
      fitting_shift all =
          let was = (slot_at t slot).item in
          let here : slot < length t.slots = omega (arith, p.there) in
          let is_in_range = sound_in_range t p.is_sound in
          let moved = in_range_moved to was (in_range_at t.slots slot here is_in_range f) p.inside in
          record { there = p.there; is_in_range = in_range_set t.slots slot here is_in_range (holding (moved_to to was)) (λ g. moved) }

-- ---- what is handed back
abbrev pub handed_back : Tally → Result Tally Refusal → Stepped
handed_back t (Ok after) = record { answer = Ok tt; tally = after }
handed_back t (Err r) = record { answer = Err r; tally = t }

pub handed : (t : Tally) (after : Result Tally Refusal) → HandsBack t (paper_result after) (handed_back t after)
handed t (Ok after) = record { answer_is = refl; tally_is = refl }
handed t (Err r) = record { answer_is = refl; tally_is = refl }

pub refused_as : {t : Tally} {o : Outcome Tally} {r s : Refusal} → r ≡ s → o ≡ refused (number_of s.reason) s.place → HandsBack t o (record { answer = Err r; tally = t })
refused_as {t} e f = record {
  answer_is = ap (λ r. paper_of (Err r) t) e ∙ sym f;
  tally_is = sym (ap (λ o. value_after (λ after. after) o t) f);
}

pub done_as : {t after u : Tally} {o : Outcome Tally} → after ≡ u → o ≡ answered u → HandsBack t o (record { answer = Ok tt; tally = after })
done_as {t} e f = record {
  answer_is = ap answered e ∙ sym f;
  tally_is = e ∙ sym (ap (λ o. value_after (λ after. after) o t) f);
}

answer_known_by : (a b : Result (Unit {0}) Refusal) (t u : Tally) → paper_of a t ≡ paper_of b u → a ≡ b
answer_known_by (Ok x) (Ok y) t u e = refl
answer_known_by (Ok x) (Err s) t u e = refused_not (sym e)
answer_known_by (Err r) (Ok y) t u e = refused_not e
answer_known_by (Err r) (Err s) t u e = ap Err (refusal_same r s e)

pub handed_unique : {t : Tally} {o : Outcome Tally} {s s' : Stepped} → HandsBack t o s → HandsBack t o s' → s ≡ s'
handed_unique {s} {s'} one other =
    ap₂ (λ a u. record { answer = a; tally = u }) (answer_known_by s.answer s'.answer s.tally s'.tally (one.answer_is ∙ sym other.answer_is)) (only one.tally_is other.tally_is)

pub step_unique : {a b : Result (Unit {0}) Refusal} {t u was : Tally} {o : Outcome Tally} → HandsBack was o (record { answer = a; tally = t }) → HandsBack was o (record { answer = b; tally = u }) → (a ≡ b) × (t ≡ u)
step_unique one other = let same = handed_unique one other in (ap (λ s. s.answer) same, ap (λ s. s.tally) same)

-- what is handed back tells the outcome
pub paper_stepped : {t : Tally} {o : Outcome Tally} {s : Stepped} → HandsBack t o s → paper s ≡ o
paper_stepped h = h.answer_is
