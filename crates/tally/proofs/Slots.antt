-- The slots of a tally, and what is aboard in them.
--     none_aboard                    where no slot is filled nothing is aboard
--     brings                         a slot's part in a figure of what is aboard
--     figure_set, figure_slot        such a figure is what one slot brings, put to that of the others: of a slot changed, and as it stands
--     SlotInRange, freed_in_range    a slot's item is in range, if it is filled; a freed slot's
--     in_range_at, in_range_set      where all that is aboard is in range, so is each slot, and all that is aboard with a slot changed
--     sound_is, sound_in_range       what makes a tally sound, and what that says of its items
-- Assumes nothing.
use mathlib.Core.Path.{◌≡◌, refl, sym, ap, ◌∙◌}
use mathlib.Core.Bool.{Bool, true, false, ◌&&◌}
use mathlib.Core.List.{List, [], ◌∷◌}
use Prim.Native.Nat.{ℕ, zero, suc, ◌≤◌, ◌<◌}
use native.Mathlib.Omega.{arith}
use borrow.Author.Tests.{leb-true, le-leb, eq-eqb}
use lib.Dec.{leb}
use lib.ListN.{length, get_or, set}
use lib.Seq.{set-get_or}
use Rattle.arithmetic.specs.Choice.{when◌then◌else◌}
use Rattle.arithmetic.proofs.Choice.{chosen, if_either}
use Rattle.arithmetic.proofs.Crossing.{same_eq_ℤ}
use Rattle.arithmetic.proofs.Tests.{both, never}
use Rattle.ranges.specs.Sizes.{item_width}
use Rattle.loading.specs.declared.Totals.{Totals}
use Rattle.tally.specs.Tally.{freed, aboard, added_up, outside, in_range, same_totals, sound}
use Rattle.tally.specs.declared.Item.{Item}
use Rattle.tally.specs.declared.Slot.{Slot}
use Rattle.tally.specs.declared.Tally.{Tally}
use Rattle.tally.proofs.AnyOrder.{InAnyOrder, range_any_order}

pub none_aboard : (slots : List Slot) → ((k : ℕ) → get_or slots k freed ≡ freed) → aboard slots ≡ []
unfolding aboard
none_aboard [] h = refl
none_aboard (s ∷ rest) h = simp (ap (λ s. s.filled) (h 0), chosen) (none_aboard rest (λ k. h (suc k)))

-- ---- a figure of what is aboard, by one slot
module _ {A : Type 0} {figure : List Item → A} {put : Item → A → A} (any : InAnyOrder figure put) where
  -- its item, if it is filled
  abbrev pub brings : Slot → A → A
  brings s a = when s.filled then put s.item a else a

  figure_first : (s : Slot) (rest : List Slot) → figure (aboard (s ∷ rest)) ≡ brings s (figure (aboard rest))
  unfolding aboard
  figure_first s rest = by_filled s.filled
    where
      by_filled : (filled : Bool) → figure (when filled then s.item ∷ aboard rest else aboard rest) ≡ (when filled then put s.item (figure (aboard rest)) else figure (aboard rest))
      by_filled true = simp chosen (any.first s.item (aboard rest))
      by_filled false = simp chosen

  brings_either : (s t : Slot) (a : A) → brings s (brings t a) ≡ brings t (brings s a)
  brings_either s t a = by_filled s.filled t.filled
    where
      by_filled : (b c : Bool) → (when b then put s.item (when c then put t.item a else a) else when c then put t.item a else a) ≡ (when c then put t.item (when b then put s.item a else a) else when b then put s.item a else a)
      by_filled true true = simp chosen (any.either s.item t.item a)
      by_filled true false = simp chosen
      by_filled false true = simp chosen
      by_filled false false = simp chosen

  pub figure_set : (slots : List Slot) (k : ℕ) (s : Slot) → k < length slots → figure (aboard (set slots k s)) ≡ brings s (figure (aboard (set slots k freed)))
  figure_set [] k s h = absurd (omega arith)
  figure_set (t ∷ rest) zero s h =
      figure_first s rest ∙ ap (brings s) (sym (figure_first freed rest ∙ simp chosen))
  figure_set (t ∷ rest) (suc k) s h =
      let others : A = figure (aboard (set rest k freed)) in
      figure_first t (set rest k s)
      ∙ ap (brings t) (figure_set rest k s (omega arith))
      ∙ brings_either t s others
      ∙ ap (brings s) (sym (figure_first t (set rest k freed)))

  pub figure_slot : (slots : List Slot) (k : ℕ) → k < length slots → figure (aboard slots) ≡ brings (get_or slots k freed) (figure (aboard (set slots k freed)))
  figure_slot slots k h = ap (λ l. figure (aboard l)) (sym (set-get_or slots k freed)) ∙ figure_set slots k (get_or slots k freed) h

-- ---- slots in range
abbrev pub SlotInRange : Slot → Type 0
SlotInRange s = s.filled ≡ true → item_width ≤ outside s.item

both_in_range : (s : Slot) (others : Bool) → brings range_any_order s others ≡ true → SlotInRange s × (others ≡ true)
both_in_range s others e = by_filled s.filled e
  where
    by_filled : (filled : Bool) → (when filled then leb item_width (outside s.item) && others else others) ≡ true → (filled ≡ true → item_width ≤ outside s.item) × (others ≡ true)
    by_filled true e =
        let h = both (leb item_width (outside s.item)) others (simp chosen at e) in
        (λ f. leb-true item_width (outside s.item) h.0, h.1)
    by_filled false e = (λ f. never f, simp chosen at e)

module _ (slots : List Slot) (k : ℕ) (there : k < length slots) (all : in_range (aboard slots) ≡ true) where
  apart : SlotInRange (get_or slots k freed) × (in_range (aboard (set slots k freed)) ≡ true)
  apart = both_in_range (get_or slots k freed) (in_range (aboard (set slots k freed))) (sym (figure_slot range_any_order slots k there) ∙ all)

  pub in_range_at : SlotInRange (get_or slots k freed)
  in_range_at = apart.0

  pub in_range_set : (s : Slot) → SlotInRange s → in_range (aboard (set slots k s)) ≡ true
  in_range_set s h =
      figure_set range_any_order slots k s there
      ∙ if_either (λ t. t ≡ true) s.filled (λ f. rw (le-leb item_width (outside s.item) (h f), apart.1)) (λ f. apart.1)

pub freed_in_range : SlotInRange freed
freed_in_range f = never f

-- ---- a sound tally
same_totals_of_one : (a : Totals) → same_totals a a ≡ true
unfolding same_totals
same_totals_of_one a =
    rw (eq-eqb a.weight a.weight refl, eq-eqb a.longitudinal a.longitudinal refl, eq-eqb a.vertical a.vertical refl) (same_eq_ℤ a.transverse)

pub sound_is : (t : Tally) → in_range (aboard t.slots) ≡ true → t.totals ≡ added_up (aboard t.slots) → sound t ≡ true
unfolding sound
sound_is t all e = rw (all, ← e) (same_totals_of_one t.totals)

pub sound_in_range : (t : Tally) → sound t ≡ true → in_range (aboard t.slots) ≡ true
unfolding sound
sound_in_range t e = (both (in_range (aboard t.slots)) (same_totals t.totals (added_up (aboard t.slots))) e).0
