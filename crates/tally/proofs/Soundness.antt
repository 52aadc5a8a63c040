-- When a tally is sound, by what the table of its items comes to.
--     totals_same                  the test of totals, number by number, is the definition's
--     none_added_up                nothing aboard weighs nothing
--     table_sized                  the table of the items aboard is one that a condition takes
--     totals_told, outside_told    a total that was told is that of the items aboard, all in range; where a refusal was told one is not
--     in_range_told                and where all are in range a total is told
--     unsound_told, sound_told     so a tally is sound or not
-- Assumes nothing.
use mathlib.Core.Path.{◌≡◌, refl, sym, ap, subst, ◌∙◌}
use mathlib.Core.Bool.{Bool, true, false, ◌&&◌}
use lib.Dec.{eqb}
use mathlib.Core.List.{List, [], ◌∷◌}
use Prim.Native.Nat.{ℕ, suc, ◌*◌, ◌/◌, ◌%◌, ◌≤◌}
use native.Mathlib.Omega.{arith}
use borrow.Author.Tests.{eq-eqb, le-leb, eqb-true, eqb-false}
use lib.IntN.{ℤ, pos}
use lib.ListN.{length}
use Rattle.std.specs.Prelude.{Result, Ok, Err}
use Rattle.arithmetic.proofs.Choice.{if_either}
use Rattle.arithmetic.specs.Signed.{eq_ℤ}
use Rattle.arithmetic.proofs.Crossing.{eq_ℤ_same, same_eq_ℤ}
use Rattle.arithmetic.proofs.Tests.{by_test, same_test}
use Rattle.std.proofs.Common.{int_eq}
use Rattle.std.proofs.lemmas.Bool.Decides.{Decides-int_eq}
use Rattle.ranges.specs.Fields.{item}
use Rattle.ranges.specs.Outcome.{answered}
use Rattle.ranges.specs.Outside.{first_outside}
use Rattle.ranges.specs.Sizes.{item_width, most_items, whole_records}
use Rattle.ranges.specs.Reasons.{paper}
use Rattle.ranges.specs.declared.refusal.Refusal.{Refusal}
use Rattle.ranges.proofs.Outcomes.{refused_not, answer_same, paper_ok}
use Rattle.ranges.proofs.Outside.{outside_le}
use Rattle.loading.specs.Items.{item_totals}
use Rattle.loading.specs.Load.{weight, longitudinal_moment_of, vertical_moment_of, transverse_moment_of}
use Rattle.loading.specs.Records.{items_of, tanks_of}
use Rattle.loading.specs.Total.{total, total_ℤ}
use Rattle.loading.specs.declared.Totals.{Totals}
use Rattle.loading.proofs.Itemised.{bad_item, totals_answered}
use Rattle.tally.specs.Tally.{slot_count, aboard, table_of, added_up, in_range, same_totals, sound}
use Rattle.tally.specs.declared.Item.{Item}
use Rattle.tally.specs.declared.Slot.{Slot}
use Rattle.tally.specs.declared.Tally.{Tally}

signed_same : (x y : ℤ) → int_eq x y ≡ eq_ℤ x y
signed_same x y =
    let decides = Decides-int_eq x y in
    same_test (int_eq x y) (eq_ℤ x y)
    (λ e. subst (λ z. eq_ℤ x z ≡ true) (decides.0 e) (same_eq_ℤ x))
    (λ e. decides.1 (eq_ℤ_same x y e))

regrouped : (p q r s : Bool) → p && (q && (r && s)) ≡ p && q && r && s
regrouped true true true s = refl
regrouped true true false s = refl
regrouped true false r s = refl
regrouped false q r s = refl

pub totals_same : (a b : Totals) → eqb a.weight b.weight && (eqb a.longitudinal b.longitudinal && (eqb a.vertical b.vertical && int_eq a.transverse b.transverse)) ≡ same_totals a b
unfolding same_totals
totals_same a b =
    let first = eqb a.weight b.weight in
    let second = eqb a.longitudinal b.longitudinal in
    let third = eqb a.vertical b.vertical in
    ap (λ signed. first && (second && (third && signed))) (signed_same a.transverse b.transverse)
    ∙ regrouped first second third (eq_ℤ a.transverse b.transverse)

pub none_added_up : added_up [] ≡ record { weight = 0; longitudinal = 0; vertical = 0; transverse = pos 0 }
unfolding weight longitudinal_moment_of vertical_moment_of transverse_moment_of items_of tanks_of total total_ℤ table_of
none_added_up = refl

-- ---- the size of the table
table_length : (items : List Item) → length (table_of items) ≡ item_width * length items
unfolding table_of
table_length [] = refl
table_length (i ∷ rest) = omega (arith, table_length rest)

aboard_le : (slots : List Slot) → length (aboard slots) ≤ length slots
unfolding aboard
aboard_le [] = omega arith
aboard_le (s ∷ rest) =
    if_either (λ (items : List Item). length items ≤ suc (length rest)) s.filled (λ f. omega (arith, aboard_le rest)) (λ f. omega (arith, aboard_le rest))

module _ (slots : List Slot) (all : length slots ≡ slot_count) where
  abbrev table : List ℤ
  table = table_of (aboard slots)

  pub table_sized : whole_records item_width most_items (length table) ≡ true
  unfolding whole_records
  table_sized =
      let count : ℕ = length (aboard slots) in
      let few : count ≤ most_items = omega (arith, aboard_le slots) in
      rw (table_length (aboard slots)) (rw (eq-eqb (item_width * count % item_width) 0 (omega arith), le-leb (item_width * count / item_width) most_items (omega arith)))

  -- ---- what is told of it
  told_in_range : in_range (aboard slots) ≡ true → item_totals table ≡ answered (added_up (aboard slots))
  told_in_range e = totals_answered table table_sized refl (omega (arith, eqb-true (first_outside item table) (length table) e))

  told_outside : {totals : Totals} → in_range (aboard slots) ≡ false → item_totals table ≡ answered totals → ⊥
  told_outside e told =
      let other = eqb-false (first_outside item table) (length table) e in
      refused_not (sym (bad_item table table_sized refl (omega (arith, outside_le item table))) ∙ told)

  module _ {r : Result Totals Refusal} (e : paper r ≡ item_totals table) where
    pub totals_told : {totals : Totals} → r ≡ Ok totals → (in_range (aboard slots) ≡ true) × (totals ≡ added_up (aboard slots))
    totals_told {totals} f =
        let told : item_totals table ≡ answered totals = sym e ∙ ap paper f in
        by_test (in_range (aboard slots)) (λ g. (g, answer_same (sym told ∙ told_in_range g))) (λ g. absurd (told_outside g told))

    pub outside_told : {why : Refusal} → r ≡ Err why → in_range (aboard slots) ≡ false
    outside_told f =
        by_test (in_range (aboard slots)) (λ g. refused_not (sym (ap paper f) ∙ e ∙ told_in_range g)) (λ g. g)

    pub in_range_told : in_range (aboard slots) ≡ true → r ≡ Ok (added_up (aboard slots))
    in_range_told g = paper_ok (e ∙ told_in_range g)

-- ---- a tally
module _ (t : Tally) (all : length t.slots ≡ slot_count) {r : Result Totals Refusal} (e : paper r ≡ item_totals (table_of (aboard t.slots))) where
  pub unsound_told : {why : Refusal} → r ≡ Err why → sound t ≡ false
  unfolding sound
  unsound_told f = rw (outside_told t.slots all e f)

  pub sound_told : {totals : Totals} → r ≡ Ok totals → sound t ≡ same_totals t.totals totals
  unfolding sound
  sound_told f = let told = totals_told t.slots all e f in rw (told.0, told.1)
