-- The totals of a table of items, by the tests of its call.
--     ranges_bad, ranges_good         the ranges of its numbers, tried;
--     ranges_kept                     where they are kept
--     is_wrong_size, totals_refused, totals_made      the size, and then the ranges
--     bad_item                         a number out of range
--     items_few                        a table of the right size has no more numbers than there is room for
--     items_fitting                    a table of the right size with all numbers in range
--     items_most                   the most that the items of such a table weigh, and their vertical moment
--     totals_are                   what its items bring, added up, is the paper's totals
--     totals_answered              so these are what is answered
--     totals_numbered              a refusal has one of the paper's numbers
--     paper_totals_injective       two answers with the same number and values are the same: the promise determines the answer
-- Assumes nothing.
use mathlib.Core.Path.{◌≡◌, refl, sym, ap, ◌∙◌}
use mathlib.Core.Bool.{Bool, true, false}
use mathlib.Core.List.{List, [], ◌∷◌}
use Prim.Native.Nat.{ℕ, ◌+◌, ◌*◌, ◌<◌, ◌≤◌}
use native.Mathlib.Nat.{add-zero, mul-le-mul_left}
use native.Mathlib.Omega.{arith}
use borrow.Author.Tests.{lt-ltb, le-ltb, ltb-false}
use lib.IntN.{ℤ, nat_abs}
use lib.ListN.{length}
use Rattle.arithmetic.specs.Choice.{when◌then◌else◌}
use lib.Dec.{ltb}
use Rattle.arithmetic.proofs.Choice.{chosen}
use Rattle.ranges.specs.Fields.{most, range_of, item, z_range}
use Rattle.ranges.specs.Outcome.{Outcome, answered, refused, and_then, Numbered}
use Rattle.ranges.specs.Outside.{first_outside}
use Rattle.ranges.specs.Refusals.{out_of_range, wrong_size, place_of_items, item_table}
use Rattle.ranges.specs.Sizes.{whole_records, item_width, most_items}
use Rattle.ranges.proofs.Facts.{records_are}
use Rattle.ranges.proofs.Numbered.{numbered}
use Rattle.ranges.proofs.Outcomes.{answer_known, not_refused}
use Rattle.ranges.proofs.Outside.{outside_le}
use Rattle.ranges.proofs.Records.{parts_inside}
use Rattle.loading.specs.Items.{totals_of_items, item_totals}
use Rattle.loading.specs.Load.{weight, vertical_moment_of}
use Rattle.loading.specs.Private.Aboard.{nothing, ◌with◌, of_item, of_tank, altogether, most_in_items, items_tried, ItemsFit}
use Rattle.loading.specs.Private.Steady.{totals_with}
use Rattle.ranges.specs.Reasons.{paper}
use Rattle.std.specs.Prelude.{Result}
use Rattle.loading.specs.Records.{items_of, tanks_of, load_of}
use Rattle.loading.specs.Total.{total}
use Rattle.loading.specs.declared.Aboard.{Aboard}
use Rattle.loading.specs.declared.Totals.{Totals}
use Rattle.ranges.specs.declared.refusal.Refusal.{Refusal}
use Rattle.loading.proofs.Moments.{weight_is, longitudinal_is, vertical_is, transverse_is}
use Rattle.loading.proofs.Stowage.{field_most}

-- no more numbers than there is room for
pub items_few : (items : List ℤ) → whole_records item_width most_items (length items) ≡ true → length items ≤ item_width * most_items
items_few items w = let i = records_are item_width most_items (length items) w in omega arith

pub items_fitting : (items : List ℤ) → whole_records item_width most_items (length items) ≡ true → first_outside item items ≡ length items → ItemsFit items
items_fitting items w e =
    let i = records_are item_width most_items (length items) w in record { whole = i.0; few = omega arith; is_in_range = e }

-- ---- how much: each item no more than its range, and as many as the table holds
each_most : (items : List ℤ) → length items ≤ first_outside item items → (item_width * total (λ i. i.kg) (items_of items) ≤ most (range_of 6) * length items) × (total (λ i. i.kg * i.z) (items_of items) ≤ most z_range * total (λ i. i.kg) (items_of items))
unfolding items_of total
each_most (kg ∷ x ∷ y ∷ z ∷ rest) inside =
    let one : List ℤ = kg ∷ x ∷ y ∷ z ∷ [] in
    let parts = parts_inside item one rest refl inside in
    let at = field_most item one (omega (arith, parts.0)) in
    let others = each_most rest (omega (arith, parts.1)) in
    (omega (arith, others.0, at 0 (omega arith)), omega (arith, others.1, mul-le-mul_left (nat_abs kg) (at 3 (omega arith))))
each_most (kg ∷ x ∷ y ∷ []) inside = (omega arith, omega arith)
each_most (kg ∷ x ∷ []) inside = (omega arith, omega arith)
each_most (kg ∷ []) inside = (omega arith, omega arith)
each_most [] inside = (omega arith, omega arith)

pub items_most : (items : List ℤ) → ItemsFit items → ((totals_of_items items).weight ≤ most_in_items) × ((totals_of_items items).vertical ≤ most z_range * most_in_items)
unfolding weight vertical_moment_of tanks_of total
items_most items fits =
    let each = each_most items (omega (arith, fits.is_in_range)) in (omega (arith, each.0, fits.few), omega (arith, each.0, each.1, fits.few))

-- ---- the tests
-- a test that refuses, and then a step
pub refused_then : {A B : Type 0} (t : Bool) (number place : ℕ) (o : Outcome A) (next : A → Outcome B) → and_then (when t then refused number place else o) next ≡ (when t then refused number place else and_then o next)
unfolding and_then when◌then◌else◌
refused_then true number place o next = refl
refused_then false number place o next = refl

module _ (items : List ℤ) where
  pub ranges_bad : first_outside item items < length items → items_tried items ≡ refused out_of_range (place_of_items + first_outside item items)
  unfolding items_tried
  ranges_bad h = simp (lt-ltb _ _ h, chosen)

  pub ranges_good : length items ≤ first_outside item items → items_tried items ≡ answered tt
  unfolding items_tried
  ranges_good h = simp (le-ltb _ _ h, chosen)

  pub ranges_kept : answered tt ≡ items_tried items → first_outside item items ≡ length items
  unfolding items_tried
  ranges_kept e =
      let t = not_refused out_of_range (place_of_items + first_outside item items) (sym e) in
      omega (arith, ltb-false (first_outside item items) (length items) t.0, outside_le item items)

  pub is_wrong_size : whole_records item_width most_items (length items) ≡ false → item_totals items ≡ refused wrong_size item_table
  unfolding item_totals
  is_wrong_size w = simp (w, chosen)

  module _ (w : whole_records item_width most_items (length items) ≡ true) where
    -- the ranges, and then the totals
    totals_by : item_totals items ≡ and_then (items_tried items) (λ fine. answered (totals_of_items items))
    unfolding item_totals items_tried and_then
    totals_by =
        let outside = first_outside item items in
        let next : Unit {0} → Outcome Totals = λ fine. answered (totals_of_items items) in
        simp (w, chosen) (sym (refused_then (ltb outside (length items)) out_of_range (place_of_items + outside) (answered tt) next))

    pub totals_refused : {number place : ℕ} → refused number place ≡ items_tried items → item_totals items ≡ refused number place
    unfolding and_then
    totals_refused e = totals_by ∙ rw (← e)

    pub totals_made : answered tt ≡ items_tried items → item_totals items ≡ answered (totals_of_items items)
    unfolding and_then
    totals_made e = totals_by ∙ rw (← e)

  module _ (w : whole_records item_width most_items (length items) ≡ true) {outside : ℕ} (o : outside ≡ first_outside item items) where
    pub bad_item : outside < length items → item_totals items ≡ refused out_of_range (place_of_items + outside)
    unfolding item_totals
    bad_item h = rw (← o) (simp (w, lt-ltb outside (length items) h, chosen))

    module _ (h : length items ≤ outside) where
      pub totals_answered : item_totals items ≡ answered (totals_of_items items)
      unfolding item_totals
      totals_answered = rw (← o) (simp (w, le-ltb outside (length items) h, chosen))

-- ---- the sums
with_nothing : (a : Aboard) → a with nothing ≡ a
with_nothing a = λ i. record {
  weight = add-zero a.weight i;
  longitudinal = add-zero a.longitudinal i;
  vertical = add-zero a.vertical i;
  port = add-zero a.port i;
  starboard = add-zero a.starboard i;
  surface = add-zero a.surface i;
}

no_tanks : altogether of_tank (tanks_of []) ≡ nothing
unfolding tanks_of altogether
no_tanks = refl

pub totals_are : (items : List ℤ) {a : Aboard} → a ≡ altogether of_item (items_of items) → totals_with a ≡ totals_of_items items
totals_are items e =
    let l = load_of items [] in
    ap totals_with (e ∙ sym (with_nothing _) ∙ ap (λ b. altogether of_item (items_of items) with b) (sym no_tanks))
    ∙ (λ i. record { weight = weight_is l i; longitudinal = longitudinal_is l i; vertical = vertical_is l i; transverse = transverse_is l i })

-- ---- the promise
pub totals_numbered : (items : List ℤ) → Numbered (item_totals items)
unfolding item_totals
totals_numbered items = search numbered

pub paper_totals_injective : (a b : Result Totals Refusal) → paper a ≡ paper b → a ≡ b
paper_totals_injective = answer_known
