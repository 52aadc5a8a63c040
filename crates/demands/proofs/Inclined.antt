-- The inclining test, from the theorems of its crate: the refusals in their order, and what an answer tells of GM, the table of GMs and the light ship.
--     in_order          7, 4, 20 and 21, each at its place
--     inclining_test    all that is asked
-- Assumes nothing.
use mathlib.Core.Path.{◌≡◌, refl, sym, ap, ◌∙◌}
use mathlib.Core.Bool.{true, false}
use mathlib.Core.List.{List, map}
use Prim.Native.Nat.{ℕ, ◌+◌, ◌*◌, ◌/◌, ◌%◌, ◌≤◌, ◌<◌}
use native.Mathlib.Nat.{add-mul, one-mul}
use native.Mathlib.Omega.{arith}
use borrow.Author.Tests.{eq-eqb, le-leb}
use lib.IntN.{ℤ, pos, ◌+ℤ◌, ◌-ℤ◌, ◌*ℤ◌}
use lib.ListN.{length, get_or, drop, length-append, length-drop, length-map, get_or-append}
use lib.Seq.{drop_at}
use lib.Signed.{◌≤ℤ◌}
use Rattle.std.specs.Prelude.{Ok, Err}
use Rattle.arithmetic.specs.Rounding.{rounded_up}
use Rattle.arithmetic.proofs.Crossing.{less_over}
use Rattle.arithmetic.proofs.Rounding.{RoundedDown}
use Rattle.arithmetic.proofs.Tests.{by_test}
use Rattle.ranges.specs.Fields.{Range, shift}
use Rattle.ranges.specs.Outside.{first_outside}
use Rattle.ranges.specs.Sizes.{whole_records}
use Rattle.ranges.specs.Reasons.{paper}
use Rattle.ranges.specs.declared.refusal.Refusal.{Refusal}
use Rattle.ranges.proofs.Facts.{all_inside, whole_within, records_are}
use Rattle.ranges.proofs.Outcomes.{with_refused, left_refused}
use Rattle.ranges.proofs.Outside.{outside_first}
use Rattle.loading.specs.Items.{totals_of_items}
use Rattle.inclining.specs.Inclining.{shifts_fit, items_fit, MakesLightShip}
use Rattle.inclining.specs.Light.{vertical_moment_of, unrounded_moment, light_weight, light_moment}
use Rattle.inclining.specs.Measured.{shifts_of, unrounded_gm, gm_measured, own_gms}
use Rattle.inclining.specs.Private.Heeling.{shift_at, TestInRange, ShiftsInRange}
use Rattle.inclining.specs.declared.LightShip.{LightShip}
use Rattle.inclining.specs.declared.Test.{Test}
use Rattle.inclining.proofs.Answered.{Told, found_told}
use Rattle.inclining.proofs.Between.{measured_down, bottom_some, least_below, greatest_above}
use Rattle.inclining.proofs.Height.{kg_up, kg_not_below}
use Rattle.inclining.proofs.Lightening.{weight_is, moment_is}
use Rattle.inclining.proofs.Order.{shifts_refused, off_refused, on_refused, room_refused, test_number, shift_number, off_number, on_number, weight_refused, moment_refused, else_found}
use Rattle.inclining.proofs.Shifts.{own_length, own_at, gm_one}
use Rattle.inclining.proofs.Sized.{Sized, shifts_by, shifts_told}
use Rattle.inclining.proofs.Surface.{less_surface}
use Rattle.inclining.proofs.Trying.{Inside, test_in_range, shifts_in_range}
use Rattle.demands.specs.Answering.{Answer}
use Rattle.demands.specs.IncliningTest.{SomeShifts, FewItems, Sizes, AllIn, FirstOut, InRange, kg_of, kgmm_of, shifted, deflected, measured, RefusedInOrder, IncliningTest}

-- ---- the words of the request as the tests of the call
some_shifts : {shifts : List ℕ} → SomeShifts shifts → shifts_fit (length shifts) ≡ true
some_shifts {shifts} so =
    sym (shifts_by (length shifts) (omega (arith, so.whole)) (sym (whole_within 2 12 (length shifts / 3) (omega (arith, so.whole, so.enough), omega (arith, so.whole, so.not_too_many)))))

no_shifts : {shifts : List ℕ} → (SomeShifts shifts → ⊥) → shifts_fit (length shifts) ≡ false
no_shifts {shifts} none =
    by_test (shifts_fit (length shifts)) (λ t. let told = shifts_told (length shifts) t in absurd (none (record { count = length shifts / 3; whole = omega (arith, told.0); enough = told.1; not_too_many = told.2 }))) (λ e. e)

few_items : {items : List ℤ} → FewItems items → items_fit (length items) ≡ true
unfolding whole_records
few_items {items} so = rw (eq-eqb (length items % 4) 0 (omega (arith, so.whole)), le-leb (length items / 4) 32 (omega (arith, so.whole, so.not_too_many)))

not_few : {items : List ℤ} → (FewItems items → ⊥) → items_fit (length items) ≡ false
not_few {items} none =
    by_test (items_fit (length items)) (λ t. let told = records_are 4 32 (length items) t in absurd (none (record { count = length items / 4; whole = omega (arith, told.0); not_too_many = told.1 }))) (λ e. e)

sized : {shifts : List ℕ} {off on : List ℤ} {gms : List ℕ} → Sizes shifts off on gms → Sized (length shifts) (length off) (length on) (length gms)
sized so = record {
  shifts_are_fit = some_shifts so.shifts_are_fit;
  off_fits = few_items so.off_fits;
  on_fits = few_items so.on_fits;
  room_enough = omega (arith, so.room);
}

none_out : {section : List Range} {table : List ℤ} → AllIn section table → length table ≤ first_outside section table
none_out {section} {table} all = omega (arith, all_inside section table all.each)

first_out : {section : List Range} {table : List ℤ} {i : ℕ} → FirstOut section table i → i ≡ first_outside section table
first_out {section} {table} {i} so = sym (outside_first section table i so.there so.out so.none_before)

none_shifted : (shifts : List ℕ) → AllIn shift (map pos shifts) → length shifts ≤ first_outside shift (map pos shifts)
none_shifted shifts all = omega (arith, none_out all, length-map shifts pos)

inside : {test : Test} {shifts : List ℕ} {off on : List ℤ} → InRange test shifts off on → Inside test shifts off on
inside {shifts} so = record { in_test = none_out so.in_test; in_table = none_shifted shifts so.in_shifts; in_off = none_out so.in_off; in_on = none_out so.in_on }

is_measured : (test : Test) (shifts : List ℕ) → measured test shifts ≡ gm_measured test (shifts_of shifts)
unfolding gm_measured unrounded_gm
is_measured test shifts = refl

in_order : {test : Test} {shifts : List ℕ} {off on : List ℤ} {gms after : List ℕ} {answer : Answer LightShip} (made : MakesLightShip test shifts off on gms after answer) → RefusedInOrder made
in_order {test} {shifts} made = record {
  seven_at_0 = λ none. ap paper (shifts_refused made (no_shifts none));
  seven_at_1 = λ s none. ap paper (off_refused made (some_shifts s) (not_few none));
  seven_at_2 = λ s f none. ap paper (on_refused made (some_shifts s) (few_items f) (not_few none));
  seven_at_3 = λ s f n short. ap paper (room_refused made (some_shifts s) (few_items f) (few_items n) (omega (arith, s.whole)));
  four_in_the_test = λ z i out. ap paper (test_number made (sized z) i (first_out out) out.there);
  four_in_the_shifts = λ z t i out. ap paper (shift_number made (sized z) (none_out t) i (first_out out) (omega (arith, out.there, length-map shifts pos)));
  four_to_take_off = λ z t s i out. ap paper (off_number made (sized z) (none_out t) (none_shifted shifts s) i (first_out out) out.there);
  four_to_put_on = λ z t s f i out. ap paper (on_number made (sized z) (none_out t) (none_shifted shifts s) (none_out f) i (first_out out) out.there);
  then_twenty = λ z so none. ap paper (weight_refused made (sized z) (inside so) none);
  then_twenty_one = λ z so some below. ap paper (moment_refused made (sized z) (inside so) some (rw (is_measured test shifts) at below));
  else_found = λ z so some above. else_found made (sized z) (inside so) some (rw (is_measured test shifts) at above);
}

-- ---- the table of GMs, after a refusal and after an answer
refused_left : {test : Test} {shifts : List ℕ} {off on : List ℤ} {gms after : List ℕ} {r : Refusal} → MakesLightShip test shifts off on gms after (Err r) → after ≡ gms
refused_left {gms} made = made.left ∙ left_refused (λ i. i.gms) _ gms (with_refused (λ i. i.light) _ (sym made.answer_is))

module _ {test : Test} {shifts : List ℕ} {off on : List ℤ} {gms after : List ℕ} {ship : LightShip} (made : MakesLightShip test shifts off on gms after (Ok ship)) where
  told : Told test shifts off on (length gms) ship
  told = (found_told test shifts off on made).0

  tested : TestInRange test
  tested = test_in_range test shifts off on told.is_in_range

  fit : ShiftsInRange shifts
  fit = shifts_in_range test shifts off on (length gms) told.sizes told.is_in_range

  abbrev own : List ℕ
  own = own_gms test (shifts_of shifts)

  after_at : (i : ℕ) → i < length shifts / 3 → get_or after i 0 ≡ get_or own i 0
  after_at i h = ap (λ l. get_or l i 0) (found_told test shifts off on made).1 ∙ get_or-append own (drop (length own) gms) 0 i (omega (arith, own_length test shifts))

  own_gms_are : ((i : ℕ) → i < length shifts / 3 → get_or after i 0 ≡ get_or shifts (3 * i) 0 * get_or shifts (3 * i + 1) 0 * test.pendulum / (test.weight * get_or shifts (3 * i + 2) 0))
      × (length after ≡ length gms) × (drop (length shifts / 3) after ≡ drop (length shifts / 3) gms)
  own_gms_are =
      let left = (found_told test shifts off on made).1 in
      let count = own_length test shifts in (
        λ i h. after_at i h ∙ own_at test shifts i h ∙ sym (gm_one test (shift_at shifts (3 * i))),
        omega (arith, ap length left, length-append own (drop (length own) gms), length-drop (length own) gms, count, told.sizes.room_enough),
        ap (drop (length shifts / 3)) left ∙ drop_at own (drop (length own) gms) (length shifts / 3) count ∙ ap (λ k. drop k gms) count,
      )

  -- ---- GM
  abbrev gm_down : RoundedDown (unrounded_gm test (shifts_of shifts)).top (unrounded_gm test (shifts_of shifts)).bottom (gm_measured test (shifts_of shifts))
  gm_down = measured_down test (shifts_of shifts) (bottom_some test shifts tested fit)

  gm_fraction : (ship.measured_gm * (test.weight * deflected shifts) ≤ shifted shifts * test.pendulum) × (shifted shifts * test.pendulum < (ship.measured_gm + 1) * (test.weight * deflected shifts))
  unfolding unrounded_gm
  gm_fraction = rw told.light.gm_is (gm_down.low, rw (add-mul, one-mul) gm_down.high)

  gm_between : ((i : ℕ) × (i < length shifts / 3) × ((j : ℕ) → j < length shifts / 3 → get_or after i 0 ≤ get_or after j 0) × (get_or after i 0 ≤ ship.measured_gm))
      × ((i : ℕ) × (i < length shifts / 3) × ((j : ℕ) → j < length shifts / 3 → get_or after j 0 ≤ get_or after i 0) × (ship.measured_gm ≤ get_or after i 0))
  gm_between =
      let least = least_below test shifts tested fit in
      let most = greatest_above test shifts tested fit in
      let gm_is = told.light.gm_is in (
        (least.0, least.1, λ j h. omega (arith, least.2 j h, after_at least.0 least.1, after_at j h), omega (arith, least.3, after_at least.0 least.1, gm_is)),
        (most.0, most.1, λ j h. omega (arith, most.2 j h, after_at most.0 most.1, after_at j h), omega (arith, most.3, after_at most.0 most.1, gm_is)),
      )

  -- ---- the light ship
  formulas : (pos ship.weight ≡ pos test.weight -ℤ pos (kg_of off) +ℤ pos (kg_of on))
      × (pos ship.vertical_moment ≡ pos test.weight *ℤ (pos test.km -ℤ pos ship.measured_gm) -ℤ pos test.free_surface -ℤ pos (kgmm_of off) +ℤ pos (kgmm_of on))
      × (ship.vcg ≡ rounded_up ship.vertical_moment ship.weight)
  unfolding light_weight light_moment vertical_moment_of
  formulas =
      let light = told.light in
      let gm = gm_measured test (shifts_of shifts) in (
        ap pos light.weight_is ∙ sym (less_over _ _ (omega (arith, light.some))) ∙ sym (weight_is test (totals_of_items off) (totals_of_items on)),
        rw light.gm_is (ap pos light.moment_is ∙ sym (less_over _ _ light.not_below) ∙ sym (moment_is test (totals_of_items off) (totals_of_items on) gm)),
        light.vcg_is,
      )

  kg_rounded : (0 < ship.weight) × (ship.vertical_moment ≤ ship.vcg * ship.weight) × (ship.vcg * ship.weight < ship.vertical_moment + ship.weight)
  kg_rounded = let up = kg_up told.light in (up.some, up.low, up.high)

  kg_low : let unrounded = unrounded_moment test (totals_of_items off) (totals_of_items on) (unrounded_gm test (shifts_of shifts)) in
      (0 < unrounded.bottom) × (unrounded.top ≤ℤ pos (unrounded.bottom * ship.weight * ship.vcg))
  kg_low = (gm_down.some, kg_not_below told.light (unrounded_gm test (shifts_of shifts)) gm_down.low)

pub inclining_test : IncliningTest
inclining_test = record {
  refused_in_order = in_order;
  refusals_write_nothing = refused_left;
  each_shift_has_its_own_gm = own_gms_are;
  gm_is_the_fraction_rounded_down = gm_fraction;
  gm_lies_between_the_shifts = gm_between;
  light_ship_follows_the_formulas = formulas;
  kg_is_rounded_up = kg_rounded;
  kg_is_never_too_low = kg_low;
  larger_surface_never_raises_kg = λ test {shifts = shifts} {off = off} {on = on} less found made room.
      let so = less_surface test less shifts off on found made room in
      (so.0, so.1, so.2.same_gm, so.2.same_weight, so.2.kg_not_greater);
}
