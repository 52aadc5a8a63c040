-- The tests, in the paper's order.
--     test_outside, shift_outside, off_outside, on_outside      where the first number out of range stands
--     place_told                                                the place as the code answers it
--     Inside, inside                                            what it tells that none is
--     refused_size, refused_range, then_lightened               what the call comes to, test by test
-- Assumes nothing.
use mathlib.Core.Path.{◌≡◌, sym, ap, ◌∙◌}
use mathlib.Core.List.{List, map}
use Prim.Native.Nat.{ℕ, ◌+◌, ◌/◌, ◌≤◌, ◌<◌}
use native.Mathlib.Omega.{arith}
use borrow.Author.Tests.{lt-ltb, le-ltb, ltb-true, ltb-false}
use lib.Dec.{ltb}
use lib.IntN.{ℤ, pos}
use lib.ListN.{length, length-map}
use Rattle.arithmetic.proofs.Choice.{chosen}
use Rattle.arithmetic.proofs.Tests.{by_test}
use Rattle.ranges.specs.Fields.{item, inclining, shift, displacement, metacentre, test_surface, pendulum}
use Rattle.ranges.specs.Outcome.{refused}
use Rattle.ranges.specs.Outside.{first_outside, outside_then}
use Rattle.ranges.specs.Refusals.{out_of_range, wrong_size}
use Rattle.ranges.specs.Sizes.{shift_width}
use Rattle.ranges.proofs.Facts.{all_within, within_whole}
use Rattle.ranges.proofs.Outside.{outside_le, then_within, then_after, then_inside, place_some}
use Rattle.ranges.specs.Bounds.{place_in}
use Rattle.std.specs.Prelude.{Some}
use Rattle.loading.specs.Items.{totals_of_items}
use Rattle.loading.proofs.Itemised.{items_fitting, items_most}
use Rattle.inclining.specs.Inclining.{shifts_fit, items_fit, numbers_of, count, outside, inclined, inclined_of}
use Rattle.inclining.specs.Private.Heeling.{wrong_table, TestInRange, ShiftsInRange, ListFits, TotalsInRange}
use Rattle.inclining.specs.declared.Test.{Test}
use Rattle.inclining.proofs.Sized.{shifts_told, Sized, wrong_shifts, wrong_off, wrong_on, short_room, none_wrong}

pub totals_in_range : {items : List ℤ} → ListFits items → TotalsInRange (totals_of_items items)
totals_in_range {items} so =
    let most = items_most items (items_fitting items so.fits (omega (arith, so.is_in_range, outside_le item items))) in
    record { weight_most = most.0; vertical_most = most.1 }

module _ (test : Test) (shifts : List ℕ) (off on : List ℤ) where
  abbrev in_lists : ℕ
  in_lists = outside_then item off (first_outside item on)

  abbrev in_shifts : ℕ
  in_shifts = outside_then shift (map pos shifts) in_lists

  -- ---- the first number outside: each table after what stands before it
  module _ {r : ℕ} (e : r ≡ first_outside inclining (map pos (numbers_of test))) where
    pub test_outside : r < length inclining → r ≡ outside test shifts off on
    unfolding outside
    test_outside h = e ∙ sym (then_within inclining (map pos (numbers_of test)) in_shifts (omega (arith, e)))

    module _ (past : length inclining ≤ r) {s : ℕ} (f : s ≡ first_outside shift (map pos shifts)) where
      after_test : outside test shifts off on ≡ length inclining + in_shifts
      unfolding outside
      after_test = then_after inclining (map pos (numbers_of test)) in_shifts (omega (arith, e))

      pub shift_outside : s < length shifts → length inclining + s ≡ outside test shifts off on
      shift_outside h =
          sym (after_test ∙ ap (λ k. length inclining + k) (then_within shift (map pos shifts) in_lists (omega (arith, f, length-map shifts pos)) ∙ sym f))

      module _ (past-shifts : length shifts ≤ s) {t : ℕ} (g : t ≡ first_outside item off) where
        after_shifts : outside test shifts off on ≡ length inclining + length shifts + in_lists
        after_shifts =
            omega (arith, after_test, then_after shift (map pos shifts) in_lists (omega (arith, f, length-map shifts pos)), length-map shifts pos)

        pub off_outside : t < length off → length inclining + length shifts + t ≡ outside test shifts off on
        off_outside h = omega (arith, after_shifts, g, then_within item off (first_outside item on) (omega (arith, g)))

        pub on_outside : length off ≤ t → {u : ℕ} → u ≡ first_outside item on → length inclining + length shifts + length off + u ≡ outside test shifts off on
        on_outside h k = omega (arith, after_shifts, k, then_after item off (first_outside item on) (omega (arith, g)))

  -- the place as the code answers it
  pub place_told : {place : ℕ} → place ≡ outside test shifts off on → place < count shifts off on → Some place ≡ place_in (count shifts off on) (outside test shifts off on)
  place_told e l = ap Some e ∙ sym (place_some (omega (arith, e)))

  -- ---- none is outside
  pub record Inside : Type 0 where
    pub in_test : length inclining ≤ first_outside inclining (map pos (numbers_of test))
    pub in_table : length shifts ≤ first_outside shift (map pos shifts)
    pub in_off : length off ≤ first_outside item off
    pub in_on : length on ≤ first_outside item on

  pub inside : count shifts off on ≤ outside test shifts off on → Inside
  unfolding outside
  inside all =
      let first = then_inside inclining (map pos (numbers_of test)) in_shifts (length shifts + (length off + length on)) all in
      let second = then_inside shift (map pos shifts) in_lists (length off + length on) (omega (arith, first.1, length-map shifts pos)) in
      let third = then_inside item off (first_outside item on) (length on) second.1 in
      record { in_test = first.0; in_table = omega (arith, second.0, length-map shifts pos); in_off = third.0; in_on = third.1 }

  pub test_in_range : Inside → TestInRange test
  test_in_range so =
      let at = all_within inclining (map pos (numbers_of test)) so.in_test in
      let w = within_whole displacement test.weight (at 0 (omega arith)) in
      record {
        weight_least = w.0;
        weight_most = w.1;
        km_most = (within_whole metacentre test.km (at 1 (omega arith))).1;
        surface_most = (within_whole test_surface test.free_surface (at 2 (omega arith))).1;
        pendulum_most = (within_whole pendulum test.pendulum (at 3 (omega arith))).1;
      }

  module _ (room : ℕ) where
    abbrev Sizes : Type 0
    Sizes = Sized (length shifts) (length off) (length on) room

    pub shifts_in_range : Sizes → Inside → ShiftsInRange shifts
    shifts_in_range size so =
        let told = shifts_told (length shifts) size.shifts_are_fit in
        record { whole = told.0; some = omega (arith, told.0, told.1); few = omega (arith, told.0, told.2); is_in_range = omega (arith, so.in_table, outside_le shift (map pos shifts), length-map shifts pos) }

    pub off_fits : Sizes → Inside → ListFits off
    off_fits size so = record { fits = size.off_fits; is_in_range = so.in_off }

    pub on_fits : Sizes → Inside → ListFits on
    on_fits size so = record { fits = size.on_fits; is_in_range = so.in_on }

    -- ---- what the call comes to
    abbrev wrong : ℕ
    wrong = wrong_table (length shifts) (length off) (length on) room

    at_wrong : {table : ℕ} → table ≡ wrong → refused wrong_size table ≡ inclined_of test shifts off on room → refused wrong_size wrong ≡ inclined_of test shifts off on room
    at_wrong e told = ap (refused wrong_size) (sym e) ∙ told

    pub refused_size : wrong < 4 → refused wrong_size wrong ≡ inclined_of test shifts off on room
    unfolding inclined_of
    refused_size some =
        by_test (shifts_fit (length shifts))
        (λ s. by_test (items_fit (length off))
        (λ f. by_test (items_fit (length on))
        (λ n. by_test (ltb room (length shifts / shift_width))
        (λ t. at_wrong (short_room (length shifts) (length off) (length on) room s f n (ltb-true room (length shifts / shift_width) t)) (sym (simp (s, f, n, t, chosen))))
        (λ t. absurd (omega (arith, none_wrong (length shifts) (length off) (length on) room s f n (ltb-false room (length shifts / shift_width) t)))))
        (λ e. at_wrong (wrong_on (length shifts) (length off) (length on) room s f e) (sym (simp (s, f, e, chosen)))))
        (λ e. at_wrong (wrong_off (length shifts) (length off) (length on) room s e) (sym (simp (s, e, chosen)))))
        (λ e. at_wrong (wrong_shifts (length shifts) (length off) (length on) room e) (sym (simp (e, chosen))))

    module _ (size : Sizes) {place : ℕ} (e : place ≡ outside test shifts off on) where
      pub refused_range : place < count shifts off on → refused out_of_range place ≡ inclined_of test shifts off on room
      unfolding inclined_of
      refused_range h =
          sym (rw (← e) (simp (size.shifts_are_fit, size.off_fits, size.on_fits, le-ltb room (length shifts / shift_width) size.room_enough, lt-ltb place (count shifts off on) h, chosen)))

      pub then_lightened : count shifts off on ≤ place → inclined test shifts off on ≡ inclined_of test shifts off on room
      unfolding inclined_of
      then_lightened h =
          sym (rw (← e) (simp (size.shifts_are_fit, size.off_fits, size.on_fits, le-ltb room (length shifts / shift_width) size.room_enough, le-ltb place (count shifts off on) h, chosen)))
