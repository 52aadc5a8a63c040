-- The tests, in the paper's order.
--     counts_told                                               the counts of widths
--     port_outside, starboard_outside, interval_outside, density_outside, none_outside      where the first number out of range stands
--     place_told                                                the place as the code answers it
--     inside                                                    what it tells that none is
--     refused_size, refused_range, surface_found                the three outcomes
--     made_found                                                the surface, from an inertia and a moment that were made
--     tried                                                     what was tried where the surface is found
-- Assumes nothing.
use mathlib.Core.Path.{◌≡◌, sym, ap, ap₂, ◌∙◌}
use mathlib.Core.Bool.{true, false}
use mathlib.Core.List.{List, [], ◌∷◌, map}
use Prim.Native.Nat.{ℕ, ◌+◌, ◌*◌, ◌≤◌, ◌<◌}
use native.Mathlib.Nat.{add_assoc, add-zero}
use native.Mathlib.Omega.{arith}
use borrow.Author.Tests.{eqb-true, lt-ltb, le-ltb}
use lib.Dec.{eqb}
use lib.IntN.{pos}
use lib.ListN.{length, length-map}
use Rattle.arithmetic.specs.Rounding.{rounded_up}
use Rattle.arithmetic.proofs.Choice.{chosen}
use Rattle.arithmetic.proofs.Tests.{both}
use Rattle.ranges.specs.Fields.{Range, within, range_of, least, most, liquid_density, hopper_width, hopper_interval}
use Rattle.ranges.specs.Outcome.{answered, refused}
use Rattle.ranges.specs.Outside.{outside_from, first_outside, outside_then}
use Rattle.ranges.specs.Refusals.{out_of_range, wrong_size}
use Rattle.ranges.proofs.Facts.{all_within, within_whole, wholes_in_range}
use Rattle.ranges.proofs.Outside.{then_within, then_after, then_inside, place_some}
use Rattle.ranges.specs.Bounds.{place_in}
use Rattle.std.specs.Prelude.{Some}
use Rattle.hoppers.specs.Hopper.{width_count, counts_fit, count, outside, found, surface_of}
use Rattle.hoppers.specs.Private.Side.{SurfaceInRange}
use Rattle.hoppers.specs.Surface.{moment_unit, inertia, moment}

-- ---- the counts
module _ (port starboard : ℕ) where
  pub counts_told : counts_fit port starboard ≡ true → (port ≡ starboard) × (least width_count ≤ port) × (port ≤ most width_count)
  unfolding counts_fit
  counts_told e =
      let h = both (eqb port starboard) (within width_count (pos port)) e in
      let so = within_whole width_count port h.1 in
      (eqb-true port starboard h.0, so.0, so.1)

-- ---- the ranges: of two numbers the first outside
module _ (r s : Range) (v w : ℕ) where
  first_of_two : within r (pos v) ≡ false → first_outside (r ∷ s ∷ []) (map pos (v ∷ w ∷ [])) ≡ 0
  unfolding first_outside outside_from
  first_of_two e = rw e (simp chosen)

  second_of_two : within r (pos v) ≡ true → within s (pos w) ≡ false → first_outside (r ∷ s ∷ []) (map pos (v ∷ w ∷ [])) ≡ 1
  unfolding first_outside outside_from
  second_of_two e f = rw (e, f) (simp chosen)

  none_of_two : within r (pos v) ≡ true → within s (pos w) ≡ true → first_outside (r ∷ s ∷ []) (map pos (v ∷ w ∷ [])) ≡ 2
  unfolding first_outside outside_from
  none_of_two e f = rw (e, f) (simp chosen)

module _ (port starboard : List ℕ) (h density : ℕ) where
  abbrev two : ℕ
  two = first_outside (hopper_interval ∷ liquid_density ∷ []) (map pos (h ∷ density ∷ []))

  -- the first number outside, to either side
  module _ {r : ℕ} (e : r ≡ first_outside hopper_width (map pos port)) where
    pub port_outside : r < length port → r ≡ outside port starboard h density
    unfolding outside
    port_outside l = e ∙ sym (then_within hopper_width (map pos port) _ (omega (arith, length-map port pos)))

    module _ (past : length port ≤ r) {s : ℕ} (f : s ≡ first_outside hopper_width (map pos starboard)) where
      -- past the widths to port
      on : outside port starboard h density ≡ length port + outside_then hopper_width (map pos starboard) two
      unfolding outside
      on = then_after hopper_width (map pos port) _ (omega (arith, length-map port pos)) ∙ ap (λ k. k + outside_then hopper_width (map pos starboard) two) (length-map port pos)

      pub starboard_outside : s < length starboard → length port + s ≡ outside port starboard h density
      starboard_outside l =
          sym (on ∙ ap (λ k. length port + k) (then_within hopper_width (map pos starboard) two (omega (arith, length-map starboard pos)) ∙ sym f))

      module _ (past-both : length starboard ≤ s) where
        widths_done : outside port starboard h density ≡ length port + length starboard + two
        widths_done =
            on
            ∙ ap (λ k. length port + k) (then_after hopper_width (map pos starboard) two (omega (arith, length-map starboard pos)) ∙ ap (λ k. k + two) (length-map starboard pos))
            ∙ sym (add_assoc (length port) (length starboard) two)

        pub interval_outside : within (range_of 26) (pos h) ≡ false → length port + length starboard ≡ outside port starboard h density
        interval_outside t = sym (widths_done ∙ ap (λ k. length port + length starboard + k) (first_of_two (range_of 26) liquid_density h density t) ∙ add-zero _)

        module _ (t : within (range_of 26) (pos h) ≡ true) where
          pub density_outside : within (range_of 17) (pos density) ≡ false → length port + length starboard + 1 ≡ outside port starboard h density
          density_outside u = sym (widths_done ∙ ap (λ k. length port + length starboard + k) (second_of_two (range_of 26) liquid_density h density t u))

          pub none_outside : within (range_of 17) (pos density) ≡ true → length port + length starboard + 2 ≡ outside port starboard h density
          none_outside u = sym (widths_done ∙ ap (λ k. length port + length starboard + k) (none_of_two (range_of 26) liquid_density h density t u))

  -- the place as the code answers it
  pub place_told : {place : ℕ} → place ≡ outside port starboard h density → place < count port starboard h density → Some place ≡ place_in (count port starboard h density) (outside port starboard h density)
  place_told e l = ap Some e ∙ sym (place_some (omega (arith, e)))

  -- none is outside
  pub inside : count port starboard h density ≤ outside port starboard h density → (length port ≤ first_outside hopper_width (map pos port)) × (length starboard ≤ first_outside hopper_width (map pos starboard)) × (2 ≤ two)
  unfolding outside
  inside all =
      let first = then_inside hopper_width (map pos port) (outside_then hopper_width (map pos starboard) two) (length starboard + 2) (omega (arith, length-map port pos)) in
      let second = then_inside hopper_width (map pos starboard) two 2 (omega (arith, first.1, length-map starboard pos)) in
      (omega (arith, first.0, length-map port pos), omega (arith, second.0, length-map starboard pos), second.1)

  -- ---- the three outcomes, and the surface from an inertia and a moment that were made of it
  pub made_found : {i m : ℕ} → i ≡ inertia port starboard h → m ≡ rounded_up (i * density) moment_unit → answered (record { inertia = i; moment = m }) ≡ answered (found port starboard h density)
  unfolding moment
  made_found e f =
      ap₂ (λ i m. answered (record { inertia = i; moment = m })) e (f ∙ ap (λ i. rounded_up (i * density) moment_unit) e)

  pub refused_size : counts_fit (length port) (length starboard) ≡ false → refused wrong_size 0 ≡ surface_of port starboard h density
  unfolding surface_of
  refused_size e = sym (rw e (simp chosen))

  module _ (fit : counts_fit (length port) (length starboard) ≡ true) {place : ℕ} (e : place ≡ outside port starboard h density) where
    pub refused_range : place < count port starboard h density → refused out_of_range place ≡ surface_of port starboard h density
    unfolding surface_of
    refused_range l = sym (rw (fit, ← e, lt-ltb place (count port starboard h density) l) (simp chosen))

    pub surface_found : count port starboard h density ≤ place → answered (found port starboard h density) ≡ surface_of port starboard h density
    unfolding surface_of
    surface_found l = sym (rw (fit, ← e, le-ltb place (count port starboard h density) l) (simp chosen))

    -- what was tried, as facts
    pub tried : count port starboard h density ≤ place → SurfaceInRange port starboard h × (density ≤ most (range_of 17))
    tried l =
        let counts = counts_told (length port) (length starboard) fit in
        let ranges = inside (omega (arith, e)) in
        let at = all_within (hopper_interval ∷ liquid_density ∷ []) (map pos (h ∷ density ∷ [])) ranges.2 in (
          record {
            as_many = counts.0;
            to_port = record { count_least = counts.1; count_most = counts.2; none_wider = wholes_in_range (range_of 25) port ranges.0 };
            to_starboard = record { count_least = omega (arith, counts.0, counts.1); count_most = omega (arith, counts.0, counts.2); none_wider = wholes_in_range (range_of 25) starboard ranges.1 };
            interval_most = (within_whole (range_of 26) h (at 0 (omega arith))).1;
          },
          (within_whole (range_of 17) density (at 1 (omega arith))).1,
        )
