-- Supply vessels: the request's sentences, from the theorems of crate levers.
--     supply_vessels        all of `SupplyVessels`
-- Assumes nothing.
use mathlib.Core.Path.{◌≡◌, refl, sym, ap, ◌∙◌}
use mathlib.Core.List.{List}
use Prim.Native.Nat.{ℕ, ◌+◌, ◌-◌, ◌*◌, ◌/◌, ◌<◌}
use native.Mathlib.Omega.{arith}
use lib.IntN.{ℤ, pos, ◌-ℤ◌, ◌*ℤ◌}
use lib.ListN.{length, get_or}
use Rattle.arithmetic.specs.Rounding.{rounded_up}
use Rattle.std.specs.Prelude.{Ok}
use Rattle.ranges.specs.Reasons.{paper}
use Rattle.simpson.specs.Curve.{curve_ℤ}
use Rattle.simpson.proofs.Curves.{curve_ℤ_same}
use Rattle.levers.specs.Levers.{lever, GZ, peak, Q, t}
use Rattle.levers.specs.Promise.{MakesProfile}
use Rattle.levers.specs.Sines.{sine, degrees}
use Rattle.levers.specs.declared.Profile.{Profile}
use Rattle.levers.proofs.Answered.{Told, found_told, refused_left}
use Rattle.levers.proofs.Comparing.{reaches}
use Rattle.levers.proofs.Figures.{tying_at10, tying_at15, peak_turned, area_turned}
use Rattle.levers.proofs.Lowered.{lower_kg}
use Rattle.levers.proofs.Making.{held_bounds}
use Rattle.levers.proofs.Order.{size_refused, kn_refused, km_refused, kg_refused, else_found}
use Rattle.levers.proofs.Peak.{peak_within, peak_first, held_below, held_beyond, held_itself}
use Rattle.levers.proofs.Sines.{sines_are_right}
use Rattle.levers.proofs.Tabled.{levers_length, lever_at, product_at}
use Rattle.demands.specs.Answering.{Answer}
use Rattle.demands.specs.SupplyVessels.{ProfileInOrder, FirstGreatest, IsT, Asks, SupplyVessels}

in_order : {kn : List ℕ} {km kg : ℕ} {gz after : List ℤ} {answer : Answer Profile} (made : MakesProfile kn km kg gz after answer) → ProfileInOrder made
in_order made = record {
  seven_at_0 = λ size. ap paper (size_refused made size);
  four_by_angle = λ size i f. ap paper (kn_refused made size i f.there f.above f.none_before);
  four_at_km = λ size in_table high. ap paper (km_refused made size in_table high);
  four_at_kg = λ size in_table low high. ap paper (kg_refused made size in_table low high);
  else_found = λ size in_table low. else_found made size in_table low;
}

-- ---- an answered profile
module _ {kn : List ℕ} {km kg : ℕ} {gz after : List ℤ} {p : Profile} (made : MakesProfile kn km kg gz after (Ok p)) where
  abbrev told : Told kn km kg after p
  told = found_told made

  abbrev levers : ℕ → ℤ
  levers = GZ kn kg

  -- what is left at each angle
  at : (i : ℕ) → i < 13 → get_or after i (pos 0) ≡ levers i
  at i h = ap (λ l. get_or l i (pos 0)) told.levers_are ∙ lever_at levers i h

  lever_is : (i : ℕ) → levers i ≡ pos (get_or kn i 0) -ℤ pos (rounded_up (kg * sine i) 1_000_000)
  unfolding lever
  lever_is i = ap (λ n. pos (get_or kn i 0) -ℤ pos n) (product_at kg i)

  formulas : (p.gm ≡ pos km -ℤ pos kg) × (length after ≡ 13)
      × ((i : ℕ) → i < 13 → get_or after i (pos 0) ≡ pos (get_or kn i 0) -ℤ pos (rounded_up (kg * sine i) 1_000_000)) × (p.gz_at_30 ≡ get_or after 6 (pos 0))
  formulas = (
    ap (λ (p : Profile). p.gm) told.profile_is,
    ap length told.levers_are ∙ levers_length levers,
    λ i h. at i h ∙ lever_is i,
    ap (λ (p : Profile). p.gz_at_30) told.profile_is ∙ sym (at 6 (omega arith)),
  )

  abbrev number : ℕ
  number = peak levers

  peak_is : p.peak_angle ≡ degrees number
  peak_is = ap (λ (p : Profile). p.peak_angle) told.profile_is

  small : number < 13
  small = omega (arith, peak_within levers 12)

  first_greatest : FirstGreatest after p.peak_angle
  first_greatest = record {
    number = number;
    one_of_them = small;
    angle_is = peak_is;
    none_greater = λ j h. rw (at j h, at number small) ((peak_first levers 12).greatest j (omega arith));
    less_before = λ j h. rw (at j (omega (arith, small)), at number small) ((peak_first levers 12).before j h);
  }

  peak_asks : Asks p.rules.peak 15 (pos p.peak_angle)
  peak_asks = rw told.profile_is (reaches 15 (pos (degrees number)))

  is_t : IsT p.peak_angle (t levers)
  is_t = rw peak_is (record {
    below = λ h. sym (held_below h);
    beyond = λ h. sym (held_beyond h);
    between = λ h k. sym (held_itself h k);
  })

  -- the sums are of what is left
  to_t_left : p.sum_to_t ≡ curve_ℤ (t levers / 5) (λ i. get_or after i (pos 0))
  unfolding Q
  to_t_left =
      let n : (t levers - 0) / 5 ≡ t levers / 5 = omega arith in
      ap (λ (p : Profile). p.sum_to_t) told.profile_is
      ∙ ap (λ n. curve_ℤ n (λ i. levers (0 + i))) n
      ∙ curve_ℤ_same (t levers / 5) (λ i. levers (0 + i)) (λ i. get_or after i (pos 0))
      (λ i l. let e : 0 + i ≡ i = omega arith in ap levers e ∙ sym (at i (omega (arith, (held_bounds (degrees number)).1))))

  to_t_asks : Asks p.rules.area_to_t (24 * 57_296 * (85 - t levers)) (pos 5_000 *ℤ p.sum_to_t)
  to_t_asks = rw told.profile_is (reaches (24 * 57_296 * (85 - t levers)) (pos 5_000 *ℤ Q levers 0 (t levers)))

  from_30_left : p.sum_from_30_to_40 ≡ curve_ℤ 2 (λ i. get_or after (6 + i) (pos 0))
  unfolding Q
  from_30_left =
      ap (λ (p : Profile). p.sum_from_30_to_40) told.profile_is
      ∙ curve_ℤ_same 2 (λ i. levers (6 + i)) (λ i. get_or after (6 + i) (pos 0)) (λ i l. sym (at (6 + i) (omega arith)))

  from_30_asks : Asks p.rules.area_from_30_to_40 (24 * 57_296 * 30) (pos 5_000 *ℤ p.sum_from_30_to_40)
  from_30_asks = rw told.profile_is (reaches (24 * 57_296 * 30) (pos 5_000 *ℤ Q levers 30 40))

  gz_asks : Asks p.rules.gz_at_30 200 p.gz_at_30
  gz_asks = rw told.profile_is (reaches 200 (levers 6))

  gm_asks : Asks p.rules.gm 150 p.gm
  gm_asks = rw told.profile_is (reaches 150 (pos km -ℤ pos kg))

pub supply_vessels : SupplyVessels
supply_vessels = record {
  refused_in_order = in_order;
  refusals_write_nothing = refused_left;
  gm_and_gz_follow_the_formulas = formulas;
  peak_is_the_first_greatest = λ made. (first_greatest made, peak_asks made);
  area_to_t = λ {kn} {kg = kg} made. (t (GZ kn kg), is_t made, to_t_left made, to_t_asks made);
  area_from_30_to_40 = λ made. (from_30_left made, from_30_asks made);
  gz_at_30_and_gm = λ made. (gz_asks made, gm_asks made);
  lowering_kg = λ lower found made. lower_kg lower found made;
  but_not_the_peak = (record { kn = tying_at10; km = 4_000; kg = 3_000; higher = _; lower = _; at_higher = peak_turned.0; at_lower = peak_turned.1 }, refl, refl);
  nor_the_area_to_t = (record { kn = tying_at15; km = 4_000; kg = 3_009; higher = _; lower = _; at_higher = area_turned.0; at_lower = area_turned.1 }, refl, refl);
  sines_are_right = sines_are_right;
}
