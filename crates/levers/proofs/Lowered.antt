-- A lower KG on the same table of KN and the same KM.
--     lever_higher                     no lever is lower
--     gm_still, area_still, gz_still   GM, the area from 30 to 40 degrees and GZ at 30 stay met
--     lower_kg                         so it is of two calls, and what was answered is answered
-- The peak and the area to t may be missed: proofs/Figures has a table for each. Assumes nothing.
use mathlib.Core.Path.{◌≡◌, refl, sym, ap, subst, ◌∙◌}
use mathlib.Core.List.{List}
use Prim.Native.Nat.{ℕ, ◌+◌, ◌-◌, ◌*◌, ◌≤◌}
use native.Mathlib.Nat.{mul-le-mul_right}
use native.Mathlib.Omega.{arith}
use lib.IntN.{ℤ, pos, ◌-ℤ◌}
use lib.ListN.{get_or}
use lib.Signed.{◌≤ℤ◌}
use Rattle.std.specs.Prelude.{Result, Ok}
use Rattle.arithmetic.proofs.Differences.{difference_le}
use Rattle.arithmetic.proofs.Rounding.{up_of, up_mono}
use Rattle.ranges.specs.declared.refusal.Refusal.{Refusal}
use Rattle.simpson.specs.Curve.{curve, curve_ℤ}
use Rattle.simpson.proofs.Curves.{curve_mono, curve_ℤ_less}
use Rattle.levers.specs.Criterion.{least_area, least_gz, least_gm, at_least, area_at_least, GM}
use Rattle.levers.specs.Levers.{products, lever, GZ, Q}
use Rattle.levers.specs.Promise.{MakesProfile}
use Rattle.levers.specs.Sines.{sine, million, number_at}
use Rattle.levers.specs.declared.Profile.{Profile}
use Rattle.levers.specs.declared.Rule.TheVariants.{Met}
use Rattle.levers.specs.declared.Rules.{Rules}
use Rattle.levers.proofs.Answered.{found_told}
use Rattle.levers.proofs.Comparing.{met, met_told, area_met, area_told}
use Rattle.levers.proofs.Order.{else_found}
use Rattle.levers.proofs.Tabled.{product_at}

module _ (kn : List ℕ) {kg kg' : ℕ} (lower : kg' ≤ kg) where
  abbrev off : ℕ → ℕ
  off i = get_or (products kg) i 0

  abbrev off' : ℕ → ℕ
  off' i = get_or (products kg') i 0

  product_lower : (i : ℕ) → off' i ≤ off i
  product_lower i =
      rw (product_at kg' i, product_at kg i)
      (up_mono (up_of (kg' * sine i) million (omega arith)) (up_of (kg * sine i) million (omega arith)) (mul-le-mul_right (sine i) lower))

  pub lever_higher : (i : ℕ) → GZ kn kg i ≤ℤ GZ kn kg' i
  unfolding lever
  lever_higher i = difference_le (get_or kn i 0) (off i) (get_or kn i 0) (off' i) (omega (arith, product_lower i))

  pub gm_still : (km : ℕ) → at_least least_gm (GM km kg) ≡ Met → at_least least_gm (GM km kg') ≡ Met
  gm_still km is = sym (met least_gm km kg' refl (omega (arith, met_told least_gm km kg refl is)))

  pub gz_still : (least i : ℕ) → at_least least (GZ kn kg i) ≡ Met → at_least least (GZ kn kg' i) ≡ Met
  unfolding lever
  gz_still least i is =
      sym (met least (get_or kn i 0) (off' i) refl (omega (arith, met_told least (get_or kn i 0) (off i) refl is, product_lower i)))

  -- a sum between two fixed angles, by the sums of KN and of the products
  module _ (from n : ℕ) where
    abbrev of_kn : ℕ
    of_kn = curve n (λ i. get_or kn (from + i) 0)

    abbrev of_products : (ℕ → ℕ) → ℕ
    of_products off = curve n (λ i. off (from + i))

    by_parts : (kg : ℕ) → curve_ℤ n (λ i. GZ kn kg (from + i)) ≡ pos of_kn -ℤ pos (of_products (λ i. get_or (products kg) i 0))
    unfolding lever
    by_parts kg = curve_ℤ_less n (λ i. get_or kn (from + i) 0) (λ i. get_or (products kg) (from + i) 0)

    area_kept : (least : ℕ) → area_at_least least (curve_ℤ n (λ i. GZ kn kg (from + i))) ≡ Met → area_at_least least (curve_ℤ n (λ i. GZ kn kg' (from + i))) ≡ Met
    area_kept least is =
        let before = area_told least of_kn (of_products off) (by_parts kg) is in
        sym (area_met least of_kn (of_products off') (by_parts kg')
        (omega (arith, before, curve_mono n (λ i. off' (from + i)) (λ i. off (from + i)) (λ i l. product_lower (from + i)))))

  pub area_still : (least : ℕ) → area_at_least least (Q (GZ kn kg) 30 40) ≡ Met → area_at_least least (Q (GZ kn kg') 30 40) ≡ Met
  unfolding Q
  area_still least is = area_kept (number_at 30) (number_at (40 - 30)) least is

module _ {kn : List ℕ} {km kg kg' : ℕ} (lower : kg' ≤ kg) {gz gz' after after' : List ℤ} {answer : Result Profile Refusal} {p : Profile}
    (found : MakesProfile kn km kg gz after (Ok p)) (made : MakesProfile kn km kg' gz' after' answer) where
  pub lower_kg : (p' : Profile) × (answer ≡ Ok p')
      × (p.rules.gm ≡ Met → p'.rules.gm ≡ Met)
      × (p.rules.area_from_30_to_40 ≡ Met → p'.rules.area_from_30_to_40 ≡ Met)
      × (p.rules.gz_at_30 ≡ Met → p'.rules.gz_at_30 ≡ Met)
  lower_kg =
      let told = found_told found in
      let so = told.is_in_range in
      let answered = else_found made told.as_many (λ i l. so.kn_most i) so.km_most (omega (arith, so.kg_most)) in
      let p' = answered.0 in
      let again : MakesProfile kn km kg' gz' after' (Ok p') = subst (MakesProfile kn km kg' gz' after') answered.1 made in
      let was = ap (λ (p : Profile). p.rules) told.profile_is in
      let is = ap (λ (p : Profile). p.rules) (found_told again).profile_is in (
        p',
        answered.1,
        λ met. ap (λ (r : Rules). r.gm) is ∙ gm_still kn lower km (sym (ap (λ (r : Rules). r.gm) was) ∙ met),
        λ met. ap (λ (r : Rules). r.area_from_30_to_40) is ∙ area_still kn lower least_area (sym (ap (λ (r : Rules). r.area_from_30_to_40) was) ∙ met),
        λ met. ap (λ (r : Rules). r.gz_at_30) is ∙ gz_still kn lower least_gz (number_at 30) (sym (ap (λ (r : Rules). r.gz_at_30) was) ∙ met),
      )
