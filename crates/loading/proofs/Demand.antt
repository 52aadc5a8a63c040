-- Demand 3, from the laws of the rules alone.
--     Demand3         its sentences, of loads over a table, by any rules for KM and free surface
--     demand_3        for any sound rules and any usable table
--     less_kg         of GMs over one KM, by the moments that they come from
-- Of the conditions themselves: `Demand3`. Assumes nothing.
use mathlib.Core.Path.{◌≡◌, sym, ap, subst, subst₂}
use Prim.Native.Nat.{ℕ, ◌+◌, ◌≤◌, ◌<◌}
use native.Mathlib.Omega.{arith}
use lib.Dec.{T}
use lib.IntN.{pos, ◌-ℤ◌}
use lib.Signed.{◌≤ℤ◌}
use Rattle.arithmetic.specs.Rounding.{rounded_up}
use Rattle.arithmetic.proofs.Rounding.{up_of, up_mono}
use Rattle.loading.specs.Fraction.{LessThanThreeBelow}
use Rattle.loading.specs.Load.{Load, weight, vertical_moment_of, transverse_moment_of, Lowered}
use Rattle.loading.specs.Rules.{Rules}
use Rattle.loading.specs.Stability.{passes, draft, km_at, gm_at, free_surface_of, free_surface_parts, km, gm, unrounded_gm}
use Rattle.loading.specs.Private.Afloat.{Within}
use Rattle.loading.specs.Straight.{Greatest}
use Rattle.loading.specs.Table.{Table, place_of, draft_of}
use Rattle.arithmetic.proofs.Differences.{difference_le}
use Rattle.loading.proofs.Drafts.{draft_is_greatest, heavier_draft}
use Rattle.loading.proofs.Laws.{Sound, Usable}
use Rattle.loading.proofs.Lowering.{lower_weight, lower_vertical, lower_transverse, pass_mono}
use Rattle.loading.proofs.Margin.{less_than_three}
use Rattle.loading.proofs.Places.{place_stands}
use Rattle.loading.proofs.Surfaces.{lower_surface, surface_enough, surface_close}

abbrev pub Passes : Rules → Table → Load → Type 0
Passes rules t l = T (passes (weight l) (gm rules t l) (transverse_moment_of l))

pub record Demand3 (rules : Rules) (t : Table) : Type 0 where
  pub draft_is_greatest : (l : Load) → Within t (weight l) → Greatest t (weight l) (draft t l)
  pub heavier_never_floats_higher : (k l : Load) → Within t (weight k) → Within t (weight l) → weight k ≤ weight l → draft t k ≤ draft t l
  pub equal_weights_float_alike : (k l : Load) → weight k ≡ weight l → (draft t k ≡ draft t l) × (km rules t k ≡ km rules t l)
  pub lowering_never_lowers_gm : (k l : Load) → Within t (weight l) → Lowered k l → gm rules t l ≤ℤ gm rules t k
  pub lowering_keeps_a_pass : (k l : Load) → Within t (weight l) → Lowered k l → Passes rules t l → Passes rules t k
  pub gm_is_close : (l : Load) → Within t (weight l) → LessThanThreeBelow (gm rules t l) (unrounded_gm rules t l)

-- less KG, more GM
pub less_kg : (km a b W : ℕ) → 0 < W → b ≤ a → (pos km -ℤ pos (rounded_up a W)) ≤ℤ (pos km -ℤ pos (rounded_up b W))
less_kg km a b W p h =
    difference_le km (rounded_up a W) km (rounded_up b W) (omega (arith, up_mono (up_of b W p) (up_of a W p) h))

module _ (rules : Rules) (sound : Sound rules) (t : Table) (usable : Usable t) where
  gm_higher : (k l : Load) → Within t (weight l) → Lowered k l → gm rules t l ≤ℤ gm rules t k
  gm_higher k l w h =
      subst (λ W. gm rules t l ≤ℤ gm_at rules t W (vertical_moment_of k) (free_surface_of rules k)) (sym (lower_weight k l h))
      (less_kg (km rules t l) (vertical_moment_of l + free_surface_of rules l) (vertical_moment_of k + free_surface_of rules k) (weight l)
      (omega arith)
      (omega (arith, lower_vertical k l h, lower_surface rules sound k l h)))

  pass_kept : (k l : Load) → Within t (weight l) → Lowered k l → Passes rules t l → Passes rules t k
  pass_kept k l w h p =
      pass_mono (weight k) (transverse_moment_of k) (gm rules t l) (gm rules t k) (gm_higher k l w h)
      (subst₂ (λ W m. T (passes W (gm rules t l) m)) (sym (lower_weight k l h)) (sym (lower_transverse k l h)) p)

  gm_close : (l : Load) → Within t (weight l) → LessThanThreeBelow (gm rules t l) (unrounded_gm rules t l)
  gm_close l w =
      let W = weight l in
      let p = place_of t W in
      let laden : 0 < W = omega arith in
      less_than_three (rules.reading.unrounded p W) rules.surface.unit W (km rules t l) (rounded_up (vertical_moment_of l + free_surface_of rules l) W) (vertical_moment_of l) (free_surface_of rules l) (free_surface_parts rules l)
      sound.surface.unit_some
      (sound.reading.rounds W p (place_stands t W w))
      (up_of (vertical_moment_of l + free_surface_of rules l) W laden)
      (surface_enough rules sound l)
      (surface_close rules sound l laden)

pub demand_3 : (rules : Rules) → Sound rules → (t : Table) → Usable t → Demand3 rules t
demand_3 rules sound t usable = record {
  draft_is_greatest = λ l. draft_is_greatest t usable (weight l);
  heavier_never_floats_higher = λ k l. heavier_draft t usable (weight k) (weight l);
  equal_weights_float_alike = λ k l e. (ap (draft_of t) e, ap (km_at rules t) e);
  lowering_never_lowers_gm = gm_higher rules sound t usable;
  lowering_keeps_a_pass = pass_kept rules sound t usable;
  gm_is_close = gm_close rules sound t usable;
}
