-- Free surface, by any sound rule.
--     lower_surface        lowering never adds to it
--     surface_enough       what is given is not below the unrounded,
--     surface_close        and less than W above it: the slack tanks are no more than the kilograms aboard
-- Assumes nothing.
use mathlib.Core.Path.{◌≡◌, refl, ap, ◌∙◌}
use Prim.Native.Nat.{ℕ, zero, suc, ◌+◌, ◌*◌, ◌≤◌, ◌<◌}
use native.Mathlib.Nat.{mul_comm, mul-zero, mul-add, le-mul_of_pos_right}
use native.Mathlib.Omega.{arith}
use Rattle.arithmetic.proofs.Ring.{ring}
use Rattle.arithmetic.proofs.Rounding.{RoundedUp, up_of, up_mono, up_zero}
use Rattle.loading.specs.Load.{Tank, Load, weight, Lowered}
use Rattle.loading.specs.Rules.{Rules, surface_of}
use Rattle.loading.specs.Stability.{free_surface_of, free_surface_parts}
use Rattle.loading.specs.Total.{total}
use Rattle.loading.proofs.Laws.{Sound}
use Rattle.loading.proofs.Adding.{total_mono, total_le, total_plus, total_times}

-- What is rounded up by less than one if there are kilograms, and by nothing if there are none,
rounded_some : (unit surface parts kg : ℕ) → 0 < unit → RoundedUp parts unit surface → unit * surface + suc kg ≤ parts + unit * suc kg
rounded_some unit surface parts kg some up =
    simp ring (omega (arith, simp ring at up.high, le-mul_of_pos_right kg some))

-- is rounded up by less than the kilograms.
rounded_kg : (unit surface parts kg : ℕ) → 0 < unit → RoundedUp parts unit surface → (kg ≡ 0 → parts ≡ 0) → unit * surface + kg ≤ parts + unit * kg
rounded_kg unit surface parts zero some up empty =
    let none : surface ≡ 0 = up_zero (rw (empty refl) at up) in
    omega (arith, ap (λ n. unit * n) none ∙ mul-zero unit)
rounded_kg unit surface parts (suc kg) some up empty = rounded_some unit surface parts kg some up

module _ (rules : Rules) (sound : Sound rules) where
  abbrev unit : ℕ
  unit = rules.surface.unit

  abbrev given : Tank → ℕ
  given = surface_of rules.surface

  abbrev parts : Tank → ℕ
  parts = rules.surface.parts

  rounds : (t : Tank) → RoundedUp (parts t) unit (given t)
  rounds t = up_of (parts t) unit sound.surface.unit_some

  pub lower_surface : (k l : Load) → Lowered k l → free_surface_of rules k ≤ free_surface_of rules l
  unfolding free_surface_of
  lower_surface k l h =
      total_mono given (λ s t r. up_mono (rounds s) (rounds t) (sound.surface.lowered s t r)) h.tanks

  pub surface_enough : (l : Load) → free_surface_parts rules l ≤ rules.surface.unit * free_surface_of rules l
  unfolding free_surface_of free_surface_parts
  surface_enough l =
      rw (← total_times unit given l.tanks)
      (total_le parts (λ t. unit * given t) (λ t. omega (arith, (rounds t).low, mul_comm unit (given t))) l.tanks)

  pub surface_close : (l : Load) → 0 < weight l → rules.surface.unit * free_surface_of rules l < free_surface_parts rules l + rules.surface.unit * weight l
  unfolding free_surface_of free_surface_parts weight
  surface_close l laden =
      let items = total (λ i. i.kg) l.items in
      let contents = total (λ t. t.contents) l.tanks in
      omega (
        arith,
        total_le (λ t. unit * given t + t.contents) (λ t. parts t + unit * t.contents) (λ t. rounded_kg unit (given t) (parts t) t.contents sound.surface.unit_some (rounds t) (sound.surface.empty t)) l.tanks,
        total_plus (λ t. unit * given t) (λ t. t.contents) l.tanks,
        total_plus parts (λ t. unit * t.contents) l.tanks,
        total_times unit given l.tanks,
        total_times unit (λ t. t.contents) l.tanks,
        mul-add unit items contents,
        mul_comm unit items,
        le-mul_of_pos_right items sound.surface.unit_some,
      )
