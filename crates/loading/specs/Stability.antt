-- GM, the heel and the pass, by any rules for KM and free surface.
use Rattle.std.specs.Prelude.{Bool, true, false, ◌&&◌, ℕ, ◌+◌, ◌*◌, ◌/◌, eqb, Float, ℤ, pos, nat_abs, ◌-ℤ◌, ◌*ℤ◌}
use Rattle.std.specs.Float.Ieee as Ieee
use Rattle.std.specs.Float.{binary64}
use Rattle.std.specs.Int.Signed.{le_z}
use Rattle.arithmetic.specs.Choice.{when◌then◌else◌}
use Rattle.arithmetic.specs.Rounding.{rounded_up}
use Rattle.loading.specs.Fraction.{Fraction, SignedFraction, ◌over◌, ◌plus◌, ◌per◌, ◌minus◌}
use Rattle.loading.specs.Load.{Load, weight, longitudinal_moment_of, vertical_moment_of}
use Rattle.loading.specs.Rules.{Rules, surface_of}
use Rattle.loading.specs.Table.{Table, place_of, draft_of}
use Rattle.loading.specs.Total.{total}
use Rattle.loading.specs.declared.Heel.{Heel}
use Rattle.loading.specs.declared.Heel.TheVariants.{Unstable, Upright, Heeled, Beyond}

-- "The least GM of 150 mm and the heel limit 1,763"
abbrev pub least_gm : ℕ
least_gm = 150

abbrev pub heel_limit : ℕ
heel_limit = 1_763

-- of which so many are a tangent of 1
abbrev pub ten_thousandths : ℕ
ten_thousandths = 10_000

-- "the tangent, a float from one division of My by W·GM in 64 bits"
abbrev pub tangent : ℕ → ℤ → ℤ → Float
tangent W gm my = Ieee.div binary64 (Ieee.of_int binary64 my) (Ieee.of_int binary64 (pos W *ℤ gm))

-- "unstable if GM ≤ 0; else upright if My = 0; else heeled if 10,000·|My| ≤ 1,763·W·GM, carrying the tangent; else beyond"
unfoldable pub heel_of : ℕ → ℤ → ℤ → Heel
heel_of W gm my =
    when le_z gm (pos 0) then Unstable
    else when eqb (nat_abs my) 0 then Upright
    else when le_z (pos (ten_thousandths * nat_abs my)) (pos (heel_limit * W) *ℤ gm) then Heeled (tangent W gm my)
    else Beyond

abbrev pub stands : Heel → Bool
stands Unstable = false
stands Upright = true
stands (Heeled t) = true
stands Beyond = false

-- "It passes when GM ≥ 150 and it is upright or heeled."
unfoldable pub passes : ℕ → ℤ → ℤ → Bool
passes W gm my = le_z (pos least_gm) gm && stands (heel_of W gm my)

abbrev pub draft : Table → Load → ℕ
draft t l = draft_of t (weight l)

-- "LCG = longitudinal moment / W, rounded down"
abbrev pub lcg : Load → ℕ
lcg l = longitudinal_moment_of l / weight l

module _ (rules : Rules) where
  -- "The total is the sum."
  unfoldable pub free_surface_of : Load → ℕ
  free_surface_of l = total (surface_of rules.surface) l.tanks

  unfoldable pub free_surface_parts : Load → ℕ
  free_surface_parts l = total rules.surface.parts l.tanks

  module _ (t : Table) where
    -- a load bears on KM by W alone,
    abbrev pub km_at : ℕ → ℕ
    km_at W = rules.reading.given (place_of t W) W

    -- "GM = KM − (vertical moment + free surface)/W, the quotient rounded up"
    abbrev pub gm_at : ℕ → ℕ → ℕ → ℤ
    gm_at W moment surface = pos (km_at W) -ℤ pos (rounded_up (moment + surface) W)

    -- the same as a fraction; its bottom is the paper's factor, unit · W · (D₊ − D)
    abbrev pub unrounded_at : ℕ → ℕ → Fraction → SignedFraction
    unrounded_at W moment surface = rules.reading.unrounded (place_of t W) W minus (moment plus surface) per W

    module _ (l : Load) where
      abbrev pub km : ℕ
      km = km_at (weight l)

      abbrev pub gm : ℤ
      gm = gm_at (weight l) (vertical_moment_of l) (free_surface_of l)

      abbrev pub unrounded_gm : SignedFraction
      unrounded_gm = unrounded_at (weight l) (vertical_moment_of l) (free_surface_parts l over rules.surface.unit)
