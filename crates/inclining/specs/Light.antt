-- The light ship: the ship as it lay at the test, less what is to be taken off, with what is to be put on.
use Rattle.std.specs.Prelude.{ℕ, ◌*◌, ℤ, pos, nat_abs, ◌+ℤ◌, ◌-ℤ◌, ◌*ℤ◌}
use Rattle.std.specs.Int.Signed.{le_z}
use Rattle.arithmetic.specs.Choice.{when◌then◌else◌}
use Rattle.arithmetic.specs.Rounding.{rounded_up}
use Rattle.arithmetic.specs.Signed.{is_negative}
use Rattle.ranges.specs.Outcome.{Outcome, answered, refused}
use Rattle.ranges.specs.Refusals.{no_light_weight, light_moment_negative}
use Rattle.loading.specs.Fraction.{Fraction, SignedFraction}
use Rattle.loading.specs.declared.Totals.{Totals}
use Rattle.inclining.specs.declared.LightShip.{LightShip}
use Rattle.inclining.specs.declared.Test.{Test}

-- the same test with another free surface
abbrev pub with_surface : Test → ℕ → Test
with_surface test surface = record { weight = test.weight; km = test.km; free_surface = surface; pendulum = test.pendulum }

-- "The vertical moment is W·(KM − GM) less free surface": of either sign, since GM may be above KM
unfoldable pub vertical_moment_of : Test → ℕ → ℤ
vertical_moment_of test gm = pos test.weight *ℤ (pos test.km -ℤ pos gm) -ℤ pos test.free_surface

-- The light ship's moment by a GM that is not rounded: W·(KM − a/b), less free surface, less what is taken off, with what is put on; all times b, over b.
abbrev pub unrounded_moment : Test → Totals → Totals → Fraction → SignedFraction
unrounded_moment test off on gm = record {
  top =
      pos test.weight *ℤ (pos (test.km * gm.bottom) -ℤ pos gm.top)
      +ℤ pos gm.bottom *ℤ (pos on.vertical -ℤ pos off.vertical -ℤ pos test.free_surface);
  bottom = gm.bottom;
}

-- by the totals of the items "to take off and to put on"
module _ (test : Test) (off on : Totals) where
  unfoldable pub light_weight : ℤ
  light_weight = pos test.weight -ℤ pos off.weight +ℤ pos on.weight

  -- and by GM
  module _ (gm : ℕ) where
    unfoldable pub light_moment : ℤ
    light_moment = vertical_moment_of test gm -ℤ pos off.vertical +ℤ pos on.vertical

    -- "light weight, its moment and KG rounded up"
    abbrev pub light_ship : LightShip
    light_ship = record {
      measured_gm = gm;
      weight = nat_abs light_weight;
      vertical_moment = nat_abs light_moment;
      vcg = rounded_up (nat_abs light_moment) (nat_abs light_weight);
    }

    -- "20 when the light weight is 0 or less, 21 when its moment is negative, both at 0"
    unfoldable pub lightened : Outcome LightShip
    lightened =
        when le_z light_weight (pos 0) then refused no_light_weight 0
        else when is_negative light_moment then refused light_moment_negative 0
        else answered light_ship
