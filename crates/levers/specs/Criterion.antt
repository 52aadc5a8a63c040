-- "the alternative criterion in source document 001": its five rules, and the report that "names each rule met or missed".
use Rattle.std.specs.Prelude.{ℕ, ◌-◌, ◌*◌, ℤ, pos, ◌-ℤ◌, ◌*ℤ◌}
use Rattle.std.specs.Int.Signed.{le_z}
use Rattle.arithmetic.specs.Choice.{when◌then◌else◌}
use Rattle.levers.specs.Levers.{peak, Q, t}
use Rattle.levers.specs.Sines.{degrees, number_at}
use Rattle.levers.specs.declared.Profile.{Profile}
use Rattle.levers.specs.declared.Rule.{Rule}
use Rattle.levers.specs.declared.Rule.TheVariants.{Met, Missed}
use Rattle.levers.specs.declared.Rules.{Rules}

-- what the rules ask for: the peak "at 15 degrees or more"; an area of "85 − t" mm·rad to t, and of 30 from 30 to 40 degrees; "GZ at 30 .. at least 200, GM at least 150"
abbrev pub least_peak : ℕ
least_peak = 15

abbrev pub area_and_t : ℕ
area_and_t = 85

abbrev pub least_area : ℕ
least_area = 30

abbrev pub least_gz : ℕ
least_gz = 200

abbrev pub least_gm : ℕ
least_gm = 150

-- "5000·Q ≥ 24·57,296" for each mm·rad: Q is in 24ths of 5 degrees, and 57,296 thousandths of a degree are a radian
abbrev pub sum_unit : ℕ
sum_unit = 5_000

abbrev pub area_unit : ℕ
area_unit = 24 * 57_296

unfoldable pub at_least : ℕ → ℤ → Rule
at_least least v = when le_z (pos least) v then Met else Missed

-- an area of so many mm·rad, by the multiplied sum
abbrev pub area_at_least : ℕ → ℤ → Rule
area_at_least least q = at_least (area_unit * least) (pos sum_unit *ℤ q)

-- "GM is KM less KG": of either sign
abbrev pub GM : ℕ → ℕ → ℤ
GM km kg = pos km -ℤ pos kg

module _ (gz : ℕ → ℤ) (gm : ℤ) where
  abbrev pub rules : Rules
  rules = record {
    -- "it must stand at 15 degrees or more"
    peak = at_least least_peak (pos (degrees (peak gz)));
    -- "the multiplied sum Q of GZ from 0 to t must meet 5000·Q ≥ 24·57,296·(85 − t)"
    area_to_t = area_at_least (area_and_t - t gz) (Q gz 0 (t gz));
    -- "from 30 to 40 degrees 5000·Q ≥ 24·57,296·30"
    area_from_30_to_40 = area_at_least least_area (Q gz 30 40);
    -- "GZ at 30 is at least 200, GM at least 150"
    gz_at_30 = at_least least_gz (gz (number_at 30));
    gm = at_least least_gm gm;
  }

  abbrev pub profile : Profile
  profile = record {
    peak_angle = degrees (peak gz);
    gm = gm;
    gz_at_30 = gz (number_at 30);
    sum_to_t = Q gz 0 (t gz);
    sum_from_30_to_40 = Q gz 30 40;
    rules = rules;
  }
