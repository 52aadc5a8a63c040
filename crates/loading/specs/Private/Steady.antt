-- The condition made of what is aboard, added up, at a draft and the KM there: the words of private contracts.
use Rattle.std.specs.Prelude.{ℕ, ◌+◌, ◌*◌, ◌/◌, ◌≤◌, ◌<◌, Bool, ◌&&◌, List, ltb, ℤ, pos, negsuc, nat_abs, ◌-ℤ◌}
use Rattle.std.specs.Int.Signed.{le_z}
use Rattle.arithmetic.specs.Choice.{when◌then◌else◌}
use Rattle.arithmetic.specs.Rounding.{rounded_up}
use Rattle.ranges.specs.Fields.{most, highest_metacentre, y_range}
use Rattle.ranges.specs.Outcome.{Outcome, answered, refused, and_then}
use Rattle.ranges.specs.Refusals.{too_light, too_heavy}
use Rattle.loading.specs.Private.Aboard.{most_in_items, most_in_tanks, Bearable}
use Rattle.loading.specs.Condition.{tanks_from, floats}
use Rattle.loading.specs.Paper.{paper_rules}
use Rattle.loading.specs.Records.{load_of}
use Rattle.loading.specs.Stability.{least_gm, heel_of, stands, passes, km_at}
use Rattle.loading.specs.Table.{Table, last_row, draft_of}
use Rattle.loading.specs.declared.Aboard.{Aboard}
use Rattle.loading.specs.declared.Condition.{Condition}
use Rattle.loading.specs.declared.Heel.{Heel}
use Rattle.loading.specs.declared.Reading.{Reading}
use Rattle.loading.specs.declared.Totals.{Totals}

-- v, or 0 where v is below 0
abbrev pub above_zero : ℤ → ℕ
above_zero (pos n) = n
above_zero (negsuc n) = 0

abbrev pub gm_of : ℕ → ℕ → ℕ → ℤ
gm_of km moment weight = pos km -ℤ pos (rounded_up moment weight)

abbrev pub transverse_of : Aboard → ℤ
transverse_of a = pos a.starboard -ℤ pos a.port

abbrev pub totals_with : Aboard → Totals
totals_with a = record { weight = a.weight; longitudinal = a.longitudinal; vertical = a.vertical; transverse = transverse_of a }

abbrev pub passes_with : ℤ → Heel → Bool
passes_with gm heel = le_z (pos least_gm) gm && stands heel

unfoldable pub condition_with : Aboard → ℕ → ℕ → Condition
condition_with a draft km =
    let gm = gm_of km (a.vertical + a.surface) a.weight in
    record {
      weight = a.weight;
      draft = draft;
      km = km;
      lcg = a.longitudinal / a.weight;
      vertical_moment = a.vertical;
      free_surface = a.surface;
      gm = gm;
      transverse_moment = transverse_of a;
      heel = heel_of a.weight gm (transverse_of a);
      passes = passes a.weight gm (transverse_of a);
    }

-- something is aboard, and no more than can be; and KM is in its range
pub record Steady (a : Aboard) (km : ℕ) : Type 0 where
  pub bearable : Bearable a
  pub some : 0 < a.weight
  pub km_most : km ≤ highest_metacentre

-- a weight, a GM and a transverse moment no larger than those of a condition: each is held exactly by a 64-bit float
pub record Moderate (weight : ℕ) (gm my : ℤ) : Type 0 where
  pub weight_most : weight ≤ most_in_items + most_in_tanks
  pub gm_most : above_zero gm ≤ highest_metacentre
  pub my_most : nat_abs my ≤ most y_range * (most_in_items + most_in_tanks)

-- what is aboard against a table: 11 below the first row, 12 above the last
unfoldable pub floats_with : Reading → Table → Aboard → Outcome Condition
floats_with reading t a =
    when ltb a.weight t.first.displacement then refused too_light 0
    else when ltb (last_row t).displacement a.weight then refused too_heavy 0
    else answered (condition_with a (draft_of t a.weight) (km_at (paper_rules reading) t a.weight))

-- once sizes, rows and items are allowed: the tanks, and then the weight
unfoldable pub after_items : Reading → List ℤ → List ℤ → Table → Outcome Condition
after_items reading items tanks t = and_then (tanks_from 0 tanks) (λ last. floats reading t (load_of items tanks))
