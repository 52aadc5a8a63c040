-- The definitions give the figures of the papers.
--     figures        all of the table: what the paper marks P, and a request's own
-- The others are run by the crate trials. Assumes nothing.
use mathlib.Core.Path.{◌≡◌, refl}
use mathlib.Core.List.{map}
use Rattle.arithmetic.specs.Choice.{when◌then◌else◌}
use Rattle.arithmetic.specs.Rounding.{rounded_up}
use Rattle.arithmetic.specs.Sum.{sum_by}
use Rattle.simpson.specs.Curve.{curve}
use Rattle.simpson.specs.Multipliers.{first_rule, second_rule, later, multiplier}
use Rattle.loading.specs.Figures.{trial_figures, listed, computed}
use Rattle.loading.specs.Load.{weight, vertical_moment_of}
use Rattle.loading.specs.Paper.{slack, rectangle_parts}
use Rattle.loading.specs.Stability.{free_surface_of}
use Rattle.loading.specs.Table.{place_from}
use Rattle.loading.specs.Total.{total}

pub figures : map computed trial_figures ≡ trial_figures
unfolding listed multiplier first_rule second_rule later curve sum_by rounded_up rectangle_parts slack when◌then◌else◌ place_from weight vertical_moment_of free_surface_of total
figures = refl
