-- What the rule of 98 per cent gives the mate, beside the rule that counted a tank's surface to the last kilogram.
--     to_the_last_kilogram                     that rule, and nothing else changed
--     surface_is_not_more                   no load has more free surface than by it,
--     gm_is_not_less, pass_is_not_lost      and no condition less GM, or a fail for a pass
-- What is counted and what is not: `surface_slack`, `surface_empty`, `surface_pressed_up` of `Rectangles`. Assumes nothing.
use mathlib.Core.Bool.{◌&&◌, and-eq-true_iff}
use mathlib.Core.List.{List}
use Prim.Native.Nat.{ℕ, ◌+◌, ◌*◌, ◌^◌, ◌≤◌, ◌<◌}
use native.Mathlib.Nat.{le_refl}
use native.Mathlib.Omega.{arith}
use borrow.Author.Tests.{lt-ltb, ltb-true}
use lib.Dec.{T, ltb}
use lib.Signed.{◌≤ℤ◌}
use Rattle.arithmetic.specs.Choice.{when◌then◌else◌}
use Rattle.arithmetic.proofs.Choice.{chosen, if_either}
use Rattle.arithmetic.proofs.Rounding.{up_of, up_mono}
use Rattle.loading.specs.Condition.{condition_at}
use Rattle.loading.specs.Load.{Tank, Load, weight, vertical_moment_of, transverse_moment_of}
use Rattle.loading.specs.Paper.{pressed_up, hundredths, slack, rectangle_parts, rectangle, paper_rules}
use Rattle.loading.specs.Rules.{Rules, surface_of}
use Rattle.loading.specs.Stability.{free_surface_of, km, gm}
use Rattle.loading.specs.Table.{Table, hull}
use Rattle.loading.specs.declared.Condition.{Condition}
use Rattle.loading.specs.declared.Reading.{Reading}
use Rattle.loading.proofs.Answers.{rows_are_usable}
use Rattle.loading.proofs.Demand.{Passes, less_kg}
use Rattle.loading.proofs.Demand3.{ConditionOver, aboard, tried, is}
use Rattle.loading.proofs.Lowering.{pass_mono}
use Rattle.loading.proofs.Adding.{total_le}

-- "when 0 < contents < capacity"
abbrev not_full : Tank → ℕ
not_full t = when ltb 0 t.contents && ltb t.contents t.capacity then t.length * t.breadth ^ 3 * t.density else 0

abbrev pub to_the_last_kilogram : Reading → Rules
to_the_last_kilogram reading = record { reading = (paper_rules reading).reading; surface = record { parts = not_full; unit = rectangle.unit } }

-- what is slack is not full
parts_not_more : (t : Tank) → rectangle_parts t ≤ not_full t
unfolding rectangle_parts slack
parts_not_more t =
    if_either (λ parts. parts ≤ not_full t) (slack t)
    (λ e.
    let filled = hundredths * t.contents in
    let limit = pressed_up * t.capacity in
    let both = (and-eq-true_iff (ltb 0 t.contents) (ltb filled limit)).0 e in
    let room : t.contents < t.capacity = omega (arith, ltb-true filled limit both.1) in
    simp (both.0, lt-ltb t.contents t.capacity room, chosen) (le_refl _))
    (λ e. omega arith)

pub surface_is_not_more : (reading : Reading) (l : Load) → free_surface_of (paper_rules reading) l ≤ free_surface_of (to_the_last_kilogram reading) l
unfolding free_surface_of
surface_is_not_more reading l =
    let some : 0 < rectangle.unit = omega arith in
    total_le (surface_of rectangle) (surface_of (to_the_last_kilogram reading).surface)
    (λ t. up_mono (up_of (rectangle_parts t) rectangle.unit some) (up_of (not_full t) rectangle.unit some) (parts_not_more t))
    l.tanks

gm_not_less : (reading : Reading) (t : Table) (l : Load) → 0 < weight l → gm (to_the_last_kilogram reading) t l ≤ℤ gm (paper_rules reading) t l
gm_not_less reading t l laden =
    less_kg (km (paper_rules reading) t l) (vertical_moment_of l + free_surface_of (to_the_last_kilogram reading) l) (vertical_moment_of l + free_surface_of (paper_rules reading) l) (weight l) laden
    (omega (arith, surface_is_not_more reading l))

module _ {reading : Reading} {rows : List ℕ} {c : Condition} (a : ConditionOver reading rows c) where
  not_less : gm (to_the_last_kilogram reading) (hull rows) (aboard a) ≤ℤ gm (paper_rules reading) (hull rows) (aboard a)
  not_less =
      gm_not_less reading (hull rows) (aboard a) (omega (arith, (tried a).within.least, (rows_are_usable (tried a)).afloat))

  pub gm_is_not_less : gm (to_the_last_kilogram reading) (hull rows) (aboard a) ≤ℤ c.gm
  unfolding condition_at
  gm_is_not_less = rw (is a) not_less

  pub pass_is_not_lost : Passes (to_the_last_kilogram reading) (hull rows) (aboard a) → T c.passes
  unfolding condition_at
  pass_is_not_lost =
      rw (is a) (pass_mono (weight (aboard a)) (transverse_moment_of (aboard a)) (gm (to_the_last_kilogram reading) (hull rows) (aboard a)) (gm (paper_rules reading) (hull rows) (aboard a)) not_less)
