-- A tank that is not slack has no surface; of one that is, each product fits by the ranges of its factors. Assumes nothing.
use mathlib.Core.Path.{sym, ap, ◌∙◌}
use Prim.Native.Nat.{ℕ, ◌*◌, ◌≤◌}
use native.Mathlib.Nat.{mul-le-mul}
use native.Mathlib.Omega.{arith}
use Rattle.arithmetic.specs.Rounding.{rounded_up}
use Rattle.arithmetic.proofs.Ring.{pow3}
use Rattle.ranges.specs.Fields.{most, range_of}
use Rattle.loading.specs.Paper.{rectangle}
use Rattle.loading.specs.Private.Aboard.{RoomOf}
use Rattle.loading.specs.Private.Filled.{tank_of}
use Rattle.loading.proofs.Rectangles.{surface_none, surface_some}
use Rattle.loading.proofs.tanks.Tank.surface.Goals as goal

module _ {length breadth density : ℕ} (r : RoomOf length breadth density) where
  square : breadth * breadth ≤ most (range_of 16) * most (range_of 16)
  square = mul-le-mul r.breadth_most r.breadth_most

  cube : breadth * breadth * breadth ≤ most (range_of 16) * most (range_of 16) * most (range_of 16)
  cube = mul-le-mul square r.breadth_most

  box : length * (breadth * breadth * breadth) ≤ most (range_of 15) * (most (range_of 16) * most (range_of 16) * most (range_of 16))
  box = mul-le-mul r.length_most cube

pub overflow_mul-breadth : goal.overflow_mul-breadth
overflow_mul-breadth c = omega (arith, square c.args.self.room)

pub overflow_mul-breadth-2 : goal.overflow_mul-breadth-2
overflow_mul-breadth-2 c = omega (arith, cube c.args.self.room)

pub overflow_mul-self : goal.overflow_mul-self
overflow_mul-self c = omega (arith, box c.args.self.room)

pub overflow_mul-self-2 : goal.overflow_mul-self-2
overflow_mul-self-2 c =
    let room = c.args.self.room in omega (arith, box room, mul-le-mul (box room) room.density_most)

pub returns-then-not-is_slack : goal.returns-then-not-is_slack
returns-then-not-is_slack c = surface_none (tank_of c.args.self) (sym c.is_slack.ensures ∙ c.if-not-is_slack.true)

pub returns : goal.returns
returns c =
    let t = c.args.self in
    c.rounded_up.ensures
    ∙ ap (λ n. rounded_up (t.length * n * t.density) rectangle.unit) (sym (pow3 t.breadth))
    ∙ surface_some (tank_of t) (sym c.is_slack.ensures ∙ c.if-not-is_slack.false)
