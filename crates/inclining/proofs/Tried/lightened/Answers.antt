-- Each difference by which of its sides is greater. Assumes nothing.
use mathlib.Core.Path.{refl, ap, ◌∙◌}
use native.Mathlib.Nat.{mul-le-mul}
use native.Mathlib.Omega.{arith}
use Rattle.arithmetic.proofs.Products.{product_fits}
use Rattle.std.specs.Prelude.{Err}
use Rattle.ranges.specs.Reasons.{paper}
use Rattle.inclining.proofs.Lightening.{no_weight, moment_below, found}
use Rattle.inclining.proofs.Tried.lightened.Goals as goal

pub overflow_mul-added : goal.overflow_mul-added
overflow_mul-added c =
    let so = c.args.self.in_range in
    product_fits so.weight_most so.km_most tt

pub overflow_add-added : goal.overflow_add-added
overflow_add-added c =
    let so = c.args.self.in_range in
    omega (arith, mul-le-mul so.weight_most so.km_most, c.requires.2.vertical_most)

pub returns-then-aboard-taken_off : goal.returns-then-aboard-taken_off
returns-then-aboard-taken_off c =
    let s = c.args in
    ap (λ r. paper (Err r)) c.at.ensures ∙ no_weight s.self.test s.off s.on s.gm c.if-aboard-taken_off.true

pub returns-then-added-deducted : goal.returns-then-added-deducted
returns-then-added-deducted c =
    let s = c.args in
    ap (λ r. paper (Err r)) c.at-then-added-deducted.ensures ∙ moment_below s.self.test s.off s.on s.gm c.if-aboard-taken_off.false c.if-added-deducted.true

pub returns : goal.returns
returns c =
    let s = c.args in
    found s.self.test s.off s.on s.gm c.if-aboard-taken_off.false c.if-added-deducted.false refl refl c.rounded_up-vcg.ensures
