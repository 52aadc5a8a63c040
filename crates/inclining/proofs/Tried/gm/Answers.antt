-- The numbers are small, and neither the weight nor the deflection is 0. Assumes nothing.
use native.Mathlib.Nat.{mul-le-mul}
use native.Mathlib.Omega.{arith}
use Rattle.arithmetic.proofs.Products.{product_fits}
use Rattle.inclining.proofs.Tried.gm.Goals as goal

pub overflow_mul-result : goal.overflow_mul-result
overflow_mul-result c = let so = c.requires in product_fits so.moment_most c.args.self.in_range.pendulum_most tt

pub overflow_mul-result-2 : goal.overflow_mul-result-2
overflow_mul-result-2 c = let so = c.requires in product_fits c.args.self.in_range.weight_most so.deflection_most tt

pub nonzero_div-result : goal.nonzero_div-result
nonzero_div-result c = let so = c.requires in omega (arith, mul-le-mul c.args.self.in_range.weight_least so.deflection_least)
