-- The front of the table is filled so far; the table of sines is the definition's. Assumes nothing.
use mathlib.Core.Path.{sym, ◌∙◌}
use native.Mathlib.Omega.{arith}
use Rattle.arithmetic.proofs.Parts.{stored_none, stored_more, stored_full}
use Rattle.arithmetic.proofs.Products.{product_fits}
use Rattle.levers.proofs.Tabled.{sine_le, products_length, product_at}
use Rattle.levers.proofs.products_of.Goals as goal

pub loop-i-init : goal.loop-i-init
loop-i-init c = stored_none _ _

pub overflow_mul-kg : goal.overflow_mul-kg
overflow_mul-kg c = product_fits c.requires (sine_le c.loop-i.i) tt

pub loop-i-preserved : goal.loop-i-preserved
loop-i-preserved c =
    let kg = c.args.kg in
    stored_more _ _ c.loop-i.invariant (omega (arith, products_length kg)) (omega arith) 0 (c.rounded_up.ensures ∙ sym (product_at kg c.loop-i.i))

pub returns : goal.returns
returns c =
    let kg = c.args.kg in
    stored_full _ _ c.loop-i.invariant (omega (arith, products_length kg)) (sym (products_length kg))
