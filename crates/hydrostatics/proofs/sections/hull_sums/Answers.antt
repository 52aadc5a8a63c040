-- The half-breadths are tried first, and the sums of each row are stored at its number. Assumes nothing.
use native.Mathlib.Omega.{arith}
use Rattle.hydrostatics.proofs.Filling.{filling_all}
use Rattle.hydrostatics.proofs.Tried.{one_outside, all_inside}
use Rattle.hydrostatics.proofs.sections.hull_sums.Goals as goal

pub returns-then-is_some : goal.returns-then-is_some
returns-then-is_some c = one_outside _ c.first_outside.ensures c.if-is_some.ensures

pub invariant_of-part : goal.invariant_of-part
invariant_of-part c = record {
  in_range = all_inside c.args.hull.complete c.first_outside.ensures c.if-is_some.ensures;
  has_row = (omega arith, omega arith);
}

pub returns : goal.returns
returns c = (
  all_inside c.args.hull.complete c.first_outside.ensures c.if-is_some.ensures,
  record { each = filling_all c.loop-r.invariant (omega (arith, c.args.hull.complete.particulars.m_least)) },
)
