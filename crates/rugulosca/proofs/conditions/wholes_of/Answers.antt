-- The heel by its number, the pass by its mark. Assumes nothing.
use mathlib.Core.Path.{refl}
use Rattle.report.proofs.Fields.{mark_is}
use Rattle.rugulosca.proofs.conditions.wholes_of.Goals as goal

pub returns : goal.returns
returns c = rw (c.lie.ensures, c.from.ensures) (rw (← mark_is c.args.c.passes) refl)
