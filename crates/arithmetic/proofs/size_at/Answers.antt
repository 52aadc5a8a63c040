-- What is read is the number that stands there. Assumes nothing.
use mathlib.Core.Path.{ap, ◌∙◌}
use borrow.Author.Rules.{sfits_of}
use lib.IntN.{nat_abs}
use Rattle.arithmetic.proofs.Crossing.{heard}
use Rattle.arithmetic.proofs.size_at.Goals as goal

pub returns : goal.returns
returns c = heard nat_abs (sfits_of {z = c.number_at.result} c.number_at.type_inv) c.magnitude.ensures ∙ ap nat_abs c.number_at.ensures
