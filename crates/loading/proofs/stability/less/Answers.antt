-- Small numbers have a difference that 64 bits hold. Assumes nothing.
use mathlib.Core.Path.{◌∙◌}
use Rattle.arithmetic.proofs.Crossing.{nearest_back}
use Rattle.arithmetic.proofs.Differences.{difference_near}
use Rattle.loading.proofs.stability.less.Goals as goal

pub returns : goal.returns
returns c = nearest_back _ c.difference.ensures ∙ difference_near c.args.a c.args.b c.requires.0 c.requires.1
