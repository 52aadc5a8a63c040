-- The first number outside is refused; where there is none, the figures are shown. Assumes nothing.
use mathlib.Core.Path.{ap, ◌∙◌}
use Rattle.std.specs.Prelude.{Err}
use Rattle.ranges.specs.Outcome.{answered}
use Rattle.ranges.specs.Reasons.{paper}
use Rattle.hydrostatics.proofs.Shown.{shown_refused, shown_all, shown}
use Rattle.hydrostatics.proofs.display_row.Goals as goal

pub returns-in-Some : goal.returns-in-Some
returns-in-Some c = ap (λ r. paper (Err r)) c.at.ensures ∙ shown_refused _ c.in-Some.ensures

pub figures_of-requires : goal.figures_of-requires
figures_of-requires c = shown_all _ c.in_default.ensures

pub returns : goal.returns
returns c = ap answered c.figures_of.ensures ∙ shown _ c.in_default.ensures
