-- A separator, or the end. Assumes nothing.
use mathlib.Core.Path.{◌∙◌}
use borrow.Author.Tests.{lt-ltb, le-ltb, le-leb}
use Rattle.arithmetic.proofs.Choice.{chosen}
use Rattle.offsets.specs.Private.Steps.{ends_here}
use Rattle.offsets.proofs.tokens.ends_here.Goals as goal

pub returns-then-place-text : goal.returns-then-place-text
unfolding ends_here
returns-then-place-text c = le-leb _ _ c.if-place-text.true ∙ simp (le-ltb _ _ c.if-place-text.true, chosen)

pub returns-else-place-text : goal.returns-else-place-text
unfolding ends_here
returns-else-place-text c = simp (lt-ltb _ _ c.if-place-text.false, chosen) c.is_separator.ensures
