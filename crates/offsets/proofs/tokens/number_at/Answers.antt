-- What is read at a token's first byte, and what stands after it, tell the token. Assumes nothing.
use mathlib.Core.Path.{sym, ◌∙◌}
use Rattle.offsets.proofs.Words.{token_at, finds_number, finds_other, finds_none}
use Rattle.offsets.proofs.tokens.number_at.Goals as goal

pub returns-in_err-numeral : goal.returns-in_err-numeral
returns-in_err-numeral c = rw c.from_residual.ensures (finds_none _ _ (token_at _ _ c.requires) (sym c.numeral_at.ensures ∙ c.in_err-numeral.was))

pub returns-then-ends_here : goal.returns-then-ends_here
returns-then-ends_here c = finds_number _ _ (token_at _ _ c.requires) _ _ (sym c.numeral_at.ensures ∙ c.in_ok-numeral.was) (sym c.ends_here.ensures ∙ c.if-ends_here.true)

pub returns-else-ends_here : goal.returns-else-ends_here
returns-else-ends_here c = finds_other _ _ (token_at _ _ c.requires) _ _ (sym c.numeral_at.ensures ∙ c.in_ok-numeral.was) (sym c.ends_here.ensures ∙ c.if-ends_here.false)
