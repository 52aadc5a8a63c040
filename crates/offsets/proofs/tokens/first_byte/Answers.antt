-- Only separators were passed over. Assumes nothing.
use mathlib.Core.Path.{sym, ◌∙◌}
use native.Mathlib.Omega.{arith}
use Rattle.offsets.proofs.Words.{at_separator, at_end}
use Rattle.offsets.proofs.tokens.first_byte.Goals as goal

pub returns-then-not-is_separator : goal.returns-then-not-is_separator
returns-then-not-is_separator c = record { same = c.loop-at.invariant; byte = record { there = c.loop-at-test.true; word = sym c.is_separator.ensures ∙ c.if-not-is_separator.true } }

pub loop-at-preserved : goal.loop-at-preserved
loop-at-preserved c = at_separator c.args.text.now c.loop-at.at c.loop-at-test.true (sym c.is_separator.ensures ∙ c.if-not-is_separator.false) ∙ c.loop-at.invariant

pub returns : goal.returns
returns c = sym c.loop-at.invariant ∙ at_end _ _ (omega arith)
