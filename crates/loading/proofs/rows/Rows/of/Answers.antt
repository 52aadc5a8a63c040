-- The size, and then the rows one by one. Assumes nothing.
use mathlib.Core.Path.{sym, ap, ◌∙◌}
use Rattle.loading.specs.Private.Afloat.{is_answered}
use Rattle.loading.proofs.Trying.{lent_wrong, lent_bad, lent_good}
use Rattle.loading.proofs.rows.Rows.of.Goals as goal

pub returns-then-not-rows_allowed : goal.returns-then-not-rows_allowed
returns-then-not-rows_allowed c = rw c.at.ensures (sym (lent_wrong c.args.numbers.now (sym c.rows_allowed.ensures ∙ c.if-not-rows_allowed.true)))

pub returns-in-Some : goal.returns-in-Some
returns-in-Some c = rw c.at-in-Some.ensures (sym (lent_bad c.args.numbers.now (sym c.rows_allowed.ensures ∙ c.if-not-rows_allowed.false) c.in-Some.ensures))

pub invariant_of-result : goal.invariant_of-result
invariant_of-result c = record { usable = ap is_answered (lent_good c.args.numbers.now (sym c.rows_allowed.ensures ∙ c.if-not-rows_allowed.false) c.in_default.ensures) }
