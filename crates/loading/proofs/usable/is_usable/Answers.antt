-- The ranges are tried first, so that KB and BM can be added. Assumes nothing.
use mathlib.Core.Path.{sym, ◌∙◌}
use Rattle.std.proofs.Common.{rules}
use Rattle.loading.proofs.Trying.{unusable_range, usable_is, heights_most}
use Rattle.loading.proofs.usable.is_usable.Goals as goal

pub returns-then-is_some : goal.returns-then-is_some
returns-then-is_some c = sym (unusable_range c.args.numbers.now c.args.r c.requires.1 c.row_in-row.ensures c.row_outside.ensures (sym c.is_some.ensures ∙ c.if-is_some.true))

pub metacentre_fits-requires : goal.metacentre_fits-requires
metacentre_fits-requires c = heights_most c.args.numbers.now c.args.r c.requires.1 c.row_in-row.ensures c.row_outside.ensures (sym c.is_some.ensures ∙ c.if-is_some.false)

pub returns-then-is_rising : goal.returns-then-is_rising
returns-then-is_rising c =
    rw (usable_is c.args.numbers.now c.args.r c.requires.1 c.row_in-row.ensures c.row_outside.ensures (sym c.is_some.ensures ∙ c.if-is_some.false) c.row_in-first.ensures c.row_before-before.ensures) (search rules)

pub returns-else-is_rising : goal.returns-else-is_rising
returns-else-is_rising c =
    rw (usable_is c.args.numbers.now c.args.r c.requires.1 c.row_in-row.ensures c.row_outside.ensures (sym c.is_some.ensures ∙ c.if-is_some.false) c.row_in-first.ensures c.row_before-before.ensures) (search rules)
