-- A list in range is answered, and with its totals. Assumes nothing.
use mathlib.Core.Path.{refl, sym, ap, ◌∙◌}
use Rattle.std.proofs.Common.{rules}
use Rattle.ranges.specs.Reasons.{paper}
use Rattle.ranges.proofs.Outcomes.{answer_same, paper_ok}
use Rattle.loading.proofs.Itemised.{totals_answered}
use Rattle.inclining.proofs.totals_of.Goals as goal

pub unwrap-requires : goal.unwrap-requires
unwrap-requires c = let is = paper_ok (c.item_totals.ensures ∙ totals_answered _ c.requires.fits refl c.requires.is_in_range) in search (rules, is)

pub returns : goal.returns
returns c = answer_same (sym (ap paper c.unwrap.ensures) ∙ c.item_totals.ensures ∙ totals_answered _ c.requires.fits refl c.requires.is_in_range)
