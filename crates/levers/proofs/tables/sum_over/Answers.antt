-- The part of the table is long enough, and its sum small. Assumes nothing.
use Rattle.std.proofs.Common.{rules}
use mathlib.Core.Path.{sym, ◌∙◌}
use Rattle.levers.proofs.Summed.{sum_made, ok_same}
use Rattle.levers.proofs.tables.sum_over.Goals as goal

pub unwrap-requires : goal.unwrap-requires
unwrap-requires c = let is = sum_made c.requires.0 c.requires.1 c.curve_sum.ensures in search (rules, is)

pub returns : goal.returns
returns c = ok_same (sym c.unwrap.ensures ∙ sum_made c.requires.0 c.requires.1 c.curve_sum.ensures)
