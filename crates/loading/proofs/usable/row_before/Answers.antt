-- Assumes nothing.
use mathlib.Core.Path.{sym, ap, ◌∙◌}
use native.Mathlib.Omega.{arith}
use Rattle.std.specs.Prelude.{Some}
use Rattle.loading.proofs.Trying.{before_none, before_some}
use Rattle.loading.proofs.usable.row_before.Goals as goal

pub returns-then-r-eq0 : goal.returns-then-r-eq0
returns-then-r-eq0 c = sym (before_none c.args.numbers.now c.args.r (omega (arith, c.if-r-eq0.true)))

pub returns : goal.returns
returns c = ap Some c.row_in.ensures ∙ sym (before_some c.args.numbers.now c.args.r (omega (arith, c.if-r-eq0.false)))
