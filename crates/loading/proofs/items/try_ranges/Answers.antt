-- Assumes nothing.
use mathlib.Core.Path.{sym}
use native.Mathlib.Omega.{arith}
use Rattle.ranges.proofs.Outside.{some_place, none_place}
use Rattle.loading.proofs.Itemised.{ranges_bad, ranges_good}
use Rattle.loading.proofs.items.try_ranges.Goals as goal

pub overflow_add-place : goal.overflow_add-place
overflow_add-place c =
    let at = some_place (sym c.in-Some.ensures) in
    omega (arith, c.requires)

pub returns-in-Some : goal.returns-in-Some
returns-in-Some c =
    let at = some_place (sym c.in-Some.ensures) in
    rw (c.at.ensures, at.0) (sym (ranges_bad c.args.items.now at.1))

pub returns-in-None : goal.returns-in-None
returns-in-None c = sym (ranges_good c.args.items.now (none_place (sym c.in-None.ensures)))
