-- The walk over the rows: all before row r are usable. Assumes nothing.
use mathlib.Core.Path.{sym, ◌∙◌}
use native.Mathlib.Omega.{arith}
use Rattle.loading.specs.Private.Afloat.{count_of}
use Rattle.loading.proofs.Trying.{rows_none, rows_on, rows_bad, lent_whole}
use Rattle.loading.proofs.usable.first_unusable.Goals as goal

pub loop-r-init : goal.loop-r-init
loop-r-init c = rows_none c.args.numbers.now

pub is_usable-requires : goal.is_usable-requires
is_usable-requires c =
    let whole = lent_whole c.args.numbers.now c.requires in (omega (arith, whole.most), omega (arith, whole.whole))

pub returns-then-not-is_usable : goal.returns-then-not-is_usable
returns-then-not-is_usable c =
    let s = c.args in
    sym (rows_bad s.numbers.now c.loop-r.r (count_of s.numbers.now) c.loop-r-test.true c.loop-r.invariant (sym c.is_usable.ensures ∙ c.if-not-is_usable.true))

pub loop-r-preserved : goal.loop-r-preserved
loop-r-preserved c = rows_on c.args.numbers.now c.loop-r.r c.loop-r.invariant (sym c.is_usable.ensures ∙ c.if-not-is_usable.false)
