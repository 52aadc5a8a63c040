-- What is read and what is still to be read are the whole run. Assumes nothing.
use mathlib.Core.Path.{refl, ◌∙◌}
use native.Mathlib.Omega.{arith}
use borrow.Author.Rules.{rules}
use mir.Syntax.{w64}
use mir.Val.{SFits}
use Rattle.arithmetic.proofs.Crossing.{back_is}
use Rattle.std.proofs.lemmas.Result.{err_from_is_err_and}
use Rattle.offsets.proofs.Runs.{range_at, run_starts, run_goes_on, run_refused, run_ends}
use Rattle.offsets.proofs.reading.Cursor.numbers.Goals as goal

pub loop-i-init : goal.loop-i-init
loop-i-init c = (refl, run_starts _ _ _ _ _)

pub returns-in_err-table : goal.returns-in_err-table
returns-in_err-table c =
    let p = err_from_is_err_and c.from_residual.result c.from_residual.ensures.1 in
    let l = c.loop-i.invariant in
    let one = c.in_err-table.ensures in
    let bounds = c.bounds-bounds in
    rw (p.1, p.2)
    (record {
      same_text = one.same_text ∙ l.0;
      read = run_refused _ _ _ _ _ _ _ l.1 c.loop-i-test.true (rw (range_at bounds.result.now _ bounds.ensures.ranges bounds.ensures.some c.loop-i.i, l.0) at one.read);
    })

pub loop-i-preserved : goal.loop-i-preserved
loop-i-preserved c =
    let l = c.loop-i.invariant in
    let one = c.in_ok-table.ensures in
    let bounds = c.bounds-bounds in
    let held : SFits w64 c.in_ok-table.field-0 = search rules in (
      one.same_text ∙ l.0,
      rw (back_is held)
          (run_goes_on _ _ _ _ _ _ _ l.1 c.loop-i-test.true _ _ (omega arith) (rw (range_at bounds.result.now _ bounds.ensures.ranges bounds.ensures.some c.loop-i.i, l.0) at one.read)),
    )

pub returns : goal.returns
returns c = record { same_text = c.loop-i.invariant.0; read = run_ends _ _ _ _ _ _ _ c.loop-i.invariant.1 (omega arith) (omega arith) (omega arith) }
