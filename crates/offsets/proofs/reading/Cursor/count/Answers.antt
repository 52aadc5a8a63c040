-- A count is the size of a number of its range. Assumes nothing.
use mathlib.Core.Path.{◌≡◌}
use borrow.Author.Rules.{rules}
use lib.IntN.{nat_abs}
use mir.Syntax.{w64}
use mir.Val.{SFits}
use Rattle.arithmetic.proofs.Crossing.{heard}
use Rattle.std.proofs.lemmas.Result.{err_from_is_err_and}
use Rattle.offsets.proofs.Taking.{count_taken, count_refused}
use Rattle.offsets.proofs.reading.Cursor.count.Goals as goal

pub returns-in_err-count : goal.returns-in_err-count
returns-in_err-count c =
    let p = err_from_is_err_and c.from_residual.result c.from_residual.ensures.1 in
    let one = c.in_err-count.ensures in
    rw (p.1, p.2) (record { reads = record { same_text = one.same_text; read = count_refused _ _ _ _ one.read }; bounded = tt })

pub returns : goal.returns
returns c =
    let one = c.in_ok-count.ensures in
    let taken = count_taken _ _ _ _ one.read in
    let held : SFits w64 c.in_ok-count.count = search rules in
    let size : c.magnitude.result ≡ nat_abs c.in_ok-count.count = heard nat_abs held c.magnitude.ensures in
    record { reads = record { same_text = one.same_text; read = rw size taken.0 }; bounded = rw size taken.1 }
