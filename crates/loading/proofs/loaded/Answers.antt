-- A tank's refusal is passed on; else what items and tanks bring goes against the rows. Assumes nothing.
use mathlib.Core.Path.{◌∙◌}
use Rattle.std.proofs.lemmas.Result.{err_from_is_err_and}
use Rattle.loading.proofs.Order.{after_refused, after_passed}
use Rattle.loading.proofs.loaded.Goals as goal

pub returns-in_err-in_tanks : goal.returns-in_err-in_tanks
returns-in_err-in_tanks c =
    let p = err_from_is_err_and c.from_residual.result c.from_residual.ensures.1 in rw (p.1, p.2) (after_refused _ _ _ _ c.in_err-in_tanks.ensures)

pub returns : goal.returns
returns c =
    c.laden.ensures
    ∙ rw c.add.ensures (after_passed _ _ _ _ c.in_ok-in_tanks.ensures c.items_aboard.ensures.is)
