-- The tests in the paper's order; then GM, the light ship, and each shift's GM in the table. Assumes nothing.
use mathlib.Core.Path.{◌≡◌, sym, ap, ◌∙◌}
use native.Mathlib.Omega.{arith}
use Rattle.std.proofs.lemmas.Result.{err_from_is_err_and}
use Rattle.ranges.specs.Reasons.{paper}
use Rattle.ranges.proofs.Outside.{some_place, none_place}
use Rattle.loading.specs.Items.{totals_of_items}
use Rattle.inclining.specs.Light.{lightened}
use Rattle.inclining.specs.Measured.{shifts_of, gm_measured}
use Rattle.inclining.specs.Private.Heeling.{gm_by}
use Rattle.inclining.proofs.Making.{righting_most, Tried, tried, kept, light_at, declined, made}
use Rattle.inclining.proofs.Shifts.{heeling_in_range}
use Rattle.inclining.proofs.Sized.{sized}
use Rattle.inclining.proofs.Trying.{refused_size, refused_range, totals_in_range}
use Rattle.inclining.proofs.light_ship.Goals as goal
use Rattle.inclining.proofs.light_ship.Goals.{After-lightened, In_default-outside_of}

pub returns-in-Some : goal.returns-in-Some
returns-in-Some c =
    let at = some_place (sym c.in-Some.ensures) in
    kept _ _ _ _ _ c.at.ensures (rw at.0 (refused_size _ _ _ _ _ at.1))

pub returns-in-Some-outside_of : goal.returns-in-Some-outside_of
returns-in-Some-outside_of c =
    let at = some_place (sym c.in-Some-outside_of.ensures) in
    let size = sized _ _ _ _ (none_place (sym c.in_default.ensures)) in
    kept _ _ _ _ _ c.at-in-Some-outside_of.ensures (refused_range _ _ _ _ _ size at.0 (omega (arith, at.0, at.1)))

-- what was tried
all : (c : In_default-outside_of) → let s = c.args in Tried s.test s.shifts.now s.off.now s.on.now s.gms.now
all c =
    tried _ _ _ _ _ (none_place (sym c.in_default.ensures)) (none_place (sym c.in_default-outside_of.ensures))

pub heeling_by-requires : goal.heeling_by-requires
heeling_by-requires c = (all c).shifts_are_fit

pub invariant_of-tried : goal.invariant_of-tried
invariant_of-tried c = record { in_range = (all (goal.at.invariant_of-tried c).In_default-outside_of).test_fits }

pub gm-gm-requires : goal.gm-gm-requires
gm-gm-requires c = rw c.heeling_by.ensures (heeling_in_range _ (all (goal.at.gm-gm-requires c).In_default-outside_of).shifts_are_fit)

pub totals_of-requires : goal.totals_of-requires
totals_of-requires c = (all (goal.at.totals_of-requires c).In_default-outside_of).off_fit

pub totals_of-requires-2 : goal.totals_of-requires-2
totals_of-requires-2 c = (all (goal.at.totals_of-requires-2 c).In_default-outside_of).on_fit

pub lightened-requires : goal.lightened-requires
lightened-requires c =
    let so = all (goal.at.lightened-requires c).In_default-outside_of in (
      rw (c.gm-gm.ensures, c.heeling_by.ensures) (righting_most so.test_fits (heeling_in_range _ so.shifts_are_fit)),
      rw c.totals_of.ensures (totals_in_range so.off_fit),
      rw c.totals_of-2.ensures (totals_in_range so.on_fit),
    )

-- the light ship by what was added up
light : (c : After-lightened) → let s = c.args in paper c.lightened.result ≡ lightened s.test (totals_of_items s.off.now) (totals_of_items s.on.now) (gm_measured s.test (shifts_of s.shifts.now))
light c =
    let s = c.args in
    c.lightened.ensures ∙ light_at s.test _ _ _ c.totals_of.ensures c.totals_of-2.ensures (c.gm-gm.ensures ∙ ap (gm_by s.test) c.heeling_by.ensures)

pub leave_gms-requires : goal.leave_gms-requires
leave_gms-requires c =
    let so = all (goal.at.leave_gms-requires c).In_default-outside_of in
    (so.shifts_are_fit, so.sizes.room_enough)

pub returns-in_err-ship : goal.returns-in_err-ship
returns-in_err-ship c =
    let at = goal.at.returns-in_err-ship c in
    let p = err_from_is_err_and c.from_residual.result c.from_residual.ensures.1 in
    rw (p.1, p.2) (declined _ _ _ _ _ (all at.In_default-outside_of) (sym (ap paper c.in_err-ship.was) ∙ light at.After-lightened))

pub returns : goal.returns
returns c =
    let at = goal.at.returns c in
    made _ _ _ _ _ (all at.In_default-outside_of) (sym (ap paper c.in_ok-ship.was) ∙ light at.After-lightened) c.leave_gms.ensures
