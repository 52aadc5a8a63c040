-- Each number of the profile and each rule, by its own function. Assumes nothing.
use Prim.Native.Nat.{◌≤◌}
use mathlib.Core.Path.{ap, ◌∙◌}
use native.Mathlib.Omega.{arith}
use Rattle.arithmetic.proofs.Crossing.{back_is}
use Rattle.levers.specs.Criterion.{least_area, least_gz, at_least, area_at_least}
use Rattle.levers.specs.Levers.{lever}
use Rattle.levers.specs.Private.Parts.{value}
use Rattle.levers.specs.Sines.{degrees}
use Rattle.levers.proofs.Making.{held_within, to_t, area_to_t, stands, from_30, made}
use Rattle.levers.proofs.Peak.{peak_within}
use Rattle.levers.proofs.Tabled.{lever_is}
use Rattle.levers.proofs.tables.Levers.profile.Goals as goal
use Rattle.levers.proofs.tables.Levers.profile.Goals.{After-held_at-last}

-- it is one of the angles
peak_small : (c : After-held_at-last) → c.peak-peak.result ≤ 12
peak_small c =
    omega (arith, c.peak-peak.ensures, peak_within (lever c.args.self.now.kn c.args.self.now.off) 12)

pub overflow_mul-angle : goal.overflow_mul-angle
overflow_mul-angle c = omega (arith, peak_small c)

pub overflow_mul-t : goal.overflow_mul-t
overflow_mul-t c = omega (arith, (held_within _ _ c.held_at-last.ensures).within)

pub sum-to_t-requires : goal.sum-to_t-requires
sum-to_t-requires c = held_within _ _ c.held_at-last.ensures

pub invariant_of-stands : goal.invariant_of-stands
invariant_of-stands c =
    record { whole_small = omega (arith, peak_small (goal.at.invariant_of-stands c).After-held_at-last); off_small = omega arith }

pub overflow_sub-t : goal.overflow_sub-t
overflow_sub-t c = omega (arith, (held_within _ _ c.held_at-last.ensures).within)

pub returns : goal.returns
returns c =
    let gz = lever c.args.self.now.kn c.args.self.now.off in
    let peak_is = c.peak-peak.ensures in
    let lever30 = lever_is 6 c.lever_at-at_30.ensures in
    let beyond = from_30 gz c.sum-from_30.ensures in
    made gz (value c.args.gm)
    (ap degrees peak_is)
    (back_is (record { sfits = c.value.type_inv }) ∙ c.value.ensures)
    (back_is (record { sfits = c.value-2.type_inv }) ∙ c.value-2.ensures ∙ lever30)
    (back_is (record { sfits = c.value-3.type_inv }) ∙ c.value-3.ensures ∙ to_t gz _ _ peak_is c.held_at-last.ensures c.sum-to_t.ensures)
    (back_is (record { sfits = c.value-4.type_inv }) ∙ c.value-4.ensures ∙ beyond)
    (stands gz _ _ peak_is c.held_at-last.ensures c.at_least.ensures)
    (area_to_t gz _ _ peak_is c.held_at-last.ensures c.area_at_least.ensures c.sum-to_t.ensures)
    (c.area_at_least-2.ensures ∙ ap (area_at_least least_area) beyond)
    (c.at_least-2.ensures ∙ ap (at_least least_gz) lever30)
    c.at_least-3.ensures
