-- The two tests in the paper's order, and where both are passed the profile. Assumes nothing.
use mathlib.Core.Path.{◌≡◌, refl, sym, ap, subst, ◌∙◌}
use native.Mathlib.Omega.{arith}
use lib.ListN.{length}
use Rattle.std.specs.Prelude.{Ok, Err}
use Rattle.ranges.proofs.Outside.{some_place, none_place}
use Rattle.levers.specs.Promise.{MakesProfile}
use Rattle.levers.specs.Sines.{angle_count}
use Rattle.levers.proofs.Making.{declined, answered_so}
use Rattle.levers.proofs.Tabled.{kn_in_range, products_in_range}
use Rattle.levers.proofs.Trying.{Inside, inside, refused_size, refused_range, found}
use Rattle.levers.proofs.profile_of.Goals as goal
use Rattle.levers.proofs.profile_of.Goals.{In-Ok, In_default-outside_of}

pub returns-in_default : goal.returns-in_default
returns-in_default c = declined c.at.ensures (refused_size _ _ _ (λ e. c.in_default.ensures.1 e))

-- the table is as long as there are angles
as_many : (c : In-Ok) → length c.in-Ok.kn ≡ angle_count
as_many c = ap length c.in-Ok.ensures.1.same ∙ c.in-Ok.ensures.1.long

pub returns-in-Some : goal.returns-in-Some
returns-in-Some c =
    let s = c.args in
    let at = some_place (sym c.in-Some.ensures) in
    let size = as_many (goal.at.returns-in-Some c).In-Ok in
    subst (λ kn. MakesProfile kn s.km s.kg s.gz.now s.gz.now (Err c.at-in-Some.result)) c.in-Ok.ensures.1.same
    (declined c.at-in-Some.ensures (refused_range _ _ _ size at.0 (omega (arith, at.0, at.1))))

-- what was tried
is_in_range : (c : In_default-outside_of) → length c.in-Ok.kn ≡ angle_count → Inside c.in-Ok.kn c.args.km c.args.kg
is_in_range c size = inside _ _ _ size refl (none_place (sym c.in_default-outside_of.ensures))

pub products_of-requires : goal.products_of-requires
products_of-requires c =
    let at = goal.at.products_of-requires c in
    (is_in_range at.In_default-outside_of (as_many at.In-Ok)).kg_most

pub invariant_of-levers : goal.invariant_of-levers
invariant_of-levers c =
    let at = goal.at.invariant_of-levers c in
    let so = is_in_range at.In_default-outside_of (as_many at.In-Ok) in
    record { kn_in_range = kn_in_range (as_many at.In-Ok) so.kn_most; off_in_range = rw c.products_of.ensures (products_in_range c.args.kg so.kg_most) }

pub invariant_of-profile : goal.invariant_of-profile
invariant_of-profile c =
    let at = goal.at.invariant_of-profile c in
    let so = is_in_range at.In_default-outside_of (as_many at.In-Ok) in
    record { whole_small = omega (arith, so.km_most); off_small = omega (arith, so.kg_most) }

pub returns : goal.returns
returns c =
    let s = c.args in
    subst (λ kn. MakesProfile kn s.km s.kg s.gz.now c.gz.result (Ok c.profile.result)) c.in-Ok.ensures.1.same
    (answered_so c.products_of.ensures c.gz.ensures c.profile.ensures
    (found _ _ _ (as_many (goal.at.returns c).In-Ok) refl (none_place (sym c.in_default-outside_of.ensures))))
