-- The two tests in the paper's order, and where both are passed the surface. Assumes nothing.
use mathlib.Core.Path.{◌≡◌, refl, sym, ap, subst, ◌∙◌}
use native.Mathlib.Omega.{arith}
use Rattle.std.specs.Prelude.{Err}
use Rattle.ranges.specs.Reasons.{paper}
use Rattle.ranges.proofs.Outside.{some_place, none_place}
use mathlib.Core.Bool.{true}
use Prim.Native.Nat.{◌*◌, ◌≤◌}
use lib.ListN.{length}
use Rattle.arithmetic.proofs.Products.{product_fits}
use Rattle.ranges.specs.Fields.{range_of, most}
use Rattle.hoppers.specs.Hopper.{counts_fit}
use Rattle.hoppers.specs.Private.Side.{most_rounded}
use Rattle.hoppers.proofs.Inertia.{inertia_most}
use Rattle.hoppers.proofs.Trying.{refused_size, refused_range, surface_found, made_found, tried}
use Rattle.hoppers.proofs.surface_of.Goals as goal
use Rattle.hoppers.proofs.surface_of.Goals.{After-outside_of}

pub returns-then-not-counts_fit : goal.returns-then-not-counts_fit
returns-then-not-counts_fit c =
    record { answer_is = ap (λ r. paper (Err r)) c.at.ensures ∙ refused_size _ _ _ _ (sym c.counts_fit.ensures ∙ c.if-not-counts_fit.true) }

-- the counts are right
fit : (c : After-outside_of) → let s = c.args in counts_fit (length s.port.now) (length s.starboard.now) ≡ true
fit c = sym c.counts_fit.ensures ∙ c.if-not-counts_fit.false

pub returns-in-Some : goal.returns-in-Some
returns-in-Some c =
    let at = some_place (sym c.in-Some.ensures) in
    record { answer_is = ap (λ r. paper (Err r)) c.at-in-Some.ensures ∙ refused_range _ _ _ _ (fit (goal.at.returns-in-Some c).After-outside_of) at.0 (omega (arith, at.0, at.1)) }

pub inertia_of-inertia-requires : goal.inertia_of-inertia-requires
inertia_of-inertia-requires c = (tried _ _ _ _ (fit (goal.at.inertia_of-inertia-requires c).After-outside_of) refl (none_place (sym c.in_default.ensures))).0

pub overflow_mul-inertia : goal.overflow_mul-inertia
overflow_mul-inertia c =
    let so = tried _ _ _ _ (fit (goal.at.overflow_mul-inertia c).After-outside_of) refl (none_place (sym c.in_default.ensures)) in
    product_fits (subst (λ i. i ≤ most_rounded * most (range_of 26)) (sym c.inertia_of-inertia.ensures) (inertia_most so.0)) so.1 tt

pub returns : goal.returns
returns c =
    record {
      answer_is =
          made_found _ _ _ _ c.inertia_of-inertia.ensures c.rounded_up.ensures
          ∙ surface_found _ _ _ _ (fit (goal.at.returns c).After-outside_of) refl (none_place (sym c.in_default.ensures));
    }
