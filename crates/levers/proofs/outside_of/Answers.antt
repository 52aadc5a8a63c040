-- KN first, then KM and KG. Assumes nothing.
use mathlib.Core.Path.{refl, sym, ◌∙◌}
use native.Mathlib.Omega.{arith}
use Rattle.ranges.proofs.Outside.{place_none, some_place, none_place}
use Rattle.levers.proofs.Trying.{kn_outside, height_outside, place_told}
use Rattle.levers.proofs.outside_of.Goals as goal

pub returns-in-Some : goal.returns-in-Some
returns-in-Some c =
    let at = some_place (sym c.in-Some.ensures) in
    place_told _ _ _ (kn_outside _ _ _ at.0 (omega (arith, at.0, at.1))) (omega (arith, at.0, at.1))

pub overflow_add-result : goal.overflow_add-result
overflow_add-result c = let at = some_place (sym c.first_outside-2.ensures ∙ c.in_ok-place.was) in omega (arith, at.0, at.1)

pub returns-in_err-place : goal.returns-in_err-place
returns-in_err-place c =
    let past = none_place (sym c.in_default.ensures) in
    let none = none_place (sym c.first_outside-2.ensures ∙ c.in_err-place.was) in
    let is = height_outside c.args.kn.now c.args.km c.args.kg refl past refl in
    c.from_residual.ensures ∙ sym (place_none (omega (arith, is, none)))

pub returns : goal.returns
returns c =
    let past = none_place (sym c.in_default.ensures) in
    let at = some_place (sym c.first_outside-2.ensures ∙ c.in_ok-place.was) in
    let is = height_outside c.args.kn.now c.args.km c.args.kg refl past at.0 in
    place_told _ _ _ (omega (arith, is)) (omega (arith, at.0, at.1))
