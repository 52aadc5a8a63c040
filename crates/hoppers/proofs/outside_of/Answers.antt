-- Each number is tried in its turn, and its position is what stands before it. Assumes nothing.
use mathlib.Core.Path.{refl, sym, ◌∙◌}
use native.Mathlib.Omega.{arith}
use Rattle.ranges.proofs.Outside.{place_none, some_place, none_place}
use Rattle.hoppers.proofs.Trying.{port_outside, starboard_outside, interval_outside, density_outside, none_outside, place_told}
use Rattle.hoppers.proofs.outside_of.Goals as goal

pub returns-in-Some : goal.returns-in-Some
returns-in-Some c =
    let at = some_place (sym c.in-Some.ensures) in
    place_told _ _ _ _ (port_outside _ _ _ _ at.0 (omega (arith, at.0, at.1))) (omega (arith, at.0, at.1))

pub overflow_add-result : goal.overflow_add-result
overflow_add-result c = let at = some_place (sym c.in-Some-first_outside.ensures) in omega (arith, at.0, at.1)

pub returns-in-Some-first_outside : goal.returns-in-Some-first_outside
returns-in-Some-first_outside c =
    let past = none_place (sym c.in_default.ensures) in
    let at = some_place (sym c.in-Some-first_outside.ensures) in
    place_told _ _ _ _ (starboard_outside _ _ _ _ refl past at.0 (omega (arith, at.0, at.1))) (omega (arith, at.0, at.1))

pub returns-then-not-is_within : goal.returns-then-not-is_within
returns-then-not-is_within c =
    let past = none_place (sym c.in_default.ensures) in
    let past_both = none_place (sym c.in_default-first_outside.ensures) in
    place_told _ _ _ _ (interval_outside _ _ _ _ refl past refl past_both (sym c.is_within.ensures ∙ c.if-not-is_within.true)) (omega arith)

pub returns-then-not-is_within-2 : goal.returns-then-not-is_within-2
returns-then-not-is_within-2 c =
    let past = none_place (sym c.in_default.ensures) in
    let past_both = none_place (sym c.in_default-first_outside.ensures) in
    place_told _ _ _ _ (density_outside _ _ _ _ refl past refl past_both (sym c.is_within.ensures ∙ c.if-not-is_within.false) (sym c.is_within-2.ensures ∙ c.if-not-is_within-2.true)) (omega arith)

pub returns : goal.returns
returns c =
    let past = none_place (sym c.in_default.ensures) in
    let past_both = none_place (sym c.in_default-first_outside.ensures) in
    let all = none_outside _ _ _ _ refl past refl past_both (sym c.is_within.ensures ∙ c.if-not-is_within.false) (sym c.is_within-2.ensures ∙ c.if-not-is_within-2.false) in
    sym (place_none (omega (arith, all)))
