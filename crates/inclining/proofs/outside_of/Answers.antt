-- Each table is tried in its turn, and what stands before it on the sheet is counted. Assumes nothing.
use mathlib.Core.Path.{refl, sym}
use native.Mathlib.Omega.{arith}
use Rattle.ranges.proofs.Outside.{place_none, some_place, none_place}
use Rattle.inclining.proofs.Trying.{test_outside, shift_outside, off_outside, on_outside, place_told}
use Rattle.inclining.proofs.outside_of.Goals as goal

pub returns-in-Some : goal.returns-in-Some
returns-in-Some c =
    let at = some_place (sym c.in-Some.ensures) in
    place_told _ _ _ _ (test_outside _ _ _ _ at.0 (omega (arith, at.0, at.1))) (omega (arith, at.0, at.1))

pub overflow_add-result : goal.overflow_add-result
overflow_add-result c = let at = some_place (sym c.in-Some-shift_outside.ensures) in omega (arith, at.0, at.1)

pub returns-in-Some-shift_outside : goal.returns-in-Some-shift_outside
returns-in-Some-shift_outside c =
    let tested = none_place (sym c.in_default.ensures) in
    let at = some_place (sym c.in-Some-shift_outside.ensures) in
    place_told _ _ _ _ (shift_outside _ _ _ _ refl tested at.0 (omega (arith, at.0, at.1))) (omega (arith, at.0, at.1))

pub overflow_add-result-in-Some-first_outside-2 : goal.overflow_add-result-in-Some-first_outside-2
overflow_add-result-in-Some-first_outside-2 c = let at = some_place (sym c.in-Some-first_outside.ensures) in omega (arith, at.0, at.1)

pub returns-in-Some-first_outside : goal.returns-in-Some-first_outside
returns-in-Some-first_outside c =
    let tested = none_place (sym c.in_default.ensures) in
    let shifted = none_place (sym c.in_default-shift_outside.ensures) in
    let at = some_place (sym c.in-Some-first_outside.ensures) in
    place_told _ _ _ _ (off_outside _ _ _ _ refl tested refl shifted at.0 (omega (arith, at.0, at.1))) (omega (arith, at.0, at.1))

pub overflow_add-result-in-Some-first_outside-2-4 : goal.overflow_add-result-in-Some-first_outside-2-4
overflow_add-result-in-Some-first_outside-2-4 c = let at = some_place (sym c.in-Some-first_outside-2.ensures) in omega (arith, at.0, at.1)

pub returns-in-Some-first_outside-2 : goal.returns-in-Some-first_outside-2
returns-in-Some-first_outside-2 c =
    let tested = none_place (sym c.in_default.ensures) in
    let shifted = none_place (sym c.in_default-shift_outside.ensures) in
    let off_listed = none_place (sym c.in_default-first_outside.ensures) in
    let at = some_place (sym c.in-Some-first_outside-2.ensures) in
    place_told _ _ _ _ (on_outside _ _ _ _ refl tested refl shifted refl off_listed at.0) (omega (arith, at.0, at.1))

pub returns : goal.returns
returns c =
    let tested = none_place (sym c.in_default.ensures) in
    let shifted = none_place (sym c.in_default-shift_outside.ensures) in
    let off_listed = none_place (sym c.in_default-first_outside.ensures) in
    let on_listed = none_place (sym c.in_default-first_outside-2.ensures) in
    let s = c.args in
    let all = on_outside s.test s.shifts.now s.off.now s.on.now refl tested refl shifted refl off_listed refl in
    sym (place_none (omega (arith, all, on_listed)))
