-- Test after test. Assumes nothing.
use mathlib.Core.Path.{◌≡◌, sym, ◌∙◌}
use mathlib.Core.Bool.{true}
use native.Mathlib.Omega.{arith}
use Rattle.ranges.proofs.Outside.{some_place, none_place}
use Rattle.tally.specs.Private.Trying.{unsound, beyond, nowhere, none}
use Rattle.tally.specs.Tally.{sound}
use Rattle.tally.proofs.Tally.tried.Goals as goal
use Rattle.tally.proofs.Tally.tried.Goals.{Else-not-is_sound}

is_sound : (c : Else-not-is_sound) → sound c.args.self.now ≡ true
is_sound c = sym c.is_sound.ensures ∙ c.if-not-is_sound.false

pub returns-then-not-is_sound : goal.returns-then-not-is_sound
returns-then-not-is_sound c = rw c.at.ensures (unsound (sym c.is_sound.ensures ∙ c.if-not-is_sound.true))

pub returns-in-Some : goal.returns-in-Some
returns-in-Some c =
    let at = some_place (sym c.in-Some.ensures) in
    rw c.at-in-Some.ensures (beyond (is_sound (goal.at.returns-in-Some c).Else-not-is_sound) at.0 (omega (arith, at.0, at.1)))

pub returns-then-slot-ge-SLOTS : goal.returns-then-slot-ge-SLOTS
returns-then-slot-ge-SLOTS c =
    rw c.at-then-slot-ge-SLOTS.ensures
    (nowhere (is_sound (goal.at.returns-then-slot-ge-SLOTS c).Else-not-is_sound) (none_place (sym c.in_default.ensures)) (omega arith))

pub returns : goal.returns
returns c = none (is_sound (goal.at.returns c).Else-not-is_sound) (none_place (sym c.in_default.ensures)) (omega arith)
