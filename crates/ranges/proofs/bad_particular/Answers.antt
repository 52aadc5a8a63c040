-- The five ranges are tried first, and the length when all five are in. Assumes nothing.
use Prim.Native.Nat.{ℕ}
use mathlib.Core.List.{List, map}
use mathlib.Core.Path.{◌≡◌, sym, ap, ap₂, ◌∙◌}
use native.Mathlib.Omega.{arith}
use lib.IntN.{pos}
use lib.ListN.{length, length-map}
use Rattle.ranges.specs.Fields.{particulars}
use Rattle.ranges.specs.Limits.{limits}
use Rattle.ranges.specs.Outside.{first_outside, numbers_of}
use Rattle.ranges.specs.Bounds.{place_in}
use Rattle.ranges.specs.declared.Particulars.{Particulars}
use Rattle.ranges.proofs.Hulls.{bad_outside, bad_length, bad_none}
use Rattle.ranges.proofs.Outside.{place_some, place_none, some_place, none_place}
use Rattle.ranges.proofs.bad_particular.Goals as goal

-- the five numbers are the particulars'
told : (p : Particulars) (numbers : List ℕ) → map pos numbers ≡ numbers_of p
    → place_in (length numbers) (first_outside particulars (map pos numbers)) ≡ place_in (length particulars) (first_outside particulars (numbers_of p))
told p numbers e = ap₂ place_in (sym (length-map numbers pos) ∙ ap length e) (ap (first_outside particulars) e)

pub returns-in-Some : goal.returns-in-Some
returns-in-Some c =
    let at = some_place (sym (c.in-Some.ensures ∙ told c.args.p _ c.numbers-numbers.ensures)) in
    sym (rw (bad_outside limits c.args.p at.1, at.0) (place_some at.1))

pub returns-then-is_too_long : goal.returns-then-is_too_long
returns-then-is_too_long c =
    let none = none_place (sym (c.in_default.ensures ∙ told c.args.p _ c.numbers-numbers.ensures)) in
    sym (rw (bad_length limits c.args.p none (sym c.is_too_long.ensures ∙ c.if-is_too_long.true)) (place_some (omega arith)))

pub returns : goal.returns
returns c =
    let none = none_place (sym (c.in_default.ensures ∙ told c.args.p _ c.numbers-numbers.ensures)) in
    sym (rw (bad_none limits c.args.p none (sym c.is_too_long.ensures ∙ c.if-is_too_long.false)) (place_none (omega arith)))
