-- The proof of the cycle of calls {curve_sum}: two intervals off the front are the first rule's, and the rest are fewer by two. Assumes nothing.
use Prim.Native.Nat.{ℕ, ◌+◌, ◌-◌, ◌≤◌}
use mathlib.Core.Path.{◌≡◌, sym, ap, ap₂, subst, ◌∙◌}
use mathlib.Core.List.{List}
use native.Mathlib.Omega.{arith}
use lib.ListN.{length, take, drop, length-drop}
use Rattle.arithmetic.proofs.Parts.{part_end}
use Rattle.hydrostatics.specs.Private.Sections.{curve_from, curve_of, Summable}
use Rattle.hydrostatics.proofs.Plain.{front_off, front_covered, rest_summable}
use Rattle.hydrostatics.proofs.sections.+curve_sum.Goals as goal

pub first_rule-front-requires : goal.first_rule-front-requires
first_rule-front-requires t c = front_covered c.requires c.if-intervals-eq-SECOND_INTERVALS.false

-- neither two intervals nor three
more : (o : List ℕ) → Summable o → (length o - 1 ≡ 2 → ⊥) → (length o - 1 ≡ 3 → ⊥) → 5 ≤ length o
more o can not_two not_three = omega (arith, can.enough, not_two, not_three)

pub curve_sum-requires : goal.curve_sum-requires
curve_sum-requires t c =
    let o = c.args.ordinates.now in
    let five = more o c.requires c.if-intervals-eq-FIRST_INTERVALS.false c.if-intervals-eq-SECOND_INTERVALS.false in
    let rest = part_end 2 o in
    (omega (arith, ap length rest, length-drop 2 o, five, c.decreases), subst Summable (sym rest) (rest_summable c.requires five))

added : (o : List ℕ) (front rest : ℕ) → 5 ≤ length o → front ≡ curve_from 2 o → rest ≡ curve_of (take (length o - 2) (drop 2 o)) → front + rest ≡ curve_of o
added o front rest five e f = ap₂ ◌+◌ e (f ∙ ap (λ l. curve_of l) (part_end 2 o)) ∙ sym (front_off o five)

pub returns : goal.returns
returns t c =
    added c.args.ordinates.now _ _ (more c.args.ordinates.now c.requires c.if-intervals-eq-FIRST_INTERVALS.false c.if-intervals-eq-SECOND_INTERVALS.false) c.first_rule-front.ensures c.curve_sum.ensures

pub overflow_add-result : goal.overflow_add-result
overflow_add-result t c =
    let five = more c.args.ordinates.now c.requires c.if-intervals-eq-FIRST_INTERVALS.false c.if-intervals-eq-SECOND_INTERVALS.false in
    omega (arith, added c.args.ordinates.now _ _ five c.first_rule-front.ensures c.curve_sum.ensures, c.requires.fits)
