-- What was taken, with the digits still to come, is the whole; a digit more fits, since there are ten at the most. Assumes nothing.
use mathlib.Core.Path.{◌≡◌, subst}
use native.Mathlib.Omega.{arith}
use Rattle.numerals.specs.Private.Sign.{DigitsFrom}
use Rattle.numerals.proofs.Taken.{taken_more, taken_all, other_to_come, past_end}
use Rattle.numerals.proofs.reading.digits_from.Goals as goal

pub returns-then-not-is_ascii_digit : goal.returns-then-not-is_ascii_digit
returns-then-not-is_ascii_digit c =
    let no_digit = c.if-not-is_ascii_digit.ensures.cases in
    taken_all _ _ (omega arith) c.loop-stop.invariant (other_to_come _ _ _ (omega arith) (λ low high. omega (arith, no_digit)))

pub loop-stop-preserved : goal.loop-stop-preserved
loop-stop-preserved c =
    let digit = c.if-not-is_ascii_digit.ensures.cases in
    rw c.from.ensures
    (taken_more _ _ (omega arith) (omega arith) (omega (arith, digit)) (omega (arith, digit)) c.loop-stop.invariant)

pub returns : goal.returns
returns c =
    let text = c.args.text.now in
    let from = c.args.from in
    let at_end : c.loop-stop.stop ≡ c.min-end.result = omega arith in
    subst (λ stop. DigitsFrom text from (record { value = c.loop-stop.value; stop = stop })) at_end
    (taken_all text from (omega arith) c.loop-stop.invariant (past_end text from _ (omega arith)))
