-- A minus is passed over, and the number is what the digits from there on say: none where they are too few or too many, or a minus
-- zero; else their value, with its sign. Assumes nothing.
use Rattle.std.proofs.Common.{rules}
use Prim.Native.Nat.{◌+◌, ◌<◌}
use mathlib.Core.Bool.{true, false, false≢true}
use mathlib.Core.Path.{◌≡◌, sym, ◌∙◌}
use native.Mathlib.Omega.{arith}
use borrow.Author.Tests.{ltb-true, ltb-false}
use lib.Dec.{eqb}
use lib.ListN.{length, get_or}
use Rattle.numerals.specs.Number.{minus}
use Rattle.numerals.specs.Front.{numeral_at}
use Rattle.numerals.proofs.Said.{said_from, numeral_past, numeral_within, said_from_is, said_from_not, said_from_zero}
use Rattle.numerals.proofs.reading.numeral_at.Goals as goal
use Rattle.numerals.proofs.reading.numeral_at.Goals.{After-from}

-- the number is what the digits after a minus say, or those from the place itself on
said : (c : After-from) → said_from c.args.text.now (c.args.at + c.from.result) (eqb c.in_ok-minus.field-0.now minus) ≡ numeral_at c.args.text.now c.args.at
said c =
    let text = c.args.text.now in
    let at = c.args.at in
    let first : c.in_ok-minus.field-0.now ≡ get_or text at 0 = search rules in
    let within : at < length text = ltb-true _ _ (sym c.in_ok-minus.ensures.lookup.0) in
    rw (c.from.ensures, first) (sym (numeral_within text at within))

pub returns-in_err-minus : goal.returns-in_err-minus
returns-in_err-minus c = c.from_residual.ensures ∙ sym (numeral_past _ _ (ltb-false _ _ (sym c.in_err-minus.ensures.lookup.0)))

pub returns-then-not-is_digit_count : goal.returns-then-not-is_digit_count
returns-then-not-is_digit_count c =
    let at = goal.at.returns-then-not-is_digit_count c in
    said_from_not c.digits_from-value.ensures _ (sym c.is_digit_count.ensures ∙ c.if-not-is_digit_count.true) ∙ said at.After-from

pub returns-in-true-eq0 : goal.returns-in-true-eq0
returns-in-true-eq0 c =
    let at = goal.at.returns-in-true-eq0 c in
    said_from_zero c.digits_from-value.ensures (omega arith) ∙ rw c.in-true-eq0.is-0 at (said at.After-from)

pub returns-in-true-default : goal.returns-in-true-default
returns-in-true-default c =
    let at = goal.at.returns-in-true-default c in
    let whole = sym c.is_digit_count.ensures ∙ c.if-not-is_digit_count.false in
    said_from_is c.digits_from-value.ensures true whole (λ t e. omega arith) c.negated-value.ensures
    ∙ rw c.in-true-default.is-0 at (said at.After-from)

pub returns-in-false-default : goal.returns-in-false-default
returns-in-false-default c =
    let at = goal.at.returns-in-false-default c in
    let whole = sym c.is_digit_count.ensures ∙ c.if-not-is_digit_count.false in
    said_from_is c.digits_from-value.ensures false whole (λ t e. false≢true t) c.signed-value.ensures
    ∙ rw c.in-false-default.is-0 at (said at.After-from)
