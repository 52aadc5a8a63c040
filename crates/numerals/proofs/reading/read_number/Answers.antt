-- A token is a number where one is found at its start that ends where it does. Assumes nothing.
use mathlib.Core.Path.{sym, ◌∙◌}
use mathlib.Core.List.{[], append-nil}
use native.Mathlib.Omega.{arith}
use borrow.Author.Tests.{eqb-true, eqb-false}
use Rattle.numerals.proofs.Fronts.{ended, not_of_none, token_says}
use Rattle.numerals.proofs.reading.read_number.Goals as goal

pub returns-in_err-value : goal.returns-in_err-value
returns-in_err-value c =
    let found = sym c.numeral_at.ensures ∙ c.in_err-value.was in
    c.from_residual.ensures ∙ sym (not_of_none _ 0 _ [] (sym (append-nil _)) ended found)

pub returns : goal.returns
returns c =
    let found = sym c.numeral_at.ensures ∙ c.in_ok-value.was in
    c.then_some.ensures ∙ token_says c.args.token.now found _ (λ e. omega (arith, eqb-true)) (λ e same. omega (arith, eqb-false))
