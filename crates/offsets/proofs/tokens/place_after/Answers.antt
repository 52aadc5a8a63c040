-- Each number passed leaves one fewer to pass. Assumes nothing.
use mathlib.Core.Path.{◌≡◌, sym, ◌∙◌}
use mathlib.Core.List.{List, []}
use Prim.Native.Nat.{ℕ, suc, ◌+◌, ◌-◌, ◌<◌}
use native.Mathlib.Omega.{arith}
use Rattle.std.specs.Prelude.{Option, Some, None}
use Rattle.offsets.specs.Private.Steps.{tokens_at, Finds, FindsAt, place_after}
use Rattle.offsets.specs.Tokens.{Token}
use Rattle.offsets.specs.declared.tokens.Found.{Found}
use Rattle.numerals.specs.declared.reading.Numeral.{Numeral}
use Rattle.offsets.proofs.tokens.place_after.Goals as goal

-- one number more is passed
on : (text : List ℕ) (ts : List Token) (count i at : ℕ) (n : Numeral) → i < count → FindsAt text ts at (Some n) → place_after (count - i) ts ≡ place_after (count - (i + 1)) (tokens_at text n.stop)
unfolding place_after
on text ts count i at n l e = let more : count - i ≡ suc (count - (i + 1)) = omega arith in rw (more, e)

-- no token is left
ended : (k : ℕ) {ts : List Token} → ts ≡ [] → place_after k ts ≡ None
unfolding place_after
ended k e = rw e

-- no number
stopped : (text : List ℕ) (ts : List Token) (count i at : ℕ) → i < count → FindsAt text ts at None → place_after (count - i) ts ≡ None
unfolding place_after
stopped text ts count i at l b = let more : count - i ≡ suc (count - (i + 1)) = omega arith in rw (more, b.is)

here : (text : List ℕ) (ts : List Token) (found : Found) → Finds text ts (Some found) → place_after 0 ts ≡ Some found.at
unfolding place_after
here text ts found h = by_kind found.at found.number h
  where
    by_kind : (at : ℕ) (number : Option Numeral) → FindsAt text ts at number → place_after 0 ts ≡ Some at
    by_kind at (Some n) e = rw e
    by_kind at None b = rw b.is

pub returns-in_err-next_token : goal.returns-in_err-next_token
returns-in_err-next_token c = c.from_residual.ensures ∙ sym (ended _ c.in_err-next_token.ensures) ∙ c.loop-passed.invariant

pub returns-in_err-next : goal.returns-in_err-next
returns-in_err-next c =
    c.from_residual-in_err-next.ensures ∙ sym (stopped c.args.text.now _ _ _ _ c.loop-passed-test.true (rw c.in_err-next.was at c.in_ok-next_token.ensures)) ∙ c.loop-passed.invariant

pub loop-passed-preserved : goal.loop-passed-preserved
loop-passed-preserved c = sym (on c.args.text.now _ _ _ _ _ c.loop-passed-test.true (rw c.in_ok-next.was at c.in_ok-next_token.ensures)) ∙ c.loop-passed.invariant

pub returns-in_err-next_token-2 : goal.returns-in_err-next_token-2
returns-in_err-next_token-2 c = c.from_residual-in_err-next_token-2.ensures ∙ sym (ended _ c.in_err-next_token-2.ensures) ∙ c.loop-passed.invariant

pub returns : goal.returns
returns c =
    let none : c.args.count - c.loop-passed._passed ≡ 0 = omega arith in
    sym (here c.args.text.now _ _ c.in_ok-next_token-2.ensures) ∙ rw none at c.loop-passed.invariant
