-- What demand 1 asks of one call at one input.
use Rattle.std.specs.Prelude.{◌≡◌, ℕ, Result}
use Rattle.ranges.specs.Outcome.{Outcome, refused, Numbered}
use Rattle.ranges.specs.Reasons.{paper}
use Rattle.ranges.specs.declared.refusal.Refusal.{Refusal}

-- what a call answers: values, or a refusal
abbrev pub Answer : Type 0 → Type 0
Answer Values = Result Values Refusal

-- an answer that is the refusal of a number at a place
abbrev pub RefusedWith : {Values : Type 0} → ℕ → ℕ → Answer Values → Type 0
RefusedWith number place answer = paper answer ≡ refused number place

-- `Keeps`: the promise, of what a call hands back: its answer, and the tables that were lent to it for writing as it leaves them.
-- `outcome`: the answer's values, or the number and place of its refusal. `Untouched`: these tables hold what they held before.
pub record AnswersOrRefuses {Back Values : Type 0} (Keeps : Back → Type 0) (outcome : Back → Outcome Values) (Untouched : Back → Type 0) : Type 0 where
  -- one thing keeps the promise, and no other
  pub back : Back
  pub kept : Keeps back
  pub only : (other : Back) → Keeps other → other ≡ back
  -- a refusal has one of the paper's numbers, and leaves all as it was
  pub numbered : Numbered (outcome back)
  pub untouched : {number place : ℕ} → outcome back ≡ refused number place → Untouched back
