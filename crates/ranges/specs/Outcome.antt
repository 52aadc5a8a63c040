-- What a call comes to. Every promise of this project says `paper answer ≡ outcome_of inputs`, with an outcome on both sides.
use Rattle.std.specs.Prelude.{ℕ, true, ◌≤◌, ◌≡◌, List, ◌++◌, length, drop}
use Rattle.ranges.specs.Refusals.{first_refusal, last_refusal, is_given}

-- "Each returns number and place": the values of an answer, or a refusal's number and place.
pub data Outcome (A : Type 0) : Type 0 where
  answered : A → Outcome A
  refused : ℕ → ℕ → Outcome A

-- what is done with the values of an answer; a refusal is passed on
unfoldable pub and_then : {A B : Type 0} → Outcome A → (A → Outcome B) → Outcome B
and_then (answered a) next = next a
and_then (refused number place) next = refused number place

-- the answer with a part or a figure of its values in their place; a refusal is passed on
unfoldable pub answer_with : {A B : Type 0} → (A → B) → Outcome A → Outcome B
answer_with part (answered a) = answered (part a)
answer_with part (refused number place) = refused number place

-- A lent value afterwards: what an answer has for it; after a refusal what it was.
abbrev pub value_after : {A B : Type 0} → (A → B) → Outcome A → B → B
value_after value (answered a) was = value a
value_after value (refused number place) was = was

-- A lent table afterwards: the numbers that an answer has for it, and beyond them what it held before; after a refusal all that it held before.
unfoldable pub left_with : {A B : Type 0} → (A → List B) → Outcome A → List B → List B
left_with numbers (answered a) was = numbers a ++ drop (length (numbers a)) was
left_with numbers (refused number place) was = was

-- what is refused has a number from the paper's first to its last
pub record OfThePaper {A : Type 0} (outcome : Outcome A) : Type 0 where
  pub of_the_paper : {number place : ℕ} → outcome ≡ refused number place → (first_refusal ≤ number) × (number ≤ last_refusal)

-- "Refusals by number": what is refused has one of the paper's numbers
pub record Numbered {A : Type 0} (outcome : Outcome A) : Type 0 where
  pub of_the_paper : {number place : ℕ} → outcome ≡ refused number place → (first_refusal ≤ number) × (number ≤ last_refusal)
  pub by_a_call : {number place : ℕ} → outcome ≡ refused number place → is_given number ≡ true
