-- To read is to take tokens from the front and leave the others, or to refuse. "Left to right; one token is tried for 2, 3, 4."
use Rattle.std.specs.Prelude.{ℕ, List, [], ◌∷◌, ℤ, nat_abs}
use Rattle.arithmetic.specs.Choice.{when◌then◌else◌}
use Rattle.ranges.specs.Fields.{Range, ◌to◌, within}
use Rattle.ranges.specs.Outcome.{Outcome, answered, refused, and_then}
use Rattle.ranges.specs.Refusals.{not_anumber, count_not_allowed, out_of_range, ends_too_early}
use Rattle.offsets.specs.Tokens.{Token, number, no_number}

infixl 20 ◌>>=◌
abbrev pub Reading : Type 0 → Type 0
Reading A = List Token → Outcome (A × List Token)

-- one reading after another
abbrev pub ◌>>=◌ : {A B : Type 0} → Reading A → (A → List Token → Outcome B) → List Token → Outcome B
◌>>=◌ first next ts = and_then (first ts) (λ read. next read.0 read.1)

abbrev pub return : {A : Type 0} → A → Reading A
return a ts = answered (a, ts)

-- the text's length is the place of "file ends too early"
module _ (textLength : ℕ) where
  -- a number in a range; what a number out of it is refused with is for the reader to say
  unfoldable pub one : ℕ → Range → Reading ℤ
  one why range [] = refused ends_too_early textLength
  one why range (no_number place ∷ rest) = refused not_anumber place
  one why range (number place v ∷ rest) = when within range v then answered (v, rest) else refused why place

  -- a count, of those allowed
  unfoldable pub count : ℕ → ℕ → Reading ℕ
  count least most = do
    k ← one count_not_allowed (least to most)
    return (nat_abs k)

  -- numbers in their ranges
  unfoldable pub numbers : List Range → Reading (List ℤ)
  numbers [] = return []
  numbers (range ∷ ranges) = do
    v ← one out_of_range range
    vs ← numbers ranges
    return (v ∷ vs)
