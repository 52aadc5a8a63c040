-- A number by its sign and its size: what the functions below the public ones promise.
use Rattle.std.specs.Prelude.{ℕ, ◌+◌, ◌≤◌, Bool, true, false, ◌≡◌, List, ℤ, pos, neg_ℤ, length, drop}
use Rattle.numerals.specs.Number.{value}
use Rattle.numerals.specs.Front.{digits_of, enough_digits}
use Rattle.numerals.specs.declared.reading.Digits.{Digits}

-- the number of size n, below 0 after a minus
abbrev pub with_sign : Bool → ℕ → ℤ
with_sign true n = neg_ℤ (pos n)
with_sign false n = pos n

-- the digits of a text from a place on, ten at the most
abbrev pub digits_from : List ℕ → ℕ → List ℕ
digits_from text from = digits_of enough_digits (drop from text)

-- the digits of the largest number that 64 bits hold
abbrev pub most_printed_digits : ℕ
most_printed_digits = 20

-- the value of the digits from a place on, and the place after them
pub record DigitsFrom (text : List ℕ) (from : ℕ) (r : Digits) : Type 0 where
  pub value_is : r.value ≡ value (digits_from text from)
  pub stop_is : r.stop ≡ from + length (digits_from text from)
  pub within : r.stop ≤ length text
