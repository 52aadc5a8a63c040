-- The number at the front of a text, read with no knowledge of where its token ends: an optional minus and the digits after it,
-- ten at the most, since ten are too many already. Whoever reads it sees whether the token ends there.
use Rattle.std.specs.Prelude.{ℕ, zero, suc, ◌+◌, List, [], ◌∷◌, eqb, ℤ, length, drop, Option, Some, None}
use Rattle.arithmetic.specs.Choice.{when◌then◌else◌}
use Rattle.numerals.specs.Number.{minus, is_digit, most_digits, number_of}
use Rattle.numerals.specs.declared.reading.Numeral.{Numeral}

-- the digits that a text begins with, `most` at the most
unfoldable pub digits_of : ℕ → List ℕ → List ℕ
digits_of zero text = []
digits_of (suc most) [] = []
digits_of (suc most) (b ∷ rest) = when is_digit b then b ∷ digits_of most rest else []

-- so many are too many already
abbrev pub enough_digits : ℕ
enough_digits = most_digits + 1

unfoldable pub front : List ℕ → List ℕ
front [] = []
front (b ∷ rest) = when eqb b minus then b ∷ digits_of enough_digits rest else digits_of enough_digits (b ∷ rest)

-- the number that a front says, and the place after it where it starts at place `at`
unfoldable pub ends_at : ℕ → Option ℤ → Option Numeral
ends_at stop (Some v) = Some (record { value = v; stop = stop })
ends_at stop None = None

unfoldable pub numeral_at : List ℕ → ℕ → Option Numeral
numeral_at text at = ends_at (at + length (front (drop at text))) (number_of (front (drop at text)))
