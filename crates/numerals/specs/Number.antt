-- What a token says. "A run of other bytes is one token and must be a number: an optional minus, then 1 to 9 digits"; leading zeros
-- are allowed within the nine, and "minus zero stays refused, as does minus with only zeros".
use Rattle.std.specs.Prelude.{ℕ, ◌+◌, ◌-◌, ◌*◌, Bool, true, not, ◌&&◌, List, [], ◌∷◌, leb, eqb, ℤ, pos, neg_ℤ, length, Option, Some, None}
use Rattle.arithmetic.specs.Choice.{when◌then◌else◌}

-- the bytes of the minus and of the digit 0; the other digits follow it
abbrev pub minus : ℕ
minus = 45

abbrev pub zero_digit : ℕ
zero_digit = 48

unfoldable pub is_digit : ℕ → Bool
is_digit b = leb zero_digit b && leb b (zero_digit + 9)

unfoldable pub all_digits : List ℕ → Bool
all_digits [] = true
all_digits (b ∷ rest) = is_digit b && all_digits rest

-- the number that digits make after those that made n
unfoldable pub value_from : ℕ → List ℕ → ℕ
value_from n [] = n
value_from n (b ∷ rest) = value_from (n * 10 + (b - zero_digit)) rest

abbrev pub value : List ℕ → ℕ
value digits = value_from 0 digits

-- "1 to 9 digits"
abbrev pub most_digits : ℕ
most_digits = 9

abbrev pub is_digit_count : ℕ → Bool
is_digit_count count = leb 1 count && leb count most_digits

unfoldable pub is_whole : List ℕ → Bool
is_whole digits = all_digits digits && is_digit_count (length digits)

-- "an optional minus", and no number 0 after it, however many zeros
unfoldable pub number_of : List ℕ → Option ℤ
number_of [] = None
number_of (b ∷ rest) =
    when eqb b minus
    then (when is_whole rest && not (eqb (value rest) 0) then Some (neg_ℤ (pos (value rest))) else None)
    else (when is_whole (b ∷ rest) then Some (pos (value (b ∷ rest))) else None)
