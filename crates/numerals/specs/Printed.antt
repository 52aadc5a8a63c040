-- A number as it is printed: a minus where it is below 0, and its decimal digits without leading zeros.
use Rattle.std.specs.Prelude.{ℕ, zero, suc, ◌+◌, ◌/◌, ◌%◌, ◌≡◌, List, [], ◌∷◌, ◌++◌, ltb, ℤ, pos, negsuc, length}
use Rattle.arithmetic.specs.Choice.{when◌then◌else◌}
use Rattle.arithmetic.specs.Room.{laid}
use Rattle.numerals.specs.Number.{minus, zero_digit}

-- A number below ten is one digit; any other is the digits of its tenth, and its last digit. `fuel` only bounds the recursion: n itself is always enough.
unfoldable pub decimal_in : ℕ → ℕ → List ℕ
decimal_in zero n = (zero_digit + n) ∷ []
decimal_in (suc fuel) n =
    let more = decimal_in fuel (n / 10) ++ (zero_digit + n % 10) ∷ [] in
    when ltb n 10 then (zero_digit + n) ∷ [] else more

unfoldable pub decimal : ℕ → List ℕ
decimal n = decimal_in n n

unfoldable pub printed : ℤ → List ℕ
printed (pos n) = decimal n
printed (negsuc n) = minus ∷ decimal (suc n)

-- the most bytes that a number of 64 bits takes: a minus and twenty digits
abbrev pub most_printed : ℕ
most_printed = 21

-- What a call that prints v into lent room leaves and answers: the length of the text, and the text in the room where it fits.
pub record Prints (v : ℤ) (room room_after : List ℕ) (r : ℕ) : Type 0 where
  pub length_is : r ≡ length (printed v)
  pub left : room_after ≡ laid (printed v) room
