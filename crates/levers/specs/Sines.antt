-- "Sines in millionths", at "0 to 60 degrees by 5". Their rule: `SineRule`.
use Rattle.std.specs.Prelude.{ℕ, ◌*◌, ◌/◌, List, [], ◌∷◌, length, get_or}

abbrev pub sines : List ℕ
sines =
    0 ∷ 87_156 ∷ 173_648 ∷ 258_819 ∷ 342_020 ∷ 422_618 ∷ 500_000 ∷ 573_576 ∷ 642_788 ∷ 707_107 ∷ 766_044 ∷ 819_152 ∷ 866_025 ∷ []

abbrev pub million : ℕ
million = 1_000_000

-- how many angles there are
abbrev pub angle_count : ℕ
angle_count = length sines

-- degrees from one angle to the next; the degrees of an angle by its number, and back
abbrev pub step : ℕ
step = 5

abbrev pub degrees : ℕ → ℕ
degrees i = step * i

abbrev pub number_at : ℕ → ℕ
number_at angle = angle / step

-- the sine of an angle by its number
abbrev pub sine : ℕ → ℕ
sine i = get_or sines i 0
