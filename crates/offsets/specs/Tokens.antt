-- A text as the list of its tokens. Separators are the space (32), the line feed (10), the tab (9) and the carriage return (13), "in any
-- number, also first and last. A run of other bytes is one token and must be a number."
use Rattle.std.specs.Prelude.{ℕ, ◌+◌, ◌-◌, Bool, ◌||◌, List, [], ◌∷◌, ◌++◌, eqb, ℤ, length, Option, Some, None}
use Rattle.arithmetic.specs.Choice.{when◌then◌else◌}
use Rattle.numerals.specs.Number.{number_of}

abbrev pub space : ℕ
space = 32

abbrev pub line_feed : ℕ
line_feed = 10

abbrev pub tab : ℕ
tab = 9

abbrev pub carriage_return : ℕ
carriage_return = 13

unfoldable pub is_separator : ℕ → Bool
is_separator b = eqb b space || eqb b line_feed || eqb b tab || eqb b carriage_return

-- a token has the place of its first byte, and says a whole number or none
pub data Token : Type 0 where
  number : ℕ → ℤ → Token
  no_number : ℕ → Token

abbrev pub place_of : Token → ℕ
place_of (number place v) = place
place_of (no_number place) = place

unfoldable pub said : ℕ → Option ℤ → Token
said place (Some v) = number place v
said place None = no_number place

-- whichever bytes separate, and whatever a run of other bytes says
module _ (separates : ℕ → Bool) (says : List ℕ → Option ℤ) where
  -- a run of bytes that ends before place `end` is a token, unless it is empty
  unfoldable pub closed : ℕ → List ℕ → List Token → List Token
  closed end [] rest = rest
  closed end (b ∷ run) rest = said (end - length (b ∷ run)) (says (b ∷ run)) ∷ rest

  -- the tokens of a text that stands at a place, right after a run of bytes that are no separators
  unfoldable pub tokens_by : ℕ → List ℕ → List ℕ → List Token
  tokens_by place run [] = closed place run []
  tokens_by place run (b ∷ text) =
      when separates b then closed place run (tokens_by (place + 1) [] text)
      else tokens_by (place + 1) (run ++ b ∷ []) text

abbrev pub tokens_from : ℕ → List ℕ → List ℕ → List Token
tokens_from place run text = tokens_by is_separator number_of place run text

abbrev pub tokens : List ℕ → List Token
tokens text = tokens_from 0 [] text
