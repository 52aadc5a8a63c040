-- What lent room holds after a text was laid into it: the text and what stood beyond it, or, where the room is shorter than the text, what stood before.
use Rattle.std.specs.Prelude.{ℕ, List, ◌++◌, leb, length, drop}
use Rattle.arithmetic.specs.Choice.{when◌then◌else◌}

unfoldable pub laid : List ℕ → List ℕ → List ℕ
laid text room = when leb (length text) (length room) then text ++ drop (length text) room else room
