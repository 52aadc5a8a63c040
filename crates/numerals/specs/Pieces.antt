-- A text put piece by piece into lent room: what is put so far, and the room that is left for more.
use Rattle.std.specs.Prelude.{ℕ, ◌≤◌, ◌<◌, ◌≡◌, Bool, true, false, List, ◌++◌, length, take, drop}
use Rattle.numerals.specs.declared.lines.Lines.{Lines}

-- what is put so far
abbrev pub said_in : Lines → List ℕ
said_in l = take l.at l.text.now

-- the room that is left, with the bytes that stand in it
abbrev pub room_of : Lines → List ℕ
room_of l = drop l.at l.text.now

-- bytes are put after those that stood, into the same room
pub record Puts (bytes : List ℕ) (was is : Lines) : Type 0 where
  pub same_text : is.text.ghost_name ≡ was.text.ghost_name
  pub said_is : said_in is ≡ said_in was ++ bytes
  pub room_is : room_of is ≡ drop (length bytes) (room_of was)

-- there is room for so many bytes more
pub record HasRoom (count : ℕ) (l : Lines) : Type 0 where
  pub enough : count ≤ length (room_of l)

-- bytes are put where there is room for them, and else all stays as it was; the answer says which
pub record PutsWhereRoom (bytes : List ℕ) (was is : Lines) (put : Bool) : Type 0 where
  pub put_if : HasRoom (length bytes) was → Puts bytes was is × (put ≡ true)
  pub else_same : length (room_of was) < length bytes → (is ≡ was) × (put ≡ false)

-- bytes are put in front of lent room, and what stood behind them stays; their count is answered
pub record InFront (bytes room room_left : List ℕ) (count : ℕ) : Type 0 where
  pub count_is : count ≡ length bytes
  pub left : room_left ≡ bytes ++ drop (length bytes) room
