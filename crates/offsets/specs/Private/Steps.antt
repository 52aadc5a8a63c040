-- What the private functions of the reader find by place, told on the tokens. No promise needs these words: they tie the code to `Reading` and `File`.
use Rattle.std.specs.Prelude.{ℕ, zero, suc, ◌+◌, ◌*◌, ◌%◌, ◌≤◌, ◌<◌, ◌≡◌, Bool, true, false, List, [], ◌∷◌, ltb, ℤ, length, take, drop, get_or, Option, Some, None, Result, Ok, Err}
use Rattle.arithmetic.specs.Choice.{when◌then◌else◌}
use Rattle.ranges.specs.Fields.{Range, ◌to◌, most, range_of, half_breadth, item, tank}
use Rattle.ranges.specs.Limits.{limits}
use Rattle.ranges.specs.Outcome.{Outcome, answered, refused}
use Rattle.ranges.specs.Outside.{numbers_of}
use Rattle.ranges.specs.Reasons.{number_of}
use Rattle.ranges.specs.Sizes.{longest_file, room_for_half_breadths, room_for_items, room_for_tanks, most_items, most_tanks, points_of}
use Rattle.ranges.specs.declared.refusal.Refusal.{Refusal}
use Rattle.offsets.specs.File.{Contents, complete, file, hull_by, section}
use Rattle.offsets.specs.Reading.{Reading, one, numbers, count}
use Rattle.offsets.specs.Tokens.{Token, number, no_number, place_of, is_separator, tokens_from, tokens}
use Rattle.offsets.specs.declared.Summary.{Summary}
use Rattle.offsets.specs.declared.tokens.Found.{Found}
use Rattle.numerals.specs.declared.reading.Numeral.{Numeral}
use Rattle.offsets.specs.declared.reading.Cursor.{Cursor}

-- the tokens from a place on that stands in no token
unfoldable pub tokens_at : List ℕ → ℕ → List Token
tokens_at text place = tokens_from place [] (drop place text)

-- a token that ends before this place has no byte here
unfoldable pub ends_here : List ℕ → ℕ → Bool
ends_here text place = when ltb place (length text) then is_separator (get_or text place 0) else true

-- the first of some tokens
pub record Begins (first : Token) (tokens : List Token) : Type 0 where
  pub rest : List Token
  pub is : tokens ≡ first ∷ rest

-- what is found is the first of the tokens
abbrev pub FindsAt : List ℕ → List Token → ℕ → Option Numeral → Type 0
FindsAt text tokens at (Some n) = tokens ≡ number at n.value ∷ tokens_at text n.stop
FindsAt text tokens at None = Begins (no_number at) tokens

abbrev pub Finds : List ℕ → List Token → Option Found → Type 0
Finds text tokens None = tokens ≡ []
Finds text tokens (Some found) = FindsAt text tokens found.at found.number

-- a byte stands at a place that is no separator
pub record IsByte (text : List ℕ) (at : ℕ) : Type 0 where
  pub there : at < length text
  pub word : is_separator (get_or text at 0) ≡ false

-- the first such byte from a place on
pub record ByteAt (text : List ℕ) (from at : ℕ) : Type 0 where
  pub same : tokens_at text at ≡ tokens_at text from
  pub byte : IsByte text at

abbrev pub FirstByte : List ℕ → ℕ → Option ℕ → Type 0
FirstByte text from (Some at) = ByteAt text from at
FirstByte text from None = tokens_at text from ≡ []

-- the place of the token after k numbers, where there are so many
unfoldable pub place_after : ℕ → List Token → Option ℕ
place_after k [] = None
place_after zero (t ∷ ts) = Some (place_of t)
place_after (suc k) (number place v ∷ ts) = place_after k ts
place_after (suc k) (no_number place ∷ ts) = None

-- what a call answered, told as a reading: a value of its answer, and the tokens from the place reached on
abbrev pub reached : {A B : Type 0} → List ℕ → ℕ → (A → B) → Result A Refusal → Outcome (B × List Token)
reached text next value (Ok a) = answered (value a, tokens_at text next)
reached text next value (Err r) = refused (number_of r.reason) r.place

-- a step of a cursor reads so much of its text, whose length the reading is given
pub record Step {A B : Type 0} (reading : ℕ → Reading B) (value : A → B) (was after : Cursor) (r : Result A Refusal) : Type 0 where
  pub same_text : after.text.now ≡ was.text.now
  pub read : reading (length was.text.now) (tokens_at was.text.now was.next) ≡ reached was.text.now after.next value r

abbrev pub one_by : ℕ → Range → ℕ → Reading ℤ
one_by why range len = one len why range

abbrev pub count_by : ℕ → ℕ → ℕ → Reading ℕ
count_by least most len = count len least most

-- the ranges of n numbers of a table of records, from number i of it on
unfoldable pub ranges_from : List Range → ℕ → ℕ → List Range
ranges_from fields zero i = []
ranges_from fields (suc n) i = get_or fields (i % length fields) (1 to 0) ∷ ranges_from fields n (i + 1)

abbrev pub numbers_by : List Range → ℕ → ℕ → Reading (List ℤ)
numbers_by fields n len = numbers len (ranges_from fields n 0)

abbrev pub section_by : ℕ → ℕ → List Range → ℕ → Reading (List ℤ)
section_by least most fields len = section len least most fields

abbrev pub particulars_by : ℕ → Reading (List ℤ)
particulars_by len = hull_by len limits

-- the numbers of k records in front of a table
abbrev pub front : List Range → List ℤ → ℕ → List ℤ
front fields table k = take (length fields * k) table

-- contents that were read before a call, where it answered
abbrev pub ended : {A : Type 0} → Contents → Result A Refusal → Outcome Contents
ended c (Ok a) = answered c
ended c (Err r) = refused (number_of r.reason) r.place

-- nothing follows where a cursor stands, whatever was read before
abbrev pub Finishes : {A : Type 0} → Cursor → Result A Refusal → Type 0
Finishes at r = (c : Contents) → complete (length at.text.now) c (tokens_at at.text.now at.next) ≡ ended c r

-- a whole file was read into the fronts of three tables
abbrev pub on_parsed : List ℤ → List ℤ → List ℤ → Result Summary Refusal → Outcome Contents
on_parsed half_breadths items tanks (Ok s) = answered (record {
  hull = numbers_of s.particulars;
  half_breadths = front half_breadth half_breadths (points_of s.particulars.n s.particulars.m);
  items = front item items s.items;
  tanks = front tank tanks s.tanks;
})
on_parsed half_breadths items tanks (Err r) = refused (number_of r.reason) r.place

-- and fits them
abbrev pub Fits : Result Summary Refusal → Type 0
Fits (Ok s) = (s.particulars.n ≤ most (range_of 0)) × (s.particulars.m ≤ most (range_of 1)) × (s.items ≤ most_items) × (s.tanks ≤ most_tanks)
Fits (Err r) = Unit

pub record Parses (text : List ℕ) (half_breadths items tanks : List ℤ) (r : Result Summary Refusal) : Type 0 where
  pub read : file (length text) (tokens text) ≡ on_parsed half_breadths items tanks r
  pub fits : Fits r

-- room for what a file can hold
pub record Rooms (half_breadths items tanks : List ℤ) : Type 0 where
  pub half_breadth_room : room_for_half_breadths ≤ length half_breadths
  pub item_room : room_for_items ≤ length items
  pub tank_room : room_for_tanks ≤ length tanks

-- neither refusal 7 nor 1
pub record Sized (text half_breadths : List ℕ) (items tanks : List ℤ) : Type 0 where
  pub text_length : length text ≤ longest_file
  pub half_breadth_room : room_for_half_breadths ≤ length half_breadths
  pub item_room : room_for_items ≤ length items
  pub tank_room : room_for_tanks ≤ length tanks
