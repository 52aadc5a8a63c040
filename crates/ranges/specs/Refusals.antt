-- "Refusals by number", by name.
use Rattle.std.specs.Prelude.{ℕ, Bool, ◌||◌, eqb}

-- file over 32,768 bytes
abbrev pub file_too_long : ℕ
file_too_long = 1

-- token is no number
abbrev pub not_anumber : ℕ
not_anumber = 2

-- count not allowed
abbrev pub count_not_allowed : ℕ
count_not_allowed = 3

-- number out of range
abbrev pub out_of_range : ℕ
out_of_range = 4

-- file ends too early
abbrev pub ends_too_early : ℕ
ends_too_early = 5

-- token after the last section, number or not
abbrev pub token_after_end : ℕ
token_after_end = 6

-- lent table of the wrong size
abbrev pub wrong_size : ℕ
wrong_size = 7

-- a row's displacement is 0, or not above the row before
abbrev pub displacement_not_rising : ℕ
displacement_not_rising = 8

-- KM above 100,000
abbrev pub metacentre_too_high : ℕ
metacentre_too_high = 9

-- row table not usable
abbrev pub rows_not_usable : ℕ
rows_not_usable = 10

-- W below the first row
abbrev pub too_light : ℕ
too_light = 11

-- W above the last row
abbrev pub too_heavy : ℕ
too_heavy = 12

-- contents above capacity
abbrev pub contents_above_capacity : ℕ
contents_above_capacity = 13

-- output room shorter than the text
abbrev pub room_too_short : ℕ
room_too_short = 14

-- slot number above 31
abbrev pub no_such_slot : ℕ
no_such_slot = 15

-- slot taken
abbrev pub slot_taken : ℕ
slot_taken = 16

-- slot empty
abbrev pub slot_empty : ℕ
slot_empty = 17

-- light weight 0 or less
abbrev pub no_light_weight : ℕ
no_light_weight = 20

-- the light ship's moment is negative
abbrev pub light_moment_negative : ℕ
light_moment_negative = 21

-- a tally handed in with a filled slot out of range or totals not its items'
abbrev pub tally_unsound : ℕ
tally_unsound = 22

-- the first and the last of them
abbrev pub first_refusal : ℕ
first_refusal = file_too_long

abbrev pub last_refusal : ℕ
last_refusal = tally_unsound

-- the numbers that calls refuse with: 18 and 19 belong to requests to come
abbrev pub is_given : ℕ → Bool
is_given number =
    eqb number file_too_long
    || eqb number not_anumber
    || eqb number count_not_allowed
    || eqb number out_of_range
    || eqb number ends_too_early
    || eqb number token_after_end
    || eqb number wrong_size
    || eqb number displacement_not_rising
    || eqb number metacentre_too_high
    || eqb number rows_not_usable
    || eqb number too_light
    || eqb number too_heavy
    || eqb number contents_above_capacity
    || eqb number room_too_short
    || eqb number no_such_slot
    || eqb number slot_taken
    || eqb number slot_empty
    || eqb number no_light_weight
    || eqb number light_moment_negative
    || eqb number tally_unsound

-- "Place of 4: .. 0..4 particulars, 5+i half-breadths", "3,000+i" items, "4,000+i" tanks: where the places of each table begin
abbrev pub place_of_half_breadths : ℕ
place_of_half_breadths = 5

abbrev pub place_of_items : ℕ
place_of_items = 3_000

abbrev pub place_of_tanks : ℕ
place_of_tanks = 4_000

-- "7: 0 half-breadths, 1 items, 2 tanks, 3 rows"
abbrev pub half_breadth_table : ℕ
half_breadth_table = 0

abbrev pub item_table : ℕ
item_table = 1

abbrev pub tank_table : ℕ
tank_table = 2

abbrev pub row_table : ℕ
row_table = 3
