-- What it is to read back what was written: "What the writer writes, the reader reads back as the same numbers."
use Rattle.std.specs.Prelude.{ℕ, ◌/◌, ◌≤◌, ◌≡◌, List, ◌++◌, ℤ, length, drop, Result, Ok}
use Rattle.ranges.specs.Sizes.{item_width, tank_width, room_for_half_breadths, room_for_items, room_for_tanks}
use Rattle.ranges.specs.declared.Particulars.{Particulars}
use Rattle.ranges.specs.declared.refusal.Refusal.{Refusal}
use Rattle.offsets.specs.declared.Summary.{Summary}

-- tables that the reader can fill from any file
pub record RoomForAnyFile (h : List ℕ) (i t : List ℤ) : Type 0 where
  pub half_breadth_room : room_for_half_breadths ≤ length h
  pub item_room : room_for_items ≤ length i
  pub tank_room : room_for_tanks ≤ length t

-- what the reader answers of particulars and tables that were written
abbrev pub summary_with : Particulars → List ℤ → List ℤ → Summary
summary_with p items tanks = record { particulars = p; items = length items / item_width; tanks = length tanks / tank_width }

-- A reader answered this summary, and left the tables h, i and t at the fronts of those it was lent, h₀, i₀ and t₀.
pub record ReadBack (summary : Summary) (h : List ℕ) (i t : List ℤ) (h₀ h' : List ℕ) (i₀ i' t₀ t' : List ℤ) (answer : Result Summary Refusal) : Type 0 where
  pub answer_is : answer ≡ Ok summary
  pub half_breadths_are : h' ≡ h ++ drop (length h) h₀
  pub items_are : i' ≡ i ++ drop (length i) i₀
  pub tanks_are : t' ≡ t ++ drop (length t) t₀
