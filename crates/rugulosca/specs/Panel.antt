-- How a tally crosses to another language: the numbers that its owner keeps.
use Rattle.std.specs.Prelude.{ℕ, not, List, [], ◌∷◌, eqb, ℤ, pos, nat_abs, get_or}
use Rattle.loading.specs.declared.Totals.{Totals}
use Rattle.report.specs.Lines.{mark}
use Rattle.tally.specs.declared.Item.{Item}
use Rattle.tally.specs.declared.Place.{Place}
use Rattle.tally.specs.declared.Slot.{Slot}
use Rattle.tally.specs.declared.Tally.{Tally}

-- five numbers a slot; the three totals without a sign; the transverse moment
pub record Kept : Type 0 where
  pub slots : List ℤ
  pub totals : List ℕ
  pub transverse : ℤ

abbrev pub keeping : List ℤ → List ℕ → ℤ → Kept
keeping slots totals transverse = record { slots = slots; totals = totals; transverse = transverse }

-- ---- the tally that they make: a slot is empty where its first number is 0; then kg, x, y and z
abbrev pub slot_from : ℤ → ℤ → ℤ → ℤ → ℤ → Slot
slot_from filled kg x y z = record { filled = not (eqb (nat_abs filled) 0); item = record { kg = kg; x = x; y = y; z = z } }

unfoldable pub slots_from : List ℤ → List Slot
slots_from (filled ∷ kg ∷ x ∷ y ∷ z ∷ rest) = slot_from filled kg x y z ∷ slots_from rest
slots_from (filled ∷ kg ∷ x ∷ y ∷ []) = []
slots_from (filled ∷ kg ∷ x ∷ []) = []
slots_from (filled ∷ kg ∷ []) = []
slots_from (filled ∷ []) = []
slots_from [] = []

abbrev pub totals_from : List ℕ → ℤ → Totals
totals_from totals transverse =
    record { weight = get_or totals 0 0; longitudinal = get_or totals 1 0; vertical = get_or totals 2 0; transverse = transverse }

abbrev pub tally_from : Kept → Tally
tally_from k = record { slots = slots_from k.slots; totals = totals_from k.totals k.transverse }

-- ---- and the numbers of a tally: 1 where a slot is filled
unfoldable pub numbers_of : List Slot → List ℤ
numbers_of [] = []
numbers_of (s ∷ rest) = pos (mark s.filled) ∷ s.item.kg ∷ s.item.x ∷ s.item.y ∷ s.item.z ∷ numbers_of rest

abbrev pub kept_of : Tally → Kept
kept_of t = record {
  slots = numbers_of t.slots;
  totals = t.totals.weight ∷ t.totals.longitudinal ∷ t.totals.vertical ∷ [];
  transverse = t.totals.transverse;
}

-- an item's four numbers, and a place's three
abbrev pub item_from : List ℤ → Item
item_from four = record { kg = get_or four 0 (pos 0); x = get_or four 1 (pos 0); y = get_or four 2 (pos 0); z = get_or four 3 (pos 0) }

abbrev pub place_from : List ℤ → Place
place_from three = record { x = get_or three 0 (pos 0); y = get_or three 1 (pos 0); z = get_or three 2 (pos 0) }
