-- The items aboard as a table, slot by slot.
--     Held, held_told, back_item_same   an item read back from its bits
--     Listing                      the table filled up to a slot, and what is still to come
--     listing_start, listing_empty, listing_filled, listing_end      before the first slot, past one, and past the last
-- Assumes nothing.
use mathlib.Core.Path.{◌≡◌, refl, sym, ap, subst, ◌∙◌}
use mathlib.Core.Bool.{true, false}
use mathlib.Core.List.{List, [], ◌∷◌, ◌++◌, append_assoc, append-nil}
use Prim.Native.Nat.{ℕ, suc, ◌+◌, ◌*◌, ◌^◌, ◌≤◌, ◌<◌}
use native.Mathlib.Omega.{arith}
use lib.IntN.{ℤ}
use lib.ListN.{length, take, drop, get_or, set, drop_of_length-le}
use lib.Seq.{sets, length-sets}
use lib.Signed.{mag}
use mir.Syntax.{w64}
use mir.Val.{SFits}
use Rattle.arithmetic.proofs.Crossing.{back, back_is}
use Rattle.arithmetic.proofs.Choice.{chosen}
use Rattle.arithmetic.proofs.Parts.{drop_step, stored_front}
use Rattle.ranges.specs.Sizes.{item_width, room_for_items}
use Rattle.tally.specs.Tally.{slot_count, freed, aboard, table_of}
use Rattle.tally.specs.declared.Item.{Item}
use Rattle.tally.specs.declared.Slot.{Slot}

-- ---- an item of which each number is held by 64 bits, and read back from them
pub record Held (i : Item) : Type 0 where
  pub kg : SFits w64 i.kg
  pub x : SFits w64 i.x
  pub y : SFits w64 i.y
  pub z : SFits w64 i.z

-- by what is told of a struct's numbers, each beside what it is told with
pub held_told : (i : Item) {A B C D E : Type 0} → (A × (mag i.kg < 2 ^ 63)) × ((B × (mag i.x < 2 ^ 63)) × ((C × (mag i.y < 2 ^ 63)) × ((D × (mag i.z < 2 ^ 63)) × E))) → Held i
held_told i t = record { kg = record { sfits = t.0.1 }; x = record { sfits = t.1.0.1 }; y = record { sfits = t.1.1.0.1 }; z = record { sfits = t.1.1.1.0.1 } }

abbrev pub back_item : Item → Item
back_item i = record { kg = back i.kg; x = back i.x; y = back i.y; z = back i.z }

pub back_item_same : {i : Item} → Held i → back_item i ≡ i
back_item_same h = λ j. record { kg = back_is h.kg j; x = back_is h.x j; y = back_is h.y j; z = back_is h.z j }

-- ---- a table with an item's four numbers stored from a place on
abbrev four : Item → List ℤ
four i = i.kg ∷ i.x ∷ i.y ∷ i.z ∷ []

abbrev pub stored : List ℤ → ℕ → Item → List ℤ
stored numbers at i = set (set (set (set numbers at i.kg) (at + 1) i.x) (at + 2) i.y) (at + 3) i.z

stored_is : (numbers : List ℤ) (at : ℕ) (i : Item) → stored numbers at i ≡ sets numbers at (four i)
stored_is numbers at i =
    let one : at + 1 ≡ suc at = omega arith in
    let two : at + 2 ≡ suc (suc at) = omega arith in
    let three : at + 3 ≡ suc (suc (suc at)) = omega arith in
    λ j. set (set (set (set numbers at i.kg) (one j) i.x) (two j) i.y) (three j) i.z

-- ---- one slot
module _ (s : Slot) (rest : List Slot) where
  table_filled : s.filled ≡ true → table_of (aboard (s ∷ rest)) ≡ four s.item ++ table_of (aboard rest)
  unfolding aboard table_of
  table_filled e = simp (e, chosen)

  table_empty : s.filled ≡ false → table_of (aboard (s ∷ rest)) ≡ table_of (aboard rest)
  unfolding aboard
  table_empty e = simp (e, chosen)

-- ---- the walk
pub record Listing (slots : List Slot) (numbers : List ℤ) (count i : ℕ) : Type 0 where
  pub room : length numbers ≡ room_for_items
  pub few : count ≤ item_width * i
  pub is : take count numbers ++ table_of (aboard (drop i slots)) ≡ table_of (aboard slots)

pub listing_start : (slots : List Slot) (numbers : List ℤ) → length numbers ≡ room_for_items → Listing slots numbers 0 0
listing_start slots numbers h = record { room = h; few = omega arith; is = refl }

module _ {slots : List Slot} {numbers : List ℤ} {count i : ℕ} (l : Listing slots numbers count i) (all : length slots ≡ slot_count) (n : i < slot_count) where
  abbrev s : Slot
  s = get_or slots i freed

  next : drop i slots ≡ s ∷ drop (i + 1) slots
  next = drop_step slots i freed (omega arith)

  pub listing_empty : (get_or slots i freed).filled ≡ false → Listing slots numbers count (i + 1)
  listing_empty f = record {
    room = l.room;
    few = omega (arith, l.few);
    is =
        ap (λ rest. take count numbers ++ rest) (sym (ap (λ rest. table_of (aboard rest)) next ∙ table_empty s (drop (i + 1) slots) f))
        ∙ l.is;
  }

  pub listing_filled : (get_or slots i freed).filled ≡ true → Held (get_or slots i freed).item → Listing slots (stored numbers count (back_item (get_or slots i freed).item)) (count + item_width) (i + 1)
  listing_filled f held =
      let fits : count + item_width ≤ length numbers = omega (arith, l.few, l.room) in
      subst (λ (put : Item). Listing slots (stored numbers count put) (count + item_width) (i + 1)) (sym (back_item_same held))
      (record {
        room = ap length (stored_is numbers count s.item) ∙ length-sets numbers count (four s.item) ∙ l.room;
        few = omega (arith, l.few);
        is =
            ap (λ front. front ++ table_of (aboard (drop (i + 1) slots))) (ap (take (count + item_width)) (stored_is numbers count s.item) ∙ stored_front (four s.item) numbers count fits)
            ∙ append_assoc (take count numbers) (four s.item) (table_of (aboard (drop (i + 1) slots)))
            ∙ ap (λ rest. take count numbers ++ rest) (sym (ap (λ rest. table_of (aboard rest)) next ∙ table_filled s (drop (i + 1) slots) f))
            ∙ l.is;
      })

pub listing_end : (slots : List Slot) (numbers : List ℤ) (count i : ℕ) → Listing slots numbers count i → length slots ≤ i → take count numbers ≡ table_of (aboard slots)
unfolding aboard table_of
listing_end slots numbers count i l h =
    sym (append-nil (take count numbers)) ∙ ap (λ rest. take count numbers ++ table_of (aboard rest)) (sym (drop_of_length-le slots {i = i} h)) ∙ l.is
