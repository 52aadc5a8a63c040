-- A tally and the numbers that its owner keeps.
--     kept_is_read              the numbers of a tally make that tally again
--     zeros_are_empty           all zeros are the empty tally
--     Reading, reading_start, reading_step, reading_end       the walk from numbers to slots
--     Spelling, spelling_start, spelling_step, spelling_end   the walk from slots to numbers
-- Assumes nothing.
use mathlib.Core.Path.{◌≡◌, refl, sym, ap, subst, ◌∙◌}
use mathlib.Core.Bool.{Bool, true, false}
use mathlib.Core.List.{List, [], ◌∷◌, ◌++◌, append_assoc, append-nil}
use Prim.Native.Nat.{ℕ, suc, ◌+◌, ◌*◌, ◌≤◌, ◌<◌}
use native.Mathlib.Omega.{arith}
use lib.IntN.{ℤ, pos}
use lib.ListN.{length, take, drop, get_or, set, replicate, length-set, drop_of_length-le}
use lib.Seq.{sets, length-sets, take_all}
use Rattle.arithmetic.proofs.Parts.{drop_step, stored_front}
use Rattle.loading.specs.Private.Aboard.{number_at}
use Rattle.loading.proofs.Walks.{drop_four}
use Rattle.report.specs.Lines.{mark}
use Rattle.tally.specs.Tally.{slot_count, freed, empty}
use Rattle.tally.specs.declared.Item.{Item}
use Rattle.tally.specs.declared.Slot.{Slot}
use Rattle.tally.specs.declared.Tally.{Tally}
use Rattle.tally.proofs.Listings.{Held, back_item, back_item_same}
use Rattle.tally.proofs.Soundness.{none_added_up}
use Rattle.rugulosca.specs.Panel.{keeping, slot_from, slots_from, tally_from, numbers_of, kept_of}
use Rattle.rugulosca.specs.Private.Places.{slot_width, slot_room, slot_in}

-- ---- there and back
slot_read : (s : Slot) → slot_from (pos (mark s.filled)) s.item.kg s.item.x s.item.y s.item.z ≡ s
slot_read s = ap (λ filled. record { filled = filled; item = s.item }) (by_mark s.filled)
  where
    by_mark : (filled : Bool) → (slot_from (pos (mark filled)) s.item.kg s.item.x s.item.y s.item.z).filled ≡ filled
    by_mark true = refl
    by_mark false = refl

slots_read : (slots : List Slot) → slots_from (numbers_of slots) ≡ slots
unfolding slots_from numbers_of
slots_read [] = refl
slots_read (s ∷ rest) = λ j. slot_read s j ∷ slots_read rest j

pub kept_is_read : (t : Tally) → tally_from (kept_of t) ≡ t
kept_is_read t = ap (λ slots. record { slots = slots; totals = t.totals }) (slots_read t.slots)

pub zeros_are_empty : tally_from (keeping (replicate slot_room (pos 0)) (replicate 3 0) (pos 0)) ≡ empty
unfolding slots_from
zeros_are_empty = ap (λ totals. record { slots = replicate slot_count freed; totals = totals }) (sym none_added_up)

-- ---- from numbers to slots
module _ (numbers : List ℤ) where
  pub record Reading (slots : List Slot) (i : ℕ) : Type 0 where
    pub size : length slots ≡ slot_count
    pub within : i ≤ slot_count
    pub is : take i slots ++ slots_from (drop (slot_width * i) numbers) ≡ slots_from numbers

  slots_next : (at : ℕ) → at + slot_width ≤ length numbers → slots_from (drop at numbers) ≡ slot_in numbers at ∷ slots_from (drop (at + slot_width) numbers)
  unfolding slots_from
  slots_next at h =
      let on : at + 4 + 1 ≡ at + slot_width = omega arith in
      ap slots_from
      (drop_four numbers (pos 0) at (omega arith)
      ∙ ap (λ rest. number_at numbers at ∷ number_at numbers (at + 1) ∷ number_at numbers (at + 2) ∷ number_at numbers (at + 3) ∷ rest)
      (drop_step numbers (at + 4) (pos 0) (omega arith) ∙ ap (λ k. number_at numbers (at + 4) ∷ drop k numbers) on))

  pub reading_start : (slots : List Slot) → length slots ≡ slot_count → Reading slots 0
  reading_start slots h = record { size = h; within = omega arith; is = refl }

  pub reading_step : {slots : List Slot} {i : ℕ} {s : Slot} → length numbers ≡ slot_room → Reading slots i → i < slot_count → s ≡ slot_in numbers (slot_width * i) → Reading (set slots i s) (i + 1)
  reading_step {slots} {i} {s} room r h e =
      let on : slot_width * i + slot_width ≡ slot_width * (i + 1) = omega arith in
      record {
        size = length-set slots i s ∙ r.size;
        within = omega arith;
        is =
            ap (λ front. front ++ slots_from (drop (slot_width * (i + 1)) numbers)) (stored_front (s ∷ []) slots i (omega (arith, r.size)))
            ∙ append_assoc (take i slots) (s ∷ []) (slots_from (drop (slot_width * (i + 1)) numbers))
            ∙ ap (λ rest. take i slots ++ rest) (sym (slots_next (slot_width * i) (omega (arith, room)) ∙ (λ j. sym e j ∷ slots_from (drop (on j) numbers))))
            ∙ r.is;
      }

  pub reading_end : {slots : List Slot} {i : ℕ} → length numbers ≡ slot_room → Reading slots i → slot_count ≤ i → slots ≡ slots_from numbers
  unfolding slots_from
  reading_end {slots} {i} room r h =
      sym (append-nil slots)
      ∙ (λ j. sym (take_all i slots (omega (arith, r.size))) j ++ slots_from (sym (drop_of_length-le numbers {i = slot_width * i} (omega arith)) j))
      ∙ r.is

-- ---- from slots to numbers
-- a slot's five numbers stored from a place on
abbrev five : ℤ → Item → List ℤ
five filled i = filled ∷ i.kg ∷ i.x ∷ i.y ∷ i.z ∷ []

abbrev pub stored : List ℤ → ℕ → ℤ → Item → List ℤ
stored numbers at filled i =
    set (set (set (set (set numbers at filled) (at + 1) i.kg) (at + 2) i.x) (at + 3) i.y) (at + 4) i.z

stored_is : (numbers : List ℤ) (at : ℕ) (filled : ℤ) (i : Item) → stored numbers at filled i ≡ sets numbers at (five filled i)
stored_is numbers at filled i =
    let one : at + 1 ≡ suc at = omega arith in
    let two : at + 2 ≡ suc (suc at) = omega arith in
    let three : at + 3 ≡ suc (suc (suc at)) = omega arith in
    let four : at + 4 ≡ suc (suc (suc (suc at))) = omega arith in
    λ j. set (set (set (set (set numbers at filled) (one j) i.kg) (two j) i.x) (three j) i.y) (four j) i.z

module _ (slots : List Slot) where
  pub record Spelling (numbers : List ℤ) (i : ℕ) : Type 0 where
    pub size : length numbers ≡ slot_room
    pub within : i ≤ slot_count
    pub is : take (slot_width * i) numbers ++ numbers_of (drop i slots) ≡ numbers_of slots

  numbers_next : (i : ℕ) → i < length slots → numbers_of (drop i slots) ≡ five (pos (mark (get_or slots i freed).filled)) (get_or slots i freed).item ++ numbers_of (drop (i + 1) slots)
  unfolding numbers_of
  numbers_next i h = ap numbers_of (drop_step slots i freed h)

  pub spelling_start : (numbers : List ℤ) → length numbers ≡ slot_room → Spelling numbers 0
  spelling_start numbers h = record { size = h; within = omega arith; is = refl }

  pub spelling_step : {numbers : List ℤ} {i : ℕ} {filled : ℤ} (all : length slots ≡ slot_count) → Spelling numbers i → i < slot_count → filled ≡ pos (mark (get_or slots i freed).filled) → Held (get_or slots i freed).item
      → Spelling (stored numbers (slot_width * i) filled (back_item (get_or slots i freed).item)) (i + 1)
  spelling_step {numbers} {i} {filled} all p h e held =
      let it : Item = (get_or slots i freed).item in
      let at : ℕ = slot_width * i in
      let rest : List ℤ = numbers_of (drop (i + 1) slots) in
      let on : slot_width * (i + 1) ≡ at + slot_width = omega arith in
      let room : at + slot_width ≤ length numbers = omega (arith, p.size) in
      subst (λ (put : Item). Spelling (stored numbers at filled put) (i + 1)) (sym (back_item_same held))
      (record {
        size = ap length (stored_is numbers at filled it) ∙ length-sets numbers at (five filled it) ∙ p.size;
        within = omega arith;
        is =
            (λ j. take (on j) (stored_is numbers at filled it j) ++ rest)
            ∙ ap (λ front. front ++ rest) (stored_front (five filled it) numbers at room)
            ∙ append_assoc (take at numbers) (five filled it) rest
            ∙ ap (λ more. take at numbers ++ more) (ap (λ m. five m it ++ rest) e ∙ sym (numbers_next i (omega arith)))
            ∙ p.is;
      })

  pub spelling_end : {numbers : List ℤ} {i : ℕ} → length slots ≡ slot_count → Spelling numbers i → slot_count ≤ i → numbers ≡ numbers_of slots
  unfolding numbers_of
  spelling_end {numbers} {i} all p h =
      sym (append-nil numbers)
      ∙ (λ j. sym (take_all (slot_width * i) numbers (omega (arith, p.size))) j ++ numbers_of (sym (drop_of_length-le slots {i = i} (omega arith)) j))
      ∙ p.is
