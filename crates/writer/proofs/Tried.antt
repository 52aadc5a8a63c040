-- The writer's tests, in the paper's order: particulars, 7, half-breadths, items, tanks, 14.
--     refuses-..                each refusal, where its line holds and no line before it
--     Passes                    none of them but 14 holds
--     answers, refuses_room     then the text is answered, or 14 where the room is shorter
--     answered_passes           where a text is answered, none holds
-- Assumes nothing.
use mathlib.Core.Path.{◌≡◌, ◌∙◌}
use mathlib.Core.Bool.{true, false}
use mathlib.Core.List.{List, map}
use Prim.Native.Nat.{ℕ, ◌+◌, ◌≤◌, ◌<◌}
use borrow.Author.Tests.{lt-ltb, le-ltb, ltb-false, eq-eqb, ne_eqb, eqb-true, not-false}
use lib.Dec.{ltb}
use lib.IntN.{ℤ, pos}
use lib.ListN.{length}
use Rattle.arithmetic.specs.Choice.{when◌then◌else◌}
use Rattle.arithmetic.proofs.Choice.{chosen}
use Rattle.ranges.specs.Fields.{particulars, half_breadth, item, tank}
use Rattle.ranges.specs.Outcome.{answered, refused}
use Rattle.ranges.specs.Outside.{first_outside, bad_particular}
use Rattle.ranges.specs.Refusals.{out_of_range, wrong_size, room_too_short, place_of_half_breadths, place_of_items, place_of_tanks, half_breadth_table, item_table, tank_table}
use Rattle.ranges.specs.Sizes.{points_of, item_width, tank_width, whole_records, most_items, most_tanks}
use Rattle.ranges.specs.declared.Particulars.{Particulars}
use Rattle.ranges.proofs.Outcomes.{not_refused}
use Rattle.writer.specs.Private.Putting.{RightSizes, Passes}
use Rattle.writer.specs.Written.{text_of}
use Rattle.writer.specs.Writer.{writer_of, writer_by}

module _ (p : Particulars) (h : List ℕ) (i t : List ℤ) (room : ℕ) where
  -- ---- particulars, and 7
  pub refuses_particular : {bad : ℕ} → bad ≡ bad_particular p → bad < length particulars → writer_of p h i t room ≡ refused out_of_range bad
  unfolding writer_by
  refuses_particular f l = rw (← f) (simp (lt-ltb _ _ l, chosen))

  module _ (a : length particulars ≤ bad_particular p) where
    pub refuses_half_breadth_size : (length h ≡ points_of p.n p.m → ⊥) → writer_of p h i t room ≡ refused wrong_size half_breadth_table
    unfolding writer_by
    refuses_half_breadth_size n = simp (le-ltb _ _ a, ne_eqb _ _ n, chosen)

    module _ (b : length h ≡ points_of p.n p.m) where
      pub refuses_item_size : whole_records item_width most_items (length i) ≡ false → writer_of p h i t room ≡ refused wrong_size item_table
      unfolding writer_by
      refuses_item_size e = simp (le-ltb _ _ a, eq-eqb _ _ b, e, chosen)

      pub refuses_tank_size : whole_records item_width most_items (length i) ≡ true → whole_records tank_width most_tanks (length t) ≡ false → writer_of p h i t room ≡ refused wrong_size tank_table
      unfolding writer_by
      refuses_tank_size c e = simp (le-ltb _ _ a, eq-eqb _ _ b, c, e, chosen)

  -- ---- half-breadths, items, tanks
  module _ (s : RightSizes p h i t) where
    pub refuses_half_breadth : {bad : ℕ} → bad ≡ first_outside half_breadth (map pos h) → bad < length h → writer_of p h i t room ≡ refused out_of_range (place_of_half_breadths + bad)
    unfolding writer_by
    refuses_half_breadth f l = rw (← f) (simp (le-ltb _ _ s.particulars_in, eq-eqb _ _ s.half_breadth_size, s.item_size, s.tank_size, lt-ltb _ _ l, chosen))

    module _ (a : length h ≤ first_outside half_breadth (map pos h)) where
      pub refuses_item : {bad : ℕ} → bad ≡ first_outside item i → bad < length i → writer_of p h i t room ≡ refused out_of_range (place_of_items + bad)
      unfolding writer_by
      refuses_item f l = rw (← f) (simp (le-ltb _ _ s.particulars_in, eq-eqb _ _ s.half_breadth_size, s.item_size, s.tank_size, le-ltb _ _ a, lt-ltb _ _ l, chosen))

      pub refuses_tank : length i ≤ first_outside item i → {bad : ℕ} → bad ≡ first_outside tank t → bad < length t → writer_of p h i t room ≡ refused out_of_range (place_of_tanks + bad)
      unfolding writer_by
      refuses_tank b f l = rw (← f) (simp (le-ltb _ _ s.particulars_in, eq-eqb _ _ s.half_breadth_size, s.item_size, s.tank_size, le-ltb _ _ a, le-ltb _ _ b, lt-ltb _ _ l, chosen))

  -- ---- 14, or the text
  module _ (o : Passes p h i t) where
    pub passed : writer_of p h i t room ≡ (when ltb room (length (text_of p h i t)) then refused room_too_short (length (text_of p h i t)) else answered (text_of p h i t))
    unfolding writer_by
    passed =
        simp
        (le-ltb _ _ o.right_sizes.particulars_in, eq-eqb _ _ o.right_sizes.half_breadth_size, o.right_sizes.item_size, o.right_sizes.tank_size, le-ltb _ _ o.half_breadths_in, le-ltb _ _ o.items_in, le-ltb _ _ o.tanks_in, chosen)

    pub refuses_room : room < length (text_of p h i t) → writer_of p h i t room ≡ refused room_too_short (length (text_of p h i t))
    refuses_room l = passed ∙ simp (lt-ltb _ _ l, chosen)

    pub answers : length (text_of p h i t) ≤ room → writer_of p h i t room ≡ answered (text_of p h i t)
    answers l = passed ∙ simp (le-ltb _ _ l, chosen)

-- ---- an answer tells that every test was passed
pub record AnsweredText (p : Particulars) (h : List ℕ) (i t : List ℤ) (room : ℕ) (text : List ℕ) : Type 0 where
  pub passes : Passes p h i t
  pub text_is : text ≡ text_of p h i t
  pub room_for : length text ≤ room

module _ (p : Particulars) (h : List ℕ) (i t : List ℤ) (room : ℕ) {text : List ℕ} where
  pub answered_passes : writer_of p h i t room ≡ answered text → AnsweredText p h i t room text
  unfolding writer_by
  answered_passes e =
      let a = not_refused _ _ e in
      let b = not_refused _ _ a.1 in
      let c = not_refused _ _ b.1 in
      let d = not_refused _ _ c.1 in
      let f = not_refused _ _ d.1 in
      let g = not_refused _ _ f.1 in
      let j = not_refused _ _ g.1 in
      let k = not_refused _ _ j.1 in
      let text_is : text ≡ text_of p h i t = cc k.1 in
      record {
        passes = record {
          right_sizes = record {
            particulars_in = ltb-false _ _ a.0;
            half_breadth_size = eqb-true _ _ (not-false _ b.0);
            item_size = not-false _ c.0;
            tank_size = not-false _ d.0;
          };
          half_breadths_in = ltb-false _ _ f.0;
          items_in = ltb-false _ _ g.0;
          tanks_in = ltb-false _ _ j.0;
        };
        text_is = text_is;
        room_for = rw text_is (ltb-false _ _ k.0);
      }
