-- What the reader answers, and what it leaves in the tables.
--     refusal                                             a refusal, and the tables as they were
--     half_short, items_short, tanks_short, text_too_long      the refusals before the first token
--     past_sizes, on_file                                 past them, the reader answers what the file says
--     file_refused                                        a refusal of the file
--     sheet                                               a whole file, copied into the tables
-- Assumes nothing.
use mathlib.Core.Path.{◌≡◌, ◌∙◌}
use mathlib.Core.List.{List, ◌++◌, map}
use Prim.Native.Nat.{ℕ, ◌*◌, ◌/◌, ◌≤◌, ◌<◌}
use native.Mathlib.Nat.{mul-div_cancel_left}
use native.Mathlib.Omega.{arith}
use borrow.Author.Tests.{lt-ltb, le-ltb}
use lib.IntN.{ℤ, nat_abs}
use lib.ListN.{length, drop, length-map}
use lib.Seq.{length-take-le}
use Rattle.arithmetic.proofs.Choice.{chosen}
use Rattle.ranges.specs.Outcome.{answered, refused, answer_with, left_with}
use Rattle.ranges.specs.Outside.{numbers_of}
use Rattle.ranges.specs.Reasons.{number_of}
use Rattle.ranges.specs.Refusals.{half_breadth_table, item_table, tank_table}
use Rattle.ranges.specs.Sizes.{points_of, longest_file, item_width, tank_width, room_for_half_breadths, room_for_items, room_for_tanks}
use Rattle.ranges.specs.declared.refusal.Reason.TheVariants.{FileTooLong, WrongSize}
use Rattle.ranges.specs.declared.refusal.Refusal.{Refusal}
use Rattle.offsets.specs.File.{file}
use Rattle.offsets.specs.Reader.{reader_of, reader_by, Reads}
use Rattle.offsets.specs.Private.Steps.{Sized, Rooms, Parses, front}
use Rattle.offsets.specs.Tokens.{tokens}
use Rattle.offsets.specs.declared.Summary.{Summary}
use Rattle.offsets.proofs.Sound.{points_most}
use Rattle.ranges.specs.Fields.{Range, half_breadth, item, tank}
use Rattle.std.specs.Prelude.{Ok, Err}

pub past_sizes : (text : List ℕ) (h i t : ℕ) → room_for_half_breadths ≤ h → room_for_items ≤ i → room_for_tanks ≤ t → length text ≤ longest_file → reader_of text h i t ≡ file (length text) (tokens text)
unfolding reader_by
past_sizes text h i t half items tanks short = simp (le-ltb h room_for_half_breadths half, le-ltb i room_for_items items, le-ltb t room_for_tanks tanks, le-ltb longest_file (length text) short, chosen)

module _ (text h₀ : List ℕ) (i₀ t₀ : List ℤ) where
  pub refusal : (r : Refusal) → reader_of text (length h₀) (length i₀) (length t₀) ≡ refused (number_of r.reason) r.place → Reads text h₀ h₀ i₀ i₀ t₀ t₀ (Err r)
  unfolding answer_with left_with
  refusal r e = record { answer_is = rw e; tables_are = record { half_breadths_left = rw e; items_left = rw e; tanks_left = rw e } }

  pub half_short : length h₀ < room_for_half_breadths → Reads text h₀ h₀ i₀ i₀ t₀ t₀ (Err (record { reason = WrongSize; place = half_breadth_table }))
  half_short h = refusal (record { reason = WrongSize; place = half_breadth_table }) (unfold reader_by in simp (lt-ltb (length h₀) room_for_half_breadths h, chosen))

  module _ (half : room_for_half_breadths ≤ length h₀) where
    pub items_short : length i₀ < room_for_items → Reads text h₀ h₀ i₀ i₀ t₀ t₀ (Err (record { reason = WrongSize; place = item_table }))
    items_short h = refusal (record { reason = WrongSize; place = item_table }) (unfold reader_by in simp (le-ltb (length h₀) room_for_half_breadths half, lt-ltb (length i₀) room_for_items h, chosen))

    module _ (items : room_for_items ≤ length i₀) where
      pub tanks_short : length t₀ < room_for_tanks → Reads text h₀ h₀ i₀ i₀ t₀ t₀ (Err (record { reason = WrongSize; place = tank_table }))
      tanks_short h = refusal (record { reason = WrongSize; place = tank_table }) (unfold reader_by in simp (le-ltb (length h₀) room_for_half_breadths half, le-ltb (length i₀) room_for_items items, lt-ltb (length t₀) room_for_tanks h, chosen))

      pub text_too_long : room_for_tanks ≤ length t₀ → longest_file < length text → Reads text h₀ h₀ i₀ i₀ t₀ t₀ (Err (record { reason = FileTooLong; place = longest_file }))
      text_too_long tanks h = refusal (record { reason = FileTooLong; place = longest_file }) (unfold reader_by in simp (le-ltb (length h₀) room_for_half_breadths half, le-ltb (length i₀) room_for_items items, le-ltb (length t₀) room_for_tanks tanks, lt-ltb longest_file (length text) h, chosen))

  module _ (sized : Sized text h₀ i₀ t₀) where
    pub on_file : reader_of text (length h₀) (length i₀) (length t₀) ≡ file (length text) (tokens text)
    on_file = past_sizes text (length h₀) (length i₀) (length t₀) sized.half_breadth_room sized.item_room sized.tank_room sized.text_length

    module _ (half items tanks : List ℤ) where
      pub file_refused : (r : Refusal) → Parses text half items tanks (Err r) → Reads text h₀ h₀ i₀ i₀ t₀ t₀ (Err r)
      file_refused r parses = refusal r (on_file ∙ parses.read)

      -- so many of a table's first numbers are whole records
      counted : (fields : List Range) (k : ℕ) (table : List ℤ) → 0 < length fields → length fields * k ≤ length table → length (front fields table k) / length fields ≡ k
      counted fields k table some h = rw (length-take-le (length fields * k) table h) (mul-div_cancel_left k some)

      -- a lent table with the numbers read in front
      in_front : {A : Type 0} (n : ℕ) (read was after : List A) → length read ≡ n → after ≡ read ++ drop n was → after ≡ read ++ drop (length read) was
      in_front n read was after l e = rw l e

      module _ (s : Summary) (parses : Parses text half items tanks (Ok s)) (rooms : Rooms half items tanks) (h : List ℕ) (j k : List ℤ) where
        abbrev grid : List ℤ
        grid = front half_breadth half (points_of s.particulars.n s.particulars.m)

        read_is : reader_of text (length h₀) (length i₀) (length t₀) ≡ answered (record { hull = numbers_of s.particulars; half_breadths = grid; items = front item items s.items; tanks = front tank tanks s.tanks })
        read_is = on_file ∙ parses.read

        pub sheet :
            h ≡ map nat_abs grid ++ drop (length half_breadth * points_of s.particulars.n s.particulars.m) h₀
            → j ≡ front item items s.items ++ drop (item_width * s.items) i₀
            → k ≡ front tank tanks s.tanks ++ drop (tank_width * s.tanks) t₀
            → Reads text h₀ h i₀ j t₀ k (Ok s)
        unfolding answer_with left_with
        sheet a b c =
            let fits = parses.fits in
            let points = points_of s.particulars.n s.particulars.m in
            let few : points ≤ room_for_half_breadths = points_most fits.0 fits.1 in
            let lp : length half_breadth * points ≤ length half = omega arith in
            let li : item_width * s.items ≤ length items = omega arith in
            let lt : tank_width * s.tanks ≤ length tanks = omega arith in
            record {
              answer_is = rw (read_is, counted item s.items items (omega arith) li, counted tank s.tanks tanks (omega arith) lt);
              tables_are = record {
                half_breadths_left = rw read_is (in_front (length half_breadth * points) (map nat_abs grid) h₀ h (length-map grid nat_abs ∙ length-take-le (length half_breadth * points) half lp) a);
                items_left = rw read_is (in_front (item_width * s.items) (front item items s.items) i₀ j (length-take-le (item_width * s.items) items li) b);
                tanks_left = rw read_is (in_front (tank_width * s.tanks) (front tank tanks s.tanks) t₀ k (length-take-le (tank_width * s.tanks) tanks lt) c);
              };
            }
