-- The round trip over the definitions: what is written is read back, and what is read can be written.
--     contents_of                the contents of a file of these particulars and tables
--     passes_sound, sound_passes     tables that pass the writer's tests are sound contents, and the other way
--     text_spells               the text of a file spells its numbers
--     length_of_text, length_of_passed     it is never longer than its numbers at their longest
--     passes_answered           room for that is never too short
--     written_is_read           what the writer answers is read as what was written
-- Assumes nothing.
use mathlib.Core.Path.{◌≡◌, refl, sym, ap₂, ◌∙◌}
use mathlib.Core.Bool.{true}
use mathlib.Core.List.{List, [], ◌∷◌, map, append_assoc}
use Prim.Native.Nat.{ℕ, ◌+◌, ◌*◌, ◌%◌, ◌^◌, ◌≤◌, ◌<◌}
use native.Mathlib.Nat.{mul-one, div-add-mod'}
use native.Mathlib.Omega.{arith}
use borrow.Author.Tests.{eq-eqb, le-leb}
use lib.IntN.{ℤ, pos, nat_abs}
use lib.ListN.{length, length-map}
use Rattle.numerals.specs.Number.{most_digits}
use Rattle.ranges.specs.Fields.{Range, particulars, half_breadth, item, tank}
use Rattle.ranges.specs.Limits.{limits}
use Rattle.ranges.specs.Outcome.{answered}
use Rattle.ranges.specs.Outside.{first_outside, numbers_of, particulars_of}
use Rattle.ranges.specs.Sizes.{longest_file, whole_records, most_items, most_tanks}
use Rattle.ranges.specs.declared.Particulars.{Particulars}
use Rattle.ranges.proofs.Hulls.{none_bad, bad_none}
use Rattle.ranges.proofs.Facts.{records_are}
use Rattle.offsets.specs.File.{Contents, records, points, file}
use Rattle.offsets.specs.Tokens.{tokens}
use Rattle.offsets.proofs.InRanges.{InRanges, in_ranges_length, length_of_records, in_ranges_of_table, no_number_outside, Every, every_records, Whole, whole_in_ranges, hull_again}
use Rattle.offsets.proofs.Editors.{held_is_read}
use Rattle.offsets.proofs.Sound.{Sound, records_in, points_le, length_of_half_breadths, length_of_items, length_of_tanks, numbers_in}
use Rattle.writer.specs.Longest.{longest_text}
use Rattle.writer.specs.Private.Putting.{Passes}
use Rattle.writer.specs.Written.{lines, counted, section_text, text_of}
use Rattle.writer.specs.Writer.{writer_of}
use Rattle.writer.proofs.Spelled.{Spells, spells_holds, spells_append, line_spells, lines_spell, Few, short_in_ranges}
use Rattle.writer.proofs.Longest.{length_of_spelled, in_all_ranges, all_ranges_le, longest_is}
use Rattle.writer.proofs.Tried.{answered_passes, answers}

abbrev pub contents_of : Particulars → List ℕ → List ℤ → List ℤ → Contents
contents_of p half_breadths items tanks = record { hull = numbers_of p; half_breadths = map pos half_breadths; items = items; tanks = tanks }

-- ---- the writer's tests, and sound contents
module _ (fields : List Range) (allowed : ℕ) (table : List ℤ) where
  whole : whole_records (length fields) allowed (length table) ≡ true → (length table ≡ records_in fields table * length fields) × (records_in fields table ≤ allowed)
  whole e =
      let t = records_are (length fields) allowed (length table) e in
      (omega (arith, div-add-mod' (length table) (length fields), t.0), t.1)

  whole_again : length table ≡ records_in fields table * length fields → records_in fields table ≤ allowed → whole_records (length fields) allowed (length table) ≡ true
  unfolding whole_records
  whole_again e l =
      let none : length table % length fields ≡ 0 = omega (arith, div-add-mod' (length table) (length fields)) in
      rw (eq-eqb _ _ none, le-leb _ _ l)

module _ (p : Particulars) (h : List ℕ) (i t : List ℤ) where
  pub passes_sound : Passes p h i t → Sound (contents_of p h i t)
  unfolding records
  passes_sound o =
      let hull = none_bad limits p o.right_sizes.particulars_in in
      let items = whole item most_items i o.right_sizes.item_size in
      let tanks = whole tank most_tanks t o.right_sizes.tank_size in
      let n = points (numbers_of p) in
      let many : length (map pos h) ≡ n * 1 = length-map h pos ∙ o.right_sizes.half_breadth_size ∙ sym (mul-one n) in
      let none : length (map pos h) ≤ first_outside half_breadth (map pos h) = omega (arith, length-map h pos, o.half_breadths_in) in
      record {
        hull = in_ranges_of_table 1 particulars (numbers_of p) (omega arith) hull.0;
        not_too_long = hull.1;
        half_breadths_ranged = in_ranges_of_table n half_breadth (map pos h) many none;
        few_items = items.1;
        items = in_ranges_of_table (records_in item i) item i items.0 o.items_in;
        few_tanks = tanks.1;
        tanks = in_ranges_of_table (records_in tank t) tank t tanks.0 o.tanks_in;
      }

  pub sound_passes : Sound (contents_of p h i t) → Passes p h i t
  unfolding records
  sound_passes s =
      let n = points (numbers_of p) in
      let c = contents_of p h i t in
      record {
        right_sizes = record {
          particulars_in = omega (arith, bad_none limits p (omega (arith, no_number_outside 1 particulars (numbers_of p) s.hull)) s.not_too_long);
          half_breadth_size = sym (length-map h pos) ∙ length_of_half_breadths c s;
          item_size = whole_again item most_items i (length_of_items c s) s.few_items;
          tank_size = whole_again tank most_tanks t (length_of_tanks c s) s.few_tanks;
        };
        half_breadths_in = omega (arith, length-map h pos, no_number_outside n half_breadth (map pos h) s.half_breadths_ranged);
        items_in = omega (arith, no_number_outside (records_in item i) item i s.items);
        tanks_in = omega (arith, no_number_outside (records_in tank t) tank t s.tanks);
      }

-- ---- the text
counted_spells : (k : ℕ) → k < 10 ^ most_digits → Spells (pos k ∷ []) (counted k)
counted_spells k h = line_spells (pos k ∷ []) (omega arith) (h, tt)

module _ (fields : List Range) (few : Every Few fields) where
  lines_in_range : (width k n : ℕ) (table : List ℤ) → 0 < width → n * length fields ≡ k * width → InRanges (records n fields) table → Spells table (lines width k table)
  lines_in_range width k n table some e i =
      lines_spell width k table some (in_ranges_length i ∙ length_of_records n fields ∙ e) (short_in_ranges (every_records Few n fields few) i)

  section_spells : (table : List ℤ) → 0 < length fields → records_in fields table < 10 ^ most_digits → InRanges (records (records_in fields table) fields) table
      → Spells (pos (records_in fields table) ∷ table) (section_text (length fields) table)
  unfolding section_text
  section_spells table some short i =
      spells_append (counted_spells (records_in fields table) short) (lines_in_range (length fields) (records_in fields table) (records_in fields table) table some refl i)

module _ (p : Particulars) (h : List ℕ) (i t : List ℤ) (s : Sound (contents_of p h i t)) where
  pub text_spells : Spells (numbers_in (contents_of p h i t)) (text_of p h i t)
  unfolding text_of
  text_spells =
      simp append_assoc (
      let n = points (numbers_of p) in
      let hull = line_spells (numbers_of p) (omega arith) (short_in_ranges (omega arith) s.hull) in
      let half = lines_in_range half_breadth (omega arith) (p.m + 1) (p.n + 1) n (map pos h) (omega arith) (mul-one n) s.half_breadths_ranged in
      let items = section_spells item (omega arith) i (omega arith) (omega (arith, s.few_items)) s.items in
      let tanks = section_spells tank (omega arith) t (omega arith) (omega (arith, s.few_tanks)) s.tanks in
      spells_append (counted_spells (length particulars) (omega arith)) (spells_append hull (spells_append (counted_spells n (omega (arith, points_le s.hull))) (spells_append half (spells_append items tanks)))))

  pub length_of_text : length (text_of p h i t) ≤ longest_text
  length_of_text =
      let c = contents_of p h i t in
      omega (arith, length_of_spelled text_spells (in_all_ranges c s), all_ranges_le _ _ _ (points_le s.hull) s.few_items s.few_tanks)

  pub text_is_read : file (length (text_of p h i t)) (tokens (text_of p h i t)) ≡ answered (contents_of p h i t)
  text_is_read = held_is_read (text_of p h i t) (contents_of p h i t) s (spells_holds text_spells)

pub length_of_passed : {p : Particulars} {h : List ℕ} {i t : List ℤ} → Passes p h i t → length (text_of p h i t) ≤ longest_text
length_of_passed {p} {h} {i} {t} o = length_of_text p h i t (passes_sound p h i t o)

-- room for the longest text is never too short
pub passes_answered : (p : Particulars) (h : List ℕ) (i t : List ℤ) → Passes p h i t → (room : ℕ) → longest_text ≤ room → writer_of p h i t room ≡ answered (text_of p h i t)
passes_answered p h i t o room l = answers p h i t room o (omega (arith, length_of_passed o))

-- what the writer answers is read as what was written
pub written_is_read : (p : Particulars) (h : List ℕ) (i t : List ℤ) (room : ℕ) {text : List ℕ} → writer_of p h i t room ≡ answered text
    → (length text ≤ longest_file) × (file (length text) (tokens text) ≡ answered (contents_of p h i t))
written_is_read p h i t room e =
    let a = answered_passes p h i t room e in
    let s = passes_sound p h i t a.passes in
    rw a.text_is (omega (arith, length_of_passed a.passes, longest_is), text_is_read p h i t s)

-- ---- what was read can be written
half_breadths_again : (k : ℕ) {vs : List ℤ} → InRanges (records k half_breadth) vs → map pos (map nat_abs vs) ≡ vs
half_breadths_again k i = whole_in_ranges (every_records Whole k half_breadth (tt, tt)) i

pub contents_again : (c : Contents) → Sound c → contents_of (particulars_of c.hull) (map nat_abs c.half_breadths) c.items c.tanks ≡ c
contents_again c s =
    ap₂ {C = Contents} (λ hull half. record { hull = hull; half_breadths = half; items = c.items; tanks = c.tanks }) (hull_again limits s.hull) (half_breadths_again (points c.hull) s.half_breadths_ranged)

-- the particulars and tables that were read, written into room for the longest text, are read as the same contents
pub sound_again : (c : Contents) → Sound c → Sound (contents_of (particulars_of c.hull) (map nat_abs c.half_breadths) c.items c.tanks)
sound_again c s = rw (contents_again c s) s

pub read_is_written : (c : Contents) → Sound c → (room : ℕ) → longest_text ≤ room
    → writer_of (particulars_of c.hull) (map nat_abs c.half_breadths) c.items c.tanks room ≡ answered (text_of (particulars_of c.hull) (map nat_abs c.half_breadths) c.items c.tanks)
read_is_written c s room l =
    let p = particulars_of c.hull in
    let h = map nat_abs c.half_breadths in
    passes_answered p h c.items c.tanks (sound_passes p h c.items c.tanks (sound_again c s)) room l
