-- No text is longer than its numbers at their longest.
--     printed_within                                  a number of a range
--     record_append, record_times                     the numbers of two lists of ranges, and of so many records
--     length_of_spelled                               numbers in their ranges, spelled out
--     all_ranges, in_all_ranges, all_ranges_le         the numbers of a file, each count among them, and how long they are at most
--     longest_is                                      how many bytes that comes to
-- Assumes nothing.
use mathlib.Core.Path.{◌≡◌, refl, sym, ◌∙◌}
use mathlib.Core.Bool.{true, false≢true}
use mathlib.Core.List.{List, [], ◌∷◌, ◌++◌}
use Prim.Native.Nat.{ℕ, zero, suc, ◌+◌, ◌*◌, ◌≤◌}
use native.Mathlib.Nat.{suc-mul, zero-mul, mul-le-mul_right}
use native.Mathlib.Omega.{arith}
use lib.IntN.{ℤ, pos, negsuc}
use lib.ListN.{length, length-append}
use Rattle.arithmetic.specs.Choice.{when◌then◌else◌}
use Rattle.numerals.specs.Printed.{decimal_in, decimal, printed}
use Rattle.numerals.proofs.Decimal.{length_of_decimal_mono}
use Rattle.ranges.specs.Fields.{Range, ◌to◌, ±◌, within, particulars, half_breadth, item, tank}
use Rattle.ranges.specs.Sizes.{room_for_half_breadths, most_items, most_tanks}
use Rattle.ranges.proofs.Facts.{within_size, whole_within}
use Rattle.offsets.specs.File.{Contents, records, points}
use Rattle.offsets.proofs.InRanges.{InRanges, no_more, and_in}
use Rattle.offsets.proofs.Sound.{Sound, records_in, points_le, numbers_in}
use Rattle.writer.specs.Longest.{longest_number, longest_record, longest_section, longest_text}
use Rattle.writer.proofs.Spelled.{Spells, empty, next}

pub printed_within : (r : Range) (v : ℤ) → within r v ≡ true → length (printed v) + 1 ≤ longest_number r
unfolding printed within
printed_within (a to b) (pos n) h = omega (arith, length_of_decimal_mono (within_size (a to b) (pos n) h).1)
printed_within (a to b) (negsuc n) h = absurd (false≢true h)
printed_within (± b) (pos n) h = omega (arith, length_of_decimal_mono (within_size (± b) (pos n) h).1)
printed_within (± b) (negsuc n) h = omega (arith, length_of_decimal_mono (within_size (± b) (negsuc n) h).1)

-- ---- lists of ranges
record_cons : (r : Range) (rs : List Range) → longest_record (r ∷ rs) ≡ longest_number r + longest_record rs
unfolding longest_record
record_cons r rs = refl

pub record_append : (rs ss : List Range) → longest_record (rs ++ ss) ≡ longest_record rs + longest_record ss
unfolding longest_record
record_append [] ss = omega arith
record_append (r ∷ rs) ss = omega (arith, record_append rs ss)

pub record_times : (k : ℕ) (fields : List Range) → longest_record (records k fields) ≡ k * longest_record fields
unfolding records
record_times zero fields = unfold longest_record in sym (zero-mul (longest_record fields))
record_times (suc k) fields = record_append fields (records k fields) ∙ omega (arith, suc-mul k (longest_record fields), record_times k fields)

pub length_of_spelled : {rs : List Range} {vs : List ℤ} {text : List ℕ} → Spells vs text → InRanges rs vs → length text ≤ longest_record rs
unfolding longest_record
length_of_spelled empty no_more = omega arith
length_of_spelled (next {text = text} v b h e s) (and_in {r = r} {rs = rs} w i) =
    omega (arith, length-append (printed v) (b ∷ text), printed_within r v w, length_of_spelled {rs = rs} s i)

-- ---- the numbers of a file
in_ranges_append : {rs ss : List Range} {vs ws : List ℤ} → InRanges rs vs → InRanges ss ws → InRanges (rs ++ ss) (vs ++ ws)
in_ranges_append no_more j = j
in_ranges_append (and_in w i) j = and_in w (in_ranges_append i j)

-- a count, and so many records
counted_in : {most k : ℕ} (fields : List Range) {vs : List ℤ} → k ≤ most → InRanges (records k fields) vs → InRanges ((0 to most) ∷ records k fields) (pos k ∷ vs)
counted_in {most} {k} fields few i = and_in (whole_within 0 most k (omega arith, few)) i

abbrev pub all_ranges : ℕ → ℕ → ℕ → List Range
all_ranges p i t =
    (0 to length particulars ∷ particulars)
    ++ ((0 to room_for_half_breadths ∷ records p half_breadth) ++ ((0 to most_items ∷ records i item) ++ (0 to most_tanks ∷ records t tank)))

pub in_all_ranges : (c : Contents) → Sound c → InRanges (all_ranges (points c.hull) (records_in item c.items) (records_in tank c.tanks)) (numbers_in c)
in_all_ranges c s =
    in_ranges_append (and_in (whole_within 0 (length particulars) (length particulars) (omega arith, omega arith)) s.hull)
    (in_ranges_append (counted_in half_breadth (points_le s.hull) s.half_breadths_ranged)
    (in_ranges_append (counted_in item s.few_items s.items) (counted_in tank s.few_tanks s.tanks)))

section_le : (most k : ℕ) (fields : List Range) → k ≤ most → longest_record ((0 to most) ∷ records k fields) ≤ longest_section most fields
section_le most k fields few = omega (arith, record_cons (0 to most) (records k fields), record_times k fields, mul-le-mul_right (longest_record fields) few)

pub all_ranges_le : (p i t : ℕ) → p ≤ room_for_half_breadths → i ≤ most_items → t ≤ most_tanks → longest_record (all_ranges p i t) ≤ longest_text
unfolding longest_text
all_ranges_le p i t few-points few_items few_tanks =
    simp record_append
    (omega (arith, record_cons (0 to length particulars) particulars, section_le room_for_half_breadths p half_breadth few-points, section_le most_items i item few_items, section_le most_tanks t tank few_tanks))

-- counts 2, 5, 3 and 3, the particulars 20, a half-breadth 5, an item 27, a tank 50
pub longest_is : longest_text ≡ 10_202
unfolding longest_text longest_record printed decimal decimal_in when◌then◌else◌
longest_is = refl
