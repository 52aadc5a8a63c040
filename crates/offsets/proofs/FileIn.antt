-- What was read from a file: sound contents, and what its tokens say.
--     SectionIn, section_in     a section that was read
--     FileIn, file_in           contents that were read from some tokens
-- Assumes nothing.
use mathlib.Core.Path.{◌≡◌, sym, ap, subst, ◌∙◌}
use mathlib.Core.Bool.{false}
use mathlib.Core.List.{List, [], ◌∷◌, ◌++◌, append-nil}
use Prim.Native.Nat.{ℕ, ◌/◌, ◌≤◌, ◌<◌}
use native.Mathlib.Nat.{mul-div_cancel}
use native.Mathlib.Omega.{arith}
use lib.IntN.{ℤ, pos}
use lib.ListN.{length}
use Rattle.ranges.specs.Fields.{Range, ◌to◌, particulars, half_breadth, item, tank}
use Rattle.ranges.specs.Limits.{limits}
use Rattle.ranges.specs.Outcome.{answered}
use Rattle.ranges.specs.Outside.{particulars_of, too_long}
use Rattle.ranges.specs.Refusals.{count_not_allowed, out_of_range}
use Rattle.ranges.specs.Sizes.{most_items, most_tanks}
use Rattle.ranges.proofs.Facts.{within_positive}
use Rattle.ranges.proofs.Outcomes.{refused_not, answer_same, was_passed, answered_then}
use Rattle.offsets.specs.File.{Contents, records, points, section, complete, file_by, file}
use Rattle.offsets.specs.Reading.{one, count, numbers}
use Rattle.offsets.specs.Tokens.{Token, number, no_number}
use Rattle.offsets.proofs.InRanges.{InRanges, in_ranges_length, length_of_records}
use Rattle.offsets.proofs.Layouts.{Says, silent, followed}
use Rattle.offsets.proofs.Sound.{Sound, records_in, tanks_on, items_on, half_breadths_on, numbers_in}
use Rattle.offsets.proofs.Within.{one_within, count_within, numbers_within, hull_within}

-- a section that was read: a count that is allowed, and so many records in range, as the tokens say
pub record SectionIn (least most : ℕ) (fields : List Range) (ts : List Token) (vs : List ℤ) (rest : List Token) : Type 0 where
  pub many : ℕ
  pub low : least ≤ many
  pub high : many ≤ most
  pub is_in_range : InRanges (records many fields) vs
  pub says : (more : List ℤ) → Says more rest → Says (pos many ∷ vs ++ more) ts

-- the records of a table in their ranges are as many as its length tells
recounted : (k : ℕ) (fields : List Range) (vs : List ℤ) → 0 < length fields → InRanges (records k fields) vs → k ≡ records_in fields vs
recounted k fields vs some i =
    sym (ap (λ n. n / length fields) (in_ranges_length i ∙ length_of_records k fields) ∙ mul-div_cancel k some)

-- contents that were read from some tokens
pub record FileIn (c : Contents) (ts : List Token) : Type 0 where
  pub sound : Sound c
  pub says : Says (numbers_in c) ts

module _ {h i t rest : List Token} (c : Contents) (half : SectionIn (points c.hull) (points c.hull) half_breadth h c.half_breadths i)
    (items : SectionIn 0 most_items item i c.items t) (tanks : SectionIn 0 most_tanks tank t c.tanks rest) where
  many_half : half.many ≡ points c.hull
  many_half = omega (arith, half.low, half.high)

  many_items : items.many ≡ records_in item c.items
  many_items = recounted items.many item c.items (omega arith) items.is_in_range

  many_tanks : tanks.many ≡ records_in tank c.tanks
  many_tanks = recounted tanks.many tank c.tanks (omega arith) tanks.is_in_range

  sound_of : InRanges particulars c.hull → too_long limits (particulars_of c.hull) ≡ false → Sound c
  sound_of hull short = record {
    hull = hull;
    not_too_long = short;
    half_breadths_ranged = rw many_half at half.is_in_range;
    few_items = omega (arith, many_items, items.high);
    items = rw many_items at items.is_in_range;
    few_tanks = omega (arith, many_tanks, tanks.high);
    tanks = rw many_tanks at tanks.is_in_range;
  }

  sections_say : Says [] rest → Says (half_breadths_on c) h
  sections_say s =
      let last : Says (tanks_on c) t = rw (many_tanks, append-nil c.tanks) at (tanks.says [] s) in
      let more : Says (items_on c) i = rw many_items at (items.says (tanks_on c) last) in
      rw many_half at (half.says (items_on c) more)

module _ (textLength : ℕ) where
  one_says : (why : ℕ) (range : Range) (ts : List Token) {v : ℤ} {rest : List Token} → one textLength why range ts ≡ answered (v, rest) → {more : List ℤ} → Says more rest → Says (v ∷ more) ts
  unfolding one
  one_says why range [] e s = refused_not e
  one_says why range (no_number place ∷ ts) e s = refused_not e
  one_says why range (number place w ∷ ts) {v} {rest} e s =
      let read = answer_same (was_passed why place e).1 in
      let same : w ≡ v = ap (λ r. r.0) read in
      let left : ts ≡ rest = ap (λ r. r.1) read in
      rw (same, left) (followed s)

  count_says : (least most : ℕ) (ts : List Token) {k : ℕ} {rest : List Token} → count textLength least most ts ≡ answered (k, rest) → {more : List ℤ} → Says more rest → Says (pos k ∷ more) ts
  unfolding count
  count_says least most ts {k} {rest} e {more} s =
      let o = answered_then e in
      let v = o.0.0 in
      let read = answer_same o.2 in
      let whole : v ≡ pos k = sym (within_positive least most v (one_within textLength count_not_allowed (least to most) ts o.1)) ∙ ap (λ r. pos r.0) read in
      let left : rest ≡ o.0.1 = sym (ap (λ r. r.1) read) in
      rw (← whole) (one_says count_not_allowed (least to most) ts o.1 (rw (← left) s))

  numbers_say : (rs : List Range) (ts : List Token) {vs : List ℤ} {rest : List Token} → numbers textLength rs ts ≡ answered (vs, rest) → (more : List ℤ) → Says more rest → Says (vs ++ more) ts
  unfolding numbers
  numbers_say [] ts {vs} {rest} e more s =
      let read = answer_same e in
      let none : vs ≡ [] = sym (ap (λ r. r.0) read) in
      let left : ts ≡ rest = ap (λ r. r.1) read in
      rw (none, left) s
  numbers_say (r ∷ rs) ts {vs} {rest} e more s =
      let o = answered_then e in
      let n = answered_then o.2 in
      let read = answer_same n.2 in
      let all : vs ≡ o.0.0 ∷ n.0.0 = sym (ap (λ r. r.0) read) in
      let left : rest ≡ n.0.1 = sym (ap (λ r. r.1) read) in
      rw all (one_says out_of_range r ts o.1 (numbers_say rs o.0.1 n.1 more (rw (← left) s)))

  section_in : (least most : ℕ) (fields : List Range) (ts : List Token) {vs : List ℤ} {rest : List Token} → section textLength least most fields ts ≡ answered (vs, rest) → SectionIn least most fields ts vs rest
  unfolding section
  section_in least most fields ts e =
      let k = answered_then e in
      let ranges = records k.0.0 fields in
      let b = count_within textLength least most ts k.1 in
      record {
        many = k.0.0;
        low = b.0;
        high = b.1;
        is_in_range = numbers_within textLength ranges k.0.1 k.2;
        says = λ more s. count_says least most ts k.1 (numbers_say ranges k.0.1 k.2 more s);
      }

  complete_in : (c : Contents) (ts : List Token) {d : Contents} → complete textLength c ts ≡ answered d → (c ≡ d) × Says [] ts
  unfolding complete
  complete_in c [] e = (answer_same e, silent)
  complete_in c (number place v ∷ rest) e = refused_not e
  complete_in c (no_number place ∷ rest) e = refused_not e

  pub file_in : (ts : List Token) {c : Contents} → file textLength ts ≡ answered c → FileIn c ts
  unfolding file_by
  file_in ts e =
      let five = answered_then e in
      let hull = answered_then five.2 in
      let p = points hull.0.0 in
      let half = answered_then hull.2 in
      let items = answered_then half.2 in
      let tanks = answered_then items.2 in
      let d : Contents = record { hull = hull.0.0; half_breadths = half.0.0; items = items.0.0; tanks = tanks.0.0 } in
      let end = complete_in d tanks.0.1 tanks.2 in
      let h = section_in p p half_breadth hull.0.1 half.1 in
      let i = section_in 0 most_items item half.0.1 items.1 in
      let t = section_in 0 most_tanks tank items.0.1 tanks.1 in
      let n = count_within textLength (length particulars) (length particulars) ts five.1 in
      let fives : five.0.0 ≡ length particulars = omega (arith, n) in
      let held = hull_within textLength limits five.0.1 hull.1 in
      let said = numbers_say particulars five.0.1 held.0 (half_breadths_on d) (sections_say d h i t end.1) in
      subst (λ c. FileIn c ts) end.0
      (record {
        sound = sound_of d h i t (numbers_within textLength particulars five.0.1 held.0) held.1;
        says = rw fives at (count_says (length particulars) (length particulars) ts five.1 said);
      })
