-- A file read section by section is what its tokens say.
--     ranges_of_records              the ranges that a section's numbers are held to, number by number, are those of its records
--     section_stops, section_goes_on     a section whose count is refused; one whose count is read, by its numbers
--     after_last, at_last            a token after the last section, and none
--     stops_at_count, stops_at_hull, stops_at_grid, stops_at_items, stops_at_tanks, stops_at_end      a file is refused where one of its steps is
--     hull_in_range                  n and m of a hull that was read
--     all_read                       what its steps read, where nothing follows them, is the file's
--     from_start                     a text is read from its first byte on
-- Assumes nothing.
use mathlib.Core.Path.{◌≡◌, refl, sym, ap, ap₂, ◌∙◌}
use mathlib.Core.List.{List, [], ◌∷◌, ◌++◌}
use Prim.Native.Nat.{ℕ, zero, suc, ◌+◌, ◌*◌, ◌%◌, ◌≤◌}
use native.Mathlib.Nat.{mul-suc, mul-zero, mod-add-mod, mod-eq_of_lt, mod_self, zero-mod, suc-add, zero-add, add-zero}
use native.Mathlib.Omega.{arith}
use lib.IntN.{ℤ}
use lib.ListN.{length, take, drop, get_or}
use lib.Seq.{take-length}
use Rattle.arithmetic.proofs.Parts.{drop_step}
use Rattle.ranges.specs.Fields.{Range, ◌to◌, most, range_of, particulars, half_breadth, item, tank}
use Rattle.ranges.specs.Outcome.{Outcome, answered, refused, and_then}
use Rattle.ranges.specs.Refusals.{token_after_end}
use Rattle.ranges.specs.Outside.{numbers_of}
use Rattle.ranges.specs.Reasons.{number_of}
use Rattle.ranges.specs.Sizes.{points_of, most_items, most_tanks}
use Rattle.ranges.specs.declared.Particulars.{Particulars}
use Rattle.ranges.specs.declared.refusal.Refusal.{Refusal}
use Rattle.offsets.specs.File.{Contents, records, section, complete, file_by, file}
use Rattle.offsets.specs.Reading.{Reading, count, numbers}
use Rattle.offsets.specs.Private.Steps.{FindsAt, Finds, ranges_from, tokens_at, reached, Step, count_by, particulars_by, section_by, front}
use Rattle.offsets.specs.Tokens.{Token, tokens}
use Rattle.offsets.specs.declared.reading.Cursor.{Cursor}
use Rattle.offsets.proofs.Particulars.{hull_fits}
use Rattle.offsets.specs.declared.tokens.Found.{Found}
use Rattle.numerals.specs.declared.reading.Numeral.{Numeral}
use Rattle.std.specs.Prelude.{Option, Some, None, Result, Ok, Err}

module _ (fields : List Range) where
  -- ---- the ranges of whole records
  -- the fields go round: a whole record on, the same ranges
  ranges_same : (n i j : ℕ) → i % length fields ≡ j % length fields → ranges_from fields n i ≡ ranges_from fields n j
  unfolding ranges_from
  ranges_same zero i j e = refl
  ranges_same (suc n) i j e =
      let width = length fields in
      ap₂ ◌∷◌ (ap (λ k. get_or fields k (1 to 0)) e) (ranges_same n (i + 1) (j + 1) (sym (mod-add-mod i width 1) ∙ ap (λ k. (k + 1) % width) e ∙ mod-add-mod j width 1))

  ranges_more : (n k i : ℕ) → ranges_from fields (n + k) i ≡ ranges_from fields n i ++ ranges_from fields k (i + n)
  unfolding ranges_from
  ranges_more zero k i = rw (zero-add, add-zero)
  ranges_more (suc n) k i =
      let place : i + 1 + n ≡ i + suc n = omega arith in
      rw suc-add (ap (λ l. get_or fields (i % length fields) (1 to 0) ∷ l) (ranges_more n k (i + 1) ∙ ap (λ j. ranges_from fields n (i + 1) ++ ranges_from fields k j) place))

  -- within one record they are its fields
  ranges_within : (n i : ℕ) → i + n ≤ length fields → ranges_from fields n i ≡ take n (drop i fields)
  unfolding ranges_from
  ranges_within zero i h = refl
  ranges_within (suc n) i h =
      let here : i % length fields ≡ i = mod-eq_of_lt (omega arith) in
      rw (here, drop_step fields i (1 to 0) (omega arith)) (ap (λ l. get_or fields i (1 to 0) ∷ l) (ranges_within n (i + 1) (omega arith)))

  pub ranges_of_record : ranges_from fields (length fields) 0 ≡ fields
  ranges_of_record = ranges_within (length fields) 0 (omega arith) ∙ take-length fields

  pub ranges_of_records : (k : ℕ) → ranges_from fields (length fields * k) 0 ≡ records k fields
  unfolding records ranges_from
  ranges_of_records zero = rw mul-zero
  ranges_of_records (suc k) =
      let width = length fields in
      let again : ranges_from fields (width * k) (0 + width) ≡ ranges_from fields (width * k) 0 = ranges_same (width * k) (0 + width) 0 (rw zero-add (mod_self width ∙ sym (zero-mod width))) in
      let whole : width * suc k ≡ width + width * k = omega (arith, mul-suc width k) in
      rw whole (ranges_more width (width * k) 0 ∙ ap₂ ◌++◌ ranges_of_record (again ∙ ranges_of_records k))

  -- ---- a section
  module _ (len least most : ℕ) (ts : List Token) where
    pub section_stops : {why place : ℕ} → count len least most ts ≡ refused why place → section len least most fields ts ≡ refused why place
    unfolding section and_then
    section_stops e = rw e

    pub section_goes_on : {k : ℕ} {rest : List Token} → count len least most ts ≡ answered (k, rest)
        → (many : ℕ) → many ≡ length fields * k → {o : Outcome (List ℤ × List Token)} → numbers len (ranges_from fields many 0) rest ≡ o → section len least most fields ts ≡ o
    unfolding section and_then
    section_goes_on {k} {rest} counted many e read = rw counted (ap (λ ranges. numbers len ranges rest) (sym (ranges_of_records k) ∙ ap (λ n. ranges_from fields n 0) (sym e)) ∙ read)

-- ---- the end
pub after_last : (len : ℕ) (text : List ℕ) (ts : List Token) (found : Found) → Finds text ts (Some found) → (c : Contents) → complete len c ts ≡ refused token_after_end found.at
unfolding complete
after_last len text ts found h c = by_kind found.at found.number h
  where
    by_kind : (at : ℕ) (number : Option Numeral) → FindsAt text ts at number → complete len c ts ≡ refused token_after_end at
    by_kind at (Some n) e = rw e
    by_kind at None b = rw b.is

pub at_last : (len : ℕ) {ts : List Token} → ts ≡ [] → (c : Contents) → complete len c ts ≡ answered c
unfolding complete
at_last len e c = rw e

-- ---- the file
-- what a step reads, of a text that the steps before it left as it was
read_at : {A B : Type 0} {reading : ℕ → Reading B} {value : A → B} {was after : Cursor} {r : Result A Refusal} {text : List ℕ}
    → was.text.now ≡ text → Step reading value was after r → reading (length text) (tokens_at text was.next) ≡ reached text after.next value r
read_at e s = rw e at s.read

abbrev outcome_at : Cursor → Outcome Contents
outcome_at c = file (length c.text.now) (tokens_at c.text.now c.next)

-- its steps, one after another: a refusal of one is the file's
abbrev RefusedAt : Cursor → Refusal → Type 0
RefusedAt c r = outcome_at c ≡ refused (number_of r.reason) r.place

pub stops_at_count : {c₀ c₁ : Cursor} {r : Refusal} → Step (count_by (length particulars) (length particulars)) (λ k. k) c₀ c₁ (Err r) → RefusedAt c₀ r
unfolding file_by and_then
stops_at_count s = rw s.read

module _ {c₀ c₁ : Cursor} {five : ℕ} (s₁ : Step (count_by (length particulars) (length particulars)) (λ k. k) c₀ c₁ (Ok five)) where
  pub stops_at_hull : {c₂ : Cursor} {r : Refusal} → Step particulars_by numbers_of c₁ c₂ (Err r) → RefusedAt c₀ r
  unfolding file_by and_then
  stops_at_hull s = rw (s₁.read, read_at s₁.same_text s)

  module _ {c₂ : Cursor} {p : Particulars} (s₂ : Step particulars_by numbers_of c₁ c₂ (Ok p)) where
    same₂ : c₂.text.now ≡ c₀.text.now
    same₂ = s₂.same_text ∙ s₁.same_text

    pub hull_in_range : (p.n ≤ most (range_of 0)) × (p.m ≤ most (range_of 1))
    hull_in_range = hull_fits (length c₀.text.now) (tokens_at c₀.text.now c₁.next) p (read_at s₁.same_text s₂)

    pub stops_at_grid : (half_breadths : List ℤ) {c₃ : Cursor} {r : Refusal} → Step (section_by (points_of p.n p.m) (points_of p.n p.m) half_breadth) (front half_breadth half_breadths) c₂ c₃ (Err r) → RefusedAt c₀ r
    unfolding file_by and_then
    stops_at_grid half_breadths s = rw (s₁.read, read_at s₁.same_text s₂, read_at same₂ s)

    module _ (half_breadths : List ℤ) {c₃ : Cursor} {i : ℕ} (s₃ : Step (section_by (points_of p.n p.m) (points_of p.n p.m) half_breadth) (front half_breadth half_breadths) c₂ c₃ (Ok i)) where
      same₃ : c₃.text.now ≡ c₀.text.now
      same₃ = s₃.same_text ∙ same₂

      pub stops_at_items : (items : List ℤ) {c₄ : Cursor} {r : Refusal} → Step (section_by 0 most_items item) (front item items) c₃ c₄ (Err r) → RefusedAt c₀ r
      unfolding file_by and_then
      stops_at_items items s = rw (s₁.read, read_at s₁.same_text s₂, read_at same₂ s₃, read_at same₃ s)

      module _ (items : List ℤ) {c₄ : Cursor} {j : ℕ} (s₄ : Step (section_by 0 most_items item) (front item items) c₃ c₄ (Ok j)) where
        same₄ : c₄.text.now ≡ c₀.text.now
        same₄ = s₄.same_text ∙ same₃

        pub stops_at_tanks : (tanks : List ℤ) {c₅ : Cursor} {r : Refusal} → Step (section_by 0 most_tanks tank) (front tank tanks) c₄ c₅ (Err r) → RefusedAt c₀ r
        unfolding file_by and_then
        stops_at_tanks tanks s = rw (s₁.read, read_at s₁.same_text s₂, read_at same₂ s₃, read_at same₃ s₄, read_at same₄ s)

        module _ (tanks : List ℤ) {c₅ : Cursor} {k : ℕ} (s₅ : Step (section_by 0 most_tanks tank) (front tank tanks) c₄ c₅ (Ok k)) where
          abbrev contents : Contents
          contents = record { hull = numbers_of p; half_breadths = front half_breadth half_breadths i; items = front item items j; tanks = front tank tanks k }

          sections_read : outcome_at c₀ ≡ complete (length c₀.text.now) contents (tokens_at c₀.text.now c₅.next)
          unfolding file_by and_then
          sections_read = rw (s₁.read, read_at s₁.same_text s₂, read_at same₂ s₃, read_at same₃ s₄, read_at same₄ s₅)

          same₅ : c₅.text.now ≡ c₀.text.now
          same₅ = s₅.same_text ∙ same₄

          pub stops_at_end : (r : Refusal) → ((c : Contents) → complete (length c₅.text.now) c (tokens_at c₅.text.now c₅.next) ≡ refused (number_of r.reason) r.place) → RefusedAt c₀ r
          stops_at_end r f = sections_read ∙ rw same₅ at (f contents)

          pub all_read : ((c : Contents) → complete (length c₅.text.now) c (tokens_at c₅.text.now c₅.next) ≡ answered c) → outcome_at c₀ ≡ answered contents
          all_read f = sections_read ∙ rw same₅ at (f contents)

-- a text is read from its first byte on
pub from_start : (text : List ℕ) → file (length text) (tokens text) ≡ file (length text) (tokens_at text 0)
unfolding tokens_at
from_start text = refl
