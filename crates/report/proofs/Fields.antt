-- Fields and lines, one after another.
--     fields_none, fields_more      no field; one field more
--     rows_none, rows_more, rows_all      no R line; one R line more; all of them
--     few_line                      a letter, the fields and the line feed
--     mark_is                       the mark of a pass as the code's number
--     condition_line_is             the pieces of the C line
-- Assumes nothing.
use Prim.Native.Nat.{ℕ, zero, suc, ◌+◌, ◌*◌, ◌/◌, ◌≤◌, ◌<◌}
use mathlib.Core.Bool.{Bool, true, false}
use mathlib.Core.Path.{◌≡◌, refl, sym, ap, ◌∙◌}
use mathlib.Core.List.{List, [], ◌∷◌, ◌++◌, map, map-append, append_assoc, append-nil}
use native.Mathlib.Nat.{add-zero}
use native.Mathlib.Numerals.{add-one}
use native.Mathlib.Omega.{arith}
use lib.IntN.{ℤ, pos}
use lib.ListN.{length, take, drop, get_or, length-append, length-drop}
use lib.Seq.{take-length, take_at, drop_at, drop-drop}
use mir.Val.{bool_byte}
use Rattle.arithmetic.proofs.Parts.{take_step}
use Rattle.hydrostatics.specs.Row.{numbers_of}
use Rattle.hydrostatics.specs.Usable.{row_in}
use Rattle.hydrostatics.proofs.Reading.{seven_are}
use Rattle.loading.specs.declared.Condition.{Condition}
use Rattle.numerals.specs.Pieces.{Puts}
use Rattle.numerals.specs.declared.lines.Lines.{Lines}
use Rattle.numerals.proofs.Pieces.{puts_none}
use Rattle.offsets.specs.Tokens.{space, line_feed}
use Rattle.ranges.specs.Sizes.{row_width}
use Rattle.report.specs.Lines.{field, fields, row_letter, condition_letter, line_of, row_line, word, mark, condition_line}
use Rattle.report.specs.Private.Putting.{PutsFew, most_field, most_line}
use Rattle.report.specs.Sheet.{row_lines}
use Rattle.report.proofs.Pieces.{few_of, puts_both}

pub fields_append : (a b : List ℤ) → fields (a ++ b) ≡ fields a ++ fields b
unfolding fields
fields_append [] b = refl
fields_append (v ∷ a) b = ap (λ l. field v ++ l) (fields_append a b) ∙ sym (append_assoc (field v) (fields a) (fields b))

pub field_one : (v : ℤ) → fields (v ∷ []) ≡ field v
unfolding fields
field_one v = append-nil (field v)

pub fields_none : (l : Lines) → PutsFew 0 (fields []) l l
unfolding fields
fields_none l = record { few = omega arith; puts = puts_none l }

-- the fields of the numbers before place i, and of the number there
module _ {A : Type 0} (value : A → ℤ) (numbers : List A) (i : ℕ) {was now : Lines} where
  pub fields_more : {next : Lines} (x : A) → i < length numbers → x ≡ get_or numbers i x
      → PutsFew (most_field * i) (fields (map value (take i numbers))) was now
      → PutsFew most_field (field (value x)) now next
      → PutsFew (most_field * (i + 1)) (fields (map value (take (i + 1) numbers))) was next
  fields_more x h is p q =
      let step : fields (map value (take (i + 1) numbers)) ≡ fields (map value (take i numbers)) ++ field (value x) =
      rw (take_step numbers i x h, ← is, map-append, fields_append, field_one) refl in
      let count : most_field * (i + 1) ≡ most_field * i + most_field = omega arith in
      rw (step, count) (puts_both p q)

  pub fields_all : i ≡ length numbers → PutsFew (most_field * i) (fields (map value (take i numbers))) was now → PutsFew (most_field * length numbers) (fields (map value numbers)) was now
  fields_all e p = rw (e, take-length) at p

-- ---- whole lines
-- a letter, the fields, and the line feed
pub few_line : {most letter : ℕ} {said : List ℕ} {was start end is : Lines} → Puts (letter ∷ []) was start → PutsFew most said start end → Puts (line_feed ∷ []) end is → PutsFew (1 + most + 1) (line_of letter said) was is
few_line {letter = letter} {said = said} p q e = rw (append_assoc (letter ∷ []) said (line_feed ∷ [])) at (puts_both (puts_both (few_of p) q) (few_of e))

row_lines_from : (rows : List ℕ) (from count : ℕ) → row_lines rows from (suc count) ≡ row_lines rows from count ++ row_line (row_in rows (from + count))
unfolding row_lines
row_lines_from rows from zero = rw (append-nil, add-zero)
row_lines_from rows from (suc count) =
    let same : from + 1 + count ≡ from + suc count = omega arith in
    ap (λ l. row_line (row_in rows from) ++ l) (row_lines_from rows (from + 1) count)
    ∙ sym (append_assoc (row_line (row_in rows from)) (row_lines rows (from + 1) count) (row_line (row_in rows (from + 1 + count))))
    ∙ ap (λ k. (row_line (row_in rows from) ++ row_lines rows (from + 1) count) ++ row_line (row_in rows k)) same

row_lines_more : (rows : List ℕ) (count : ℕ) → row_lines rows 0 (count + 1) ≡ row_lines rows 0 count ++ row_line (row_in rows count)
row_lines_more rows count =
    ap (row_lines rows 0) (add-one count) ∙ row_lines_from rows 0 count ∙ ap (λ k. row_lines rows 0 count ++ row_line (row_in rows k)) (omega arith)

pub rows_none : (rows : List ℕ) (l : Lines) → PutsFew 0 (row_lines rows 0 0) l l
unfolding row_lines
rows_none rows l = record { few = omega arith; puts = puts_none l }

-- so many rows are put, and the rest of the table is left
pub record RowsPut (rows : List ℕ) (k : ℕ) (rest : List ℕ) (was now : Lines) : Type 0 where
  pub rest_is : rest ≡ drop (row_width * k) rows
  pub inside : row_width * k ≤ length rows
  pub put : PutsFew (most_line row_width * k) (row_lines rows 0 k) was now

pub rows_begin : (rows : List ℕ) (l : Lines) → RowsPut rows 0 rows l l
rows_begin rows l = record { rest_is = refl; inside = omega arith; put = rows_none rows l }

module _ {rows rest : List ℕ} {k : ℕ} {was now : Lines} (so : RowsPut rows k rest was now) where
  left : length rest + row_width * k ≡ length rows
  left = omega (arith, ap length so.rest_is, length-drop (row_width * k) rows, so.inside)

  module _ (front more : List ℕ) (e : rest ≡ front ++ more) (seven : length front ≡ row_width) where
    pub row_left : row_width * k + row_width ≤ length rows
    row_left = omega (arith, left, ap length e, length-append front more)

    row_is : front ≡ numbers_of (row_in rows k)
    row_is = sym (take_at front more row_width seven) ∙ ap (take row_width) (sym e ∙ so.rest_is) ∙ seven_are rows k row_left

    pub rows_more : {next : Lines} → PutsFew (most_line (length front)) (line_of row_letter (fields (map pos front))) now next → RowsPut rows (k + 1) more was next
    unfolding row_line
    rows_more line =
        let count : most_line row_width * (k + 1) ≡ most_line row_width * k + most_line row_width = omega arith in
        let on : row_width * (k + 1) ≡ row_width * k + row_width = omega arith in
        record {
          rest_is = sym (drop_at front more row_width seven) ∙ ap (drop row_width) (sym e ∙ so.rest_is) ∙ rw (drop-drop, on) refl;
          inside = omega (arith, row_left);
          put = rw (row_lines_more rows k, count) (puts_both so.put (rw row_is at line));
        }

  -- none is left
  pub rows_all : length rest < row_width → PutsFew (most_line row_width * (length rows / row_width)) (row_lines rows 0 (length rows / row_width)) was now
  rows_all few = let count : length rows / row_width ≡ k = omega (arith, left) in rw count so.put

-- ---- the C line
pub mark_is : (t : Bool) → mark t ≡ bool_byte t
mark_is true = refl
mark_is false = refl

regroup :
    (six two outcome passes : List ℕ)
    → ((((((condition_letter ∷ []) ++ six) ++ two) ++ (space ∷ [])) ++ outcome) ++ passes) ++ (line_feed ∷ []) ≡ line_of condition_letter (((six ++ two) ++ (space ∷ outcome)) ++ passes)
regroup six two outcome passes = simp append_assoc

module _ (c : Condition) where
  abbrev pub wholes : List ℤ
  wholes = pos c.weight ∷ pos c.draft ∷ pos c.km ∷ pos c.lcg ∷ pos c.vertical_moment ∷ pos c.free_surface ∷ []

  pub condition_line_is :
      ((((((condition_letter ∷ []) ++ fields wholes) ++ fields (c.gm ∷ c.transverse_moment ∷ [])) ++ (space ∷ [])) ++ word c.heel) ++ field (pos (bool_byte c.passes))) ++ (line_feed ∷ [])
      ≡ condition_line c
  unfolding condition_line
  condition_line_is =
      regroup (fields wholes) (fields (c.gm ∷ c.transverse_moment ∷ [])) (word c.heel) (field (pos (bool_byte c.passes)))
      ∙ rw (← fields_append, mark_is) refl
