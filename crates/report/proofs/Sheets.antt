-- The sheet, from the outcomes of reader, rows and condition.
--     load_refused, load_laden      the R lines and the E line, or the C line
--     hull_refused                  the E line of the rows
--     Made, made_rows               what the rows left: the whole rows, in front of the table
--     hull_made                     so that the lines follow
--     file_refused                  the E line of the reader
--     Whole_read, sheet_read        what the reader left: the file's numbers, in front of the tables
--     file_read                     so that the lines follow
--     with_refusal                  what stands before the E line, and that line
--     report_short, report_fits     the lines in the lent room
--     report_straight               the same, put straight into room for any sheet
--     lines_within, never_short     so many bytes of the room hold them; room for the longest sheet is never too short
-- Assumes nothing.
use Prim.Native.Nat.{ℕ, ◌*◌, ◌/◌, ◌≤◌, ◌<◌}
use mathlib.Core.Path.{◌≡◌, refl, sym, ap, ◌∙◌}
use mathlib.Core.List.{List, [], ◌++◌, map}
use native.Mathlib.Omega.{arith}
use borrow.Author.Tests.{lt-ltb, le-ltb, ltb-false}
use lib.IntN.{ℤ, nat_abs}
use lib.ListN.{length, take, drop}
use lib.Seq.{take_at}
use Rattle.std.specs.Prelude.{Result, Ok, Err}
use Rattle.arithmetic.proofs.Choice.{chosen}
use Rattle.arithmetic.proofs.Room.{laid_fits, laid_short}
use Rattle.hydrostatics.specs.Promise.{MakesRows, table_after, row_count}
use Rattle.hydrostatics.specs.Rows.{rows_of}
use Rattle.hydrostatics.proofs.Passed.{counted}
use Rattle.hydrostatics.proofs.Usable.{Served, served}
use Rattle.loading.specs.Condition.{condition_by}
use Rattle.loading.specs.declared.Condition.{Condition}
use Rattle.loading.specs.declared.Reading.{Reading}
use Rattle.numerals.specs.Pieces.{InFront}
use Rattle.numerals.specs.declared.lines.Lines.{Lines}
use Rattle.numerals.proofs.Pieces.{puts_none}
use Rattle.offsets.specs.File.{Contents}
use Rattle.offsets.specs.Reader.{Reads, reader_of, summary_of}
use Rattle.offsets.specs.declared.Summary.{Summary}
use Rattle.offsets.proofs.WasRead.{half_breadths_read, items_read, tanks_read, contents_read}
use Rattle.offsets.proofs.Sound.{hull_most, points_le}
use Rattle.ranges.specs.Fields.{most, range_of}
use Rattle.ranges.specs.Outcome.{answered, left_with}
use Rattle.ranges.specs.Reasons.{number_of, paper}
use Rattle.ranges.specs.Refusals.{room_too_short}
use Rattle.ranges.specs.Sizes.{points_of, rows_over, row_width, most_rows, most_items, most_tanks, room_for_half_breadths, room_for_items, room_for_tanks, room_for_rows}
use Rattle.ranges.specs.declared.Particulars.{Particulars}
use Rattle.ranges.specs.declared.refusal.Reason.TheVariants.{RoomTooShort}
use Rattle.ranges.specs.declared.refusal.Refusal.{Refusal}
use Rattle.ranges.proofs.Outcomes.{answer_same, not_refused, with_refused, paper_ok}
use Rattle.report.specs.Lines.{condition_line, refusal_line}
use Rattle.report.specs.Promise.{report_by, Reports}
use Rattle.report.specs.Private.Putting.{PutsFew, BeforeRefusal, longest_sheet, most_condition_line, most_line}
use Rattle.report.specs.Sheet.{row_lines, condition_said, rows_said, file_said, sheet_by}
use Rattle.report.proofs.Pieces.{puts_both, few_le}

-- a refusal before any line
none_before : {sheet : List ℕ} (r : Refusal) (l : Lines) → sheet ≡ refusal_line (number_of r.reason) r.place → BeforeRefusal sheet l l r
none_before r l e = record { lines = []; put = record { few = omega arith; puts = puts_none l }; sheet_is = e }

-- what stands before the E line, and that line
pub with_refusal : {sheet : List ℕ} {was mid is : Lines} {r : Refusal} → BeforeRefusal sheet was mid r → PutsFew (most_line 2) (refusal_line (number_of r.reason) r.place) mid is → PutsFew longest_sheet sheet was is
with_refusal so line = rw so.sheet_is (few_le (puts_both so.put line) longest_sheet (omega arith))

-- ---- the condition
module _ (reading : Reading) (rows : List ℕ) (items tanks : List ℤ) {was mid : Lines}
    (few : length rows / row_width ≤ most_rows)
    (lines : PutsFew (most_line row_width * (length rows / row_width)) (row_lines rows 0 (length rows / row_width)) was mid)
    {answer : Result Condition Refusal}
    (is : paper answer ≡ condition_by reading items tanks rows) where
  pub load_refused : (r : Refusal) → answer ≡ Err r → BeforeRefusal (row_lines rows 0 (length rows / row_width) ++ condition_said (condition_by reading items tanks rows)) was mid r
  unfolding condition_said
  load_refused r e = record {
    lines = row_lines rows 0 (length rows / row_width);
    put = few_le lines (most_line row_width * most_rows) (omega arith);
    sheet_is = rw (sym is ∙ ap paper e) refl;
  }

  pub load_laden : (c : Condition) {end : Lines} → answer ≡ Ok c → PutsFew most_condition_line (condition_line c) mid end → PutsFew longest_sheet (row_lines rows 0 (length rows / row_width) ++ condition_said (condition_by reading items tanks rows)) was end
  unfolding condition_said
  load_laden c e line =
      rw (sym is ∙ ap paper e) (few_le (puts_both lines line) longest_sheet (omega arith))

-- ---- the rows
-- so many whole rows stand in front of a table
pub record Made (table : List ℕ) (p : Particulars) (after : List ℕ) (count : ℕ) : Type 0 where
  pub is : rows_of table p room_for_rows ≡ answered (take (row_width * count) after)
  pub whole : length (take (row_width * count) after) ≡ row_width * count
  pub most : count ≤ most_rows

module _ {table : List ℕ} {p : Particulars} {rows after : List ℕ} {answer : Result ℕ Refusal} (long : length rows ≡ room_for_rows) (makes : MakesRows table p rows after answer) where
  pub hull_refused : (reading : Reading) (items tanks : List ℤ) (r : Refusal) (l : Lines) → answer ≡ Err r → BeforeRefusal (rows_said reading items tanks (rows_of table p room_for_rows)) l l r
  unfolding rows_said
  hull_refused reading items tanks r l e =
      let so = with_refused row_count (rows_of table p (length rows)) (sym makes.answer_is ∙ ap paper e) in
      none_before r l (rw (ap (rows_of table p) (sym long) ∙ so) refl)

  pub made_rows : {count : ℕ} → answer ≡ Ok count → Made table p after count
  unfolding left_with
  made_rows {count} e =
      counted (rows_of table p (length rows)) (sym (ap paper e) ∙ makes.answer_is) (λ numbers so count_is.
      let good : Served numbers (rows_over p.m) = served table p (length rows) so in
      let same : count ≡ rows_over p.m = count_is ∙ ap (λ n. n / row_width) good.long ∙ omega arith in
      let size : length numbers ≡ row_width * count = good.long ∙ ap (λ n. row_width * n) (sym same) in
      let front : take (row_width * count) after ≡ numbers =
      ap (take (row_width * count)) (makes.left ∙ ap (λ o. table_after o rows) so) ∙ take_at numbers (drop (length numbers) rows) (row_width * count) size in
      record {
        is = ap (rows_of table p) (sym long) ∙ so ∙ ap answered (sym front);
        whole = ap length front ∙ size;
        most = omega (arith, good.most, same);
      })

module _ {table : List ℕ} {p : Particulars} {after : List ℕ} {count : ℕ} (made : Made table p after count) where
  pub rows_few : length (take (row_width * count) after) / row_width ≤ most_rows
  rows_few = omega (arith, made.whole, made.most)

  pub hull_made : (reading : Reading) (items tanks : List ℤ) → rows_said reading items tanks (rows_of table p room_for_rows)
      ≡ row_lines (take (row_width * count) after) 0 (length (take (row_width * count) after) / row_width) ++ condition_said (condition_by reading items tanks (take (row_width * count) after))
  unfolding rows_said
  hull_made reading items tanks = rw made.is refl

-- ---- the file
-- the numbers of a whole file stand in front of three tables
pub record Whole_read (text h : List ℕ) (i t : List ℤ) (s : Summary) : Type 0 where
  pub contents : Contents
  pub is : reader_of text room_for_half_breadths room_for_items room_for_tanks ≡ answered contents
  pub summary_is : s ≡ summary_of contents
  pub n_most : s.particulars.n ≤ most (range_of 0)
  pub m_most : s.particulars.m ≤ most (range_of 1)
  pub grid_most : points_of s.particulars.n s.particulars.m ≤ room_for_half_breadths
  pub items_most : s.items ≤ most_items
  pub tanks_most : s.tanks ≤ most_tanks
  pub grid_front : half_breadths_read s h ≡ map nat_abs contents.half_breadths
  pub items_front : items_read s i ≡ contents.items
  pub tanks_front : tanks_read s t ≡ contents.tanks

module _ {text h₀ h : List ℕ} {i₀ i t₀ t : List ℤ} {answer : Result Summary Refusal}
    (halves : length h₀ ≡ room_for_half_breadths) (items : length i₀ ≡ room_for_items) (tanks : length t₀ ≡ room_for_tanks)
    (reads : Reads text h₀ h i₀ i t₀ t answer) where
  read_is : reader_of text (length h₀) (length i₀) (length t₀) ≡ reader_of text room_for_half_breadths room_for_items room_for_tanks
  read_is = rw (halves, items, tanks)

  pub file_refused : (reading : Reading) (r : Refusal) (l : Lines) → answer ≡ Err r → BeforeRefusal (sheet_by reading text) l l r
  unfolding sheet_by file_said
  file_refused reading r l e =
      let so = with_refused summary_of (reader_of text (length h₀) (length i₀) (length t₀)) (sym reads.answer_is ∙ ap paper e) in
      none_before r l (rw (sym read_is ∙ so) refl)

  pub sheet_read : {s : Summary} → answer ≡ Ok s → Whole_read text h i t s
  sheet_read {s} e =
      let x = contents_read (rw e at reads) in
      let most = hull_most x.sound.hull in
      rw x.summary_is
      (record {
        contents = x.contents;
        is = sym read_is ∙ x.read;
        summary_is = refl;
        n_most = most.0;
        m_most = most.1;
        grid_most = points_le x.sound.hull;
        items_most = x.sound.few_items;
        tanks_most = x.sound.few_tanks;
        grid_front = x.half_breadths_are;
        items_front = x.items_are;
        tanks_front = x.tanks_are;
      })

-- so that the lines follow
pub file_read : {text h : List ℕ} {i t : List ℤ} {s : Summary} (reading : Reading) → Whole_read text h i t s
    → sheet_by reading text ≡ rows_said reading (items_read s i) (tanks_read s t) (rows_of (half_breadths_read s h) s.particulars room_for_rows)
unfolding sheet_by file_said
file_read reading w = rw w.is (rw (w.items_front, w.tanks_front, w.grid_front, w.summary_is) refl)

-- ---- the lent room
module _ (reading : Reading) (text : List ℕ) where
  -- the lines were put straight into the room
  pub report_straight : {room left : List ℕ} {n : ℕ} → InFront (sheet_by reading text) room left n → length (sheet_by reading text) ≤ length room → Reports reading text room left (Ok n)
  unfolding report_by
  report_straight {room} put fits = record {
    answer_is = rw put.count_is (simp (le-ltb (length room) (length (sheet_by reading text)) fits, chosen));
    left = put.left ∙ sym (laid_fits (sheet_by reading text) room fits);
  }

  module _ {lines after : List ℕ} {n : ℕ} (put : InFront (sheet_by reading text) lines after n) where
    pub report_short : {room : List ℕ} {r : Refusal} → length room < n → r ≡ record { reason = RoomTooShort; place = n } → Reports reading text room room (Err r)
    unfolding report_by
    report_short {room} h e =
        let short : length room < length (sheet_by reading text) = omega (arith, put.count_is) in
        record {
          answer_is = rw (e, put.count_is) (simp (lt-ltb (length room) (length (sheet_by reading text)) short, chosen));
          left = sym (laid_short (sheet_by reading text) room short);
        }

    -- where they stand in front of an array
    in_array : take n after ≡ sheet_by reading text
    in_array = rw put.left (take_at (sheet_by reading text) (drop (length (sheet_by reading text)) lines) n (sym put.count_is))

    -- the lines were copied into the room
    pub report_fits : {room left : List ℕ} → n ≤ length room → left ≡ take n after ++ drop n room → Reports reading text room left (Ok n)
    report_fits h e = report_straight (record { count_is = put.count_is; left = e ∙ rw (in_array, put.count_is) refl }) (omega (arith, put.count_is))

-- the lines lie in the room that they were put into
pub lines_within : {reading : Reading} {text room left : List ℕ} {n : ℕ} → Reports reading text room left (Ok n) → n ≤ length room
unfolding report_by
lines_within {reading} {text} {room} reports =
    let fits = not_refused room_too_short (length (sheet_by reading text)) (sym reports.answer_is) in
    let same : length (sheet_by reading text) ≡ _ = answer_same fits.1 in
    omega (arith, ltb-false (length room) (length (sheet_by reading text)) fits.0, same)

-- and room for the longest sheet is never too short
pub never_short : {reading : Reading} {text room left : List ℕ} {answer : Result ℕ Refusal} → Reports reading text room left answer → length (sheet_by reading text) ≤ length room → answer ≡ Ok (length (sheet_by reading text))
unfolding report_by
never_short {reading} {text} {room} reports h =
    paper_ok (reports.answer_is ∙ simp (le-ltb (length room) (length (sheet_by reading text)) h, chosen))
