-- A whole file's numbers stand in front of the tables, and its rows in front of theirs; what is refused is left for the E line. Assumes nothing.
use native.Mathlib.Omega.{arith}
use mathlib.Core.Path.{refl, sym}
use lib.Seq.{length-take-le}
use Rattle.std.proofs.lemmas.Result.{err_from_is_err_and}
use Rattle.offsets.proofs.WasRead.{half_breadths_read}
use Rattle.report.proofs.Sheets.{Whole_read, Made, sheet_read, file_refused, file_read, made_rows, rows_few, hull_refused, hull_made, load_refused, load_laden}
use Rattle.report.proofs.sheet.put_file.Goals as goal
use Rattle.report.proofs.sheet.put_file.Goals.{In_ok-summary, In_ok-count}

told : (c : In_ok-summary) → Whole_read c.args.text.now c.read_file.new.half_breadths c.read_file.new.items c.read_file.new.tanks c.in_ok-summary.summary
told c = sheet_read refl refl refl c.read_file.ensures c.in_ok-summary.was

made : (c : In_ok-count) → Made (half_breadths_read c.in_ok-summary.summary c.read_file.new.half_breadths) c.in_ok-summary.summary.particulars c.make_rows.new.rows c.in_ok-count.count
made c = made_rows refl c.make_rows.ensures c.in_ok-count.was

pub returns-in_err-summary : goal.returns-in_err-summary
returns-in_err-summary c =
    let p = err_from_is_err_and c.from_residual.result c.from_residual.ensures.1 in
    rw (p.1, p.2) (file_refused refl refl refl c.read_file.ensures c.args.reading _ _ c.in_err-summary.was)

pub overflow_add-points : goal.overflow_add-points
overflow_add-points c = omega (arith, (told (goal.at.overflow_add-points c).In_ok-summary).n_most)

pub overflow_add-points-2 : goal.overflow_add-points-2
overflow_add-points-2 c = omega (arith, (told (goal.at.overflow_add-points-2 c).In_ok-summary).m_most)

pub overflow_mul-points : goal.overflow_mul-points
overflow_mul-points c = omega (arith, (told (goal.at.overflow_mul-points c).In_ok-summary).grid_most)

pub overflow_mul-item_numbers : goal.overflow_mul-item_numbers
overflow_mul-item_numbers c = omega (arith, (told (goal.at.overflow_mul-item_numbers c).In_ok-summary).items_most)

pub overflow_mul-tank_numbers : goal.overflow_mul-tank_numbers
overflow_mul-tank_numbers c = omega (arith, (told (goal.at.overflow_mul-tank_numbers c).In_ok-summary).tanks_most)

pub slice_bounds-half_breadths-end : goal.slice_bounds-half_breadths-end
slice_bounds-half_breadths-end c = omega (arith, (told (goal.at.slice_bounds-half_breadths-end c).In_ok-summary).grid_most)

pub slice_bounds-make_rows-end : goal.slice_bounds-make_rows-end
slice_bounds-make_rows-end c = sym (length-take-le _ _ (omega (arith, (told (goal.at.slice_bounds-make_rows-end c).In_ok-summary).grid_most)))

pub returns-in_err-count : goal.returns-in_err-count
returns-in_err-count c =
    let p = err_from_is_err_and c.from_residual-in_err-count.result c.from_residual-in_err-count.ensures.1 in
    let read = told (goal.at.returns-in_err-count c).In_ok-summary in
    rw (p.1, p.2, file_read c.args.reading read) (hull_refused refl c.make_rows.ensures c.args.reading _ _ _ _ c.in_err-count.was)

pub overflow_mul-rows : goal.overflow_mul-rows
overflow_mul-rows c = omega (arith, (made (goal.at.overflow_mul-rows c).In_ok-count).most)

pub slice_bounds-rows-end : goal.slice_bounds-rows-end
slice_bounds-rows-end c = omega (arith, (made (goal.at.slice_bounds-rows-end c).In_ok-count).most)

pub slice_bounds-made-end : goal.slice_bounds-made-end
slice_bounds-made-end c = sym (made (goal.at.slice_bounds-made-end c).In_ok-count).whole

pub slice_bounds-items-end : goal.slice_bounds-items-end
slice_bounds-items-end c = omega (arith, (told (goal.at.slice_bounds-items-end c).In_ok-summary).items_most)

pub slice_bounds-condition_by-end : goal.slice_bounds-condition_by-end
slice_bounds-condition_by-end c = sym (length-take-le _ _ (omega (arith, (told (goal.at.slice_bounds-condition_by-end c).In_ok-summary).items_most)))

pub slice_bounds-tanks-end : goal.slice_bounds-tanks-end
slice_bounds-tanks-end c = omega (arith, (told (goal.at.slice_bounds-tanks-end c).In_ok-summary).tanks_most)

pub slice_bounds-condition_by-end-2 : goal.slice_bounds-condition_by-end-2
slice_bounds-condition_by-end-2 c = sym (length-take-le _ _ (omega (arith, (told (goal.at.slice_bounds-condition_by-end-2 c).In_ok-summary).tanks_most)))

pub returns-in_err-condition : goal.returns-in_err-condition
returns-in_err-condition c =
    let p = err_from_is_err_and c.from_residual-in_err-condition.result c.from_residual-in_err-condition.ensures.1 in
    let read = told (goal.at.returns-in_err-condition c).In_ok-summary in
    let rows = made (goal.at.returns-in_err-condition c).In_ok-count in
    rw (p.1, p.2, file_read c.args.reading read, hull_made rows c.args.reading)
    (load_refused c.args.reading _ _ _ (rows_few rows) c.put_rows.ensures c.condition_by.ensures.answer_is _ c.in_err-condition.was)

pub returns : goal.returns
returns c =
    let read = told (goal.at.returns c).In_ok-summary in
    let rows = made (goal.at.returns c).In_ok-count in
    rw (file_read c.args.reading read, hull_made rows c.args.reading)
    (load_laden c.args.reading _ _ _ (rows_few rows) c.put_rows.ensures c.condition_by.ensures.answer_is _ c.in_ok-condition.was c.put_condition.ensures)
