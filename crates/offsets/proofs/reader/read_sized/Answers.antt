-- The file is read into room of the reader's own, and what it says is copied. Assumes nothing.
use Prim.Native.Nat.{◌*◌, ◌≤◌}
use mathlib.Core.Path.{◌≡◌, ap, ◌∙◌}
use mathlib.Core.List.{◌++◌}
use native.Mathlib.Omega.{arith}
use lib.ListN.{length, drop}
use lib.Seq.{length-take-le}
use Rattle.ranges.specs.Sizes.{points_of, item_width, tank_width}
use Rattle.std.proofs.lemmas.Result.{err_from_is_err_and}
use Rattle.offsets.specs.Private.Steps.{Rooms}
use Rattle.offsets.proofs.Sound.{points_most}
use Rattle.offsets.proofs.Answers.{file_refused, sheet}
use Rattle.offsets.proofs.reader.read_sized.Goals as goal
use Rattle.offsets.proofs.reader.read_sized.Goals.{After-parse}

-- the room that the file is read into has kept its length
rooms : (c : After-parse) → Rooms c.parse.new.half_breadths c.parse.new.items c.parse.new.tanks
rooms c =
    let k = c.parse.auto in record { half_breadth_room = omega (arith, k.half_breadths); item_room = omega (arith, k.items); tank_room = omega (arith, k.tanks) }

pub returns-in_err-summary : goal.returns-in_err-summary
returns-in_err-summary c =
    let p = err_from_is_err_and c.from_residual.result c.from_residual.ensures.1 in
    rw (p.1, p.2) (file_refused _ _ _ _ c.requires _ _ _ _ c.in_err-summary.ensures)

pub returns : goal.returns
returns c =
    let summary = c.in_ok-summary.summary in
    let read = c.in_ok-summary.ensures in
    let rooms = rooms (goal.at.returns c).After-parse in
    let points = points_of summary.particulars.n summary.particulars.m in
    let one : 1 * points ≡ points = omega arith in
    let fits : points ≤ length c.parse.new.half_breadths = omega (arith, points_most read.fits.0 read.fits.1, rooms.half_breadth_room) in
    sheet _ _ _ _ c.requires _ _ _ summary read rooms _ _ _
    (c.copy_sizes.ensures ∙ rw (c.points_of-points.ensures, length-take-le points c.parse.new.half_breadths fits, one))
    (ap (λ read. read ++ drop (item_width * summary.items) c.args.items.now) c.copy_from_slice.ensures.after)
    (ap (λ read. read ++ drop (tank_width * summary.tanks) c.args.tanks.now) c.copy_from_slice-2.ensures.after)
