-- A minus goes into the first place, and the digits after it, or over it where there is none. Assumes nothing.
use native.Mathlib.Omega.{arith}
use Rattle.numerals.proofs.Prints.{Spelled, spelled, prints_short, prints_fits}
use Rattle.numerals.proofs.printing.print_signed.Goals as goal
use Rattle.numerals.proofs.printing.print_signed.Goals.{After-decimal-count}

written : (c : After-decimal-count) → Spelled c.args.n c.decimal-count.result c.decimal-count.new.out
written c = let e = c.decimal-count.ensures in spelled _ _ _ e.in_bounds e.len e.digits

pub returns-then-room-length : goal.returns-then-room-length
returns-then-room-length c =
    rw c.from-start.ensures
    (prints_short _ _ c.requires _ (written (goal.at.returns-then-room-length c).After-decimal-count) (omega arith))

pub returns : goal.returns
returns c =
    rw c.from-start.ensures
    (prints_fits _ _ c.requires _ (written (goal.at.returns c).After-decimal-count) _ (omega arith) c.copy_from_slice.ensures.after)
