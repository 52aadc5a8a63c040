-- What the writer refuses has one of the paper's numbers.
--     writer_numbered             the call's outcome
-- Assumes nothing.
use Prim.Native.Nat.{ℕ}
use mathlib.Core.List.{List}
use lib.IntN.{ℤ}
use Rattle.ranges.specs.Outcome.{Numbered}
use Rattle.ranges.specs.declared.Particulars.{Particulars}
use Rattle.ranges.proofs.Numbered.{numbered}
use Rattle.writer.specs.Writer.{writer_of, writer_by}

pub writer_numbered : (p : Particulars) (half_breadths : List ℕ) (items tanks : List ℤ) (room : ℕ) → Numbered (writer_of p half_breadths items tanks room)
unfolding writer_by
writer_numbered p half_breadths items tanks room = search numbered depth 12
