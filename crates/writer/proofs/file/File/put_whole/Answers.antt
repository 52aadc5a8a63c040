-- The text is never longer than the longest. Assumes nothing.
use mathlib.Core.Path.{ap}
use native.Mathlib.Omega.{arith}
use lib.ListN.{length}
use Rattle.writer.proofs.RoundTrip.{length_of_passed}
use Rattle.writer.proofs.file.File.put_whole.Goals as goal

pub put-requires : goal.put-requires
put-requires c = record { enough = omega (arith, c.requires, length_of_passed c.args.self.now.passes, ap length c.over-to.ensures.room) }
