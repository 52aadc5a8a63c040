-- Room for any text is never too short, so that the text can be put straight into it. Assumes nothing.
use native.Mathlib.Omega.{arith}
use Rattle.writer.proofs.Longest.{longest_is}
use Rattle.writer.proofs.RoundTrip.{length_of_passed}
use Rattle.writer.proofs.Writing.{writes_straight}
use Rattle.writer.proofs.file.File.write.Goals as goal

pub put_whole-requires : goal.put_whole-requires
put_whole-requires c = omega (arith, longest_is)

pub returns-then-room-ge-LONGEST_TEXT : goal.returns-then-room-ge-LONGEST_TEXT
returns-then-room-ge-LONGEST_TEXT c = writes_straight c.args.self.now.passes (omega (arith, longest_is, length_of_passed c.args.self.now.passes)) c.put_whole.ensures
