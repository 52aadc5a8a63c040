-- The text stands in front of the array, and is copied from there or refused for want of room. Assumes nothing.
use mathlib.Core.List.{◌++◌}
use mathlib.Core.Path.{ap}
use native.Mathlib.Omega.{arith}
use lib.ListN.{drop}
use Rattle.writer.proofs.Longest.{longest_is}
use Rattle.writer.proofs.Writing.{writes_short, writes_copied}
use Rattle.writer.proofs.file.File.write_apart.Goals as goal

pub put_whole-count-requires : goal.put_whole-count-requires
put_whole-count-requires c = omega (arith, longest_is)

pub returns-then-room-count : goal.returns-then-room-count
returns-then-room-count c = writes_short c.args.self.now.passes c.put_whole-count.ensures c.if-room-count.true c.at.ensures

pub returns : goal.returns
returns c = writes_copied c.args.self.now.passes c.put_whole-count.ensures c.if-room-count.false (ap (λ l. l ++ drop c.put_whole-count.result c.args.room.now) c.copy_from_slice.ensures.after)
