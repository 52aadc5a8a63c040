-- The walk, item by item. Assumes nothing.
use Prim.Native.Nat.{◌*◌}
use lib.ListN.{drop}
use Rattle.ranges.specs.Sizes.{item_width}
use Rattle.loading.proofs.Stowage.{AtItem}
use Rattle.loading.proofs.items.items_aboard.Given as goal

abbrev pub invariant-loop-numbers : goal.invariant-loop-numbers
invariant-loop-numbers l = AtItem l.items (drop (item_width * l.numbers-index) l.items) l.all
