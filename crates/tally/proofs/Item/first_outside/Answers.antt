-- Each number is read back from its bits. Assumes nothing.
use mathlib.Core.Path.{ap, ◌∙◌}
use Rattle.ranges.specs.Bounds.{place_in}
use Rattle.ranges.specs.Sizes.{item_width}
use Rattle.tally.specs.Tally.{table_of, outside}
use Rattle.tally.proofs.Listings.{held_told, back_item_same}
use Rattle.tally.proofs.Item.first_outside.Goals as goal

pub returns : goal.returns
unfolding table_of
returns c = c.first_outside.ensures ∙ ap (λ i. place_in item_width (outside i)) (back_item_same (held_told _ c.struct_told-1.given))
