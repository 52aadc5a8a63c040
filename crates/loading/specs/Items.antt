-- What a table of items comes to by itself: the weight and moments, or the first refusal in the condition's own order.
use Rattle.std.specs.Prelude.{◌+◌, not, List, [], ltb, ℤ, length}
use Rattle.arithmetic.specs.Choice.{when◌then◌else◌}
use Rattle.ranges.specs.Fields.{item}
use Rattle.ranges.specs.Outcome.{Outcome, answered, refused}
use Rattle.ranges.specs.Outside.{first_outside}
use Rattle.ranges.specs.Refusals.{out_of_range, wrong_size, place_of_items, item_table}
use Rattle.ranges.specs.Sizes.{whole_records, item_width, most_items}
use Rattle.loading.specs.Load.{totals_of}
use Rattle.loading.specs.Records.{load_of}
use Rattle.loading.specs.declared.Totals.{Totals}

-- the totals of a load of these items and no tank
abbrev pub totals_of_items : List ℤ → Totals
totals_of_items items = totals_of (load_of items [])

unfoldable pub item_totals : List ℤ → Outcome Totals
item_totals items =
    let badItem = first_outside item items in
    when not (whole_records item_width most_items (length items)) then refused wrong_size item_table
    else when ltb badItem (length items) then refused out_of_range (place_of_items + badItem)
    else answered (totals_of_items items)
