-- The size, the ranges, and then the sums. Assumes nothing.
use mathlib.Core.Path.{◌≡◌, sym, ap, ◌∙◌}
use mathlib.Core.Bool.{true}
use lib.ListN.{length}
use Rattle.std.proofs.lemmas.Result.{err_from_is_err_and}
use Rattle.ranges.specs.Outcome.{answered}
use Rattle.ranges.specs.Sizes.{whole_records, item_width, most_items}
use Rattle.loading.proofs.Itemised.{items_few, items_fitting, ranges_kept, is_wrong_size, totals_refused, totals_made, totals_are}
use Rattle.loading.proofs.item_totals.Goals as goal
use Rattle.loading.proofs.item_totals.Goals.{Else-not-items_fit}

whole : (c : Else-not-items_fit) → whole_records item_width most_items (length c.args.items.now) ≡ true
whole c = sym c.items_fit.ensures ∙ c.if-not-items_fit.false

pub returns-then-not-items_fit : goal.returns-then-not-items_fit
returns-then-not-items_fit c = rw c.at.ensures (sym (is_wrong_size _ (sym c.items_fit.ensures ∙ c.if-not-items_fit.true)))

pub try_ranges-requires : goal.try_ranges-requires
try_ranges-requires c = items_few _ (whole (goal.at.try_ranges-requires c).Else-not-items_fit)

pub returns-in_err-try_ranges : goal.returns-in_err-try_ranges
returns-in_err-try_ranges c =
    let p = err_from_is_err_and c.from_residual.result c.from_residual.ensures.1 in
    rw (p.1, p.2) (sym (totals_refused c.args.items.now (whole (goal.at.returns-in_err-try_ranges c).Else-not-items_fit) c.in_err-try_ranges.ensures))

pub items_aboard-requires : goal.items_aboard-requires
items_aboard-requires c =
    let items = c.args.items.now in items_fitting items (whole (goal.at.items_aboard-requires c).Else-not-items_fit) (ranges_kept items c.in_ok-try_ranges.ensures)

pub returns : goal.returns
returns c =
    let items = c.args.items.now in
    ap answered (c.totals_of.ensures ∙ totals_are items c.items_aboard.ensures.is)
    ∙ sym (totals_made items (whole (goal.at.returns c).Else-not-items_fit) c.in_ok-try_ranges.ensures)
