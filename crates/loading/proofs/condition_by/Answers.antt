-- The paper's order: the sizes, the rows, the items, and then what `loaded` says. Assumes nothing.
use mathlib.Core.Path.{◌≡◌, refl, sym, ◌∙◌}
use mathlib.Core.Bool.{true}
use mathlib.Core.List.{List}
use Prim.Native.Nat.{ℕ}
use lib.IntN.{ℤ}
use lib.ListN.{length}
use Rattle.std.specs.Prelude.{Result}
use Rattle.std.proofs.lemmas.Result.{err_from_is_err_and}
use Rattle.ranges.specs.Outcome.{answered}
use Rattle.ranges.specs.Reasons.{paper}
use Rattle.ranges.specs.Sizes.{whole_records, item_width, tank_width, most_items, most_tanks}
use Rattle.ranges.specs.declared.refusal.Refusal.{Refusal}
use Rattle.loading.specs.Condition.{condition_by}
use Rattle.loading.specs.Private.Afloat.{rows_tried}
use Rattle.loading.specs.Promise.{MakesCondition}
use Rattle.loading.specs.declared.Condition.{Condition}
use Rattle.loading.specs.declared.Reading.{Reading}
use Rattle.loading.proofs.Itemised.{items_few, items_fitting, ranges_kept}
use Rattle.loading.proofs.Order.{tanks_are_whole, wrong_items, wrong_tanks, bad_rows, bad_item, after_all}
use Rattle.loading.proofs.Trying.{lent_answered}
use Rattle.loading.proofs.condition_by.Goals as goal
use Rattle.loading.proofs.condition_by.Goals.{Else-not-items_fit, Else-not-tanks_fit, In_ok-rows}

items_whole : (c : Else-not-items_fit) → whole_records item_width most_items (length c.args.items.now) ≡ true
items_whole c = sym c.items_fit.ensures ∙ c.if-not-items_fit.false

tanks_whole : (c : Else-not-tanks_fit) → whole_records tank_width most_tanks (length c.args.tanks.now) ≡ true
tanks_whole c = sym c.tanks_fit.ensures ∙ c.if-not-tanks_fit.false

-- the rows are usable
good : (c : In_ok-rows) → rows_tried c.args.rows.now ≡ answered c.args.rows.now
good c = rw c.in_ok-rows.ensures at (lent_answered c.in_ok-rows.rows.numbers.now c.in_ok-rows.rows.usable)

-- the two limits are those of the condition's own record
promised : {reading : Reading} {items tanks : List ℤ} {rows : List ℕ} {answer : Result Condition Refusal} → paper answer ≡ condition_by reading items tanks rows → MakesCondition reading 150 1_763 items tanks rows answer
promised e = record { least_gm_is = refl; heel_limit_is = refl; answer_is = e }

pub returns-then-not-items_fit : goal.returns-then-not-items_fit
returns-then-not-items_fit c =
    let s = c.args in
    promised (rw c.at.ensures (sym (wrong_items s.reading s.items.now s.tanks.now s.rows.now (sym c.items_fit.ensures ∙ c.if-not-items_fit.true))))

pub returns-then-not-tanks_fit : goal.returns-then-not-tanks_fit
returns-then-not-tanks_fit c =
    let s = c.args in
    promised (rw c.at-then-not-tanks_fit.ensures (sym (wrong_tanks s.reading s.items.now s.tanks.now s.rows.now (items_whole (goal.at.returns-then-not-tanks_fit c).Else-not-items_fit) (sym c.tanks_fit.ensures ∙ c.if-not-tanks_fit.true))))

pub returns-in_err-rows : goal.returns-in_err-rows
returns-in_err-rows c =
    let s = c.args in
    let p = err_from_is_err_and c.from_residual.result c.from_residual.ensures.1 in
    promised (rw (p.1, p.2) (sym (bad_rows s.reading s.items.now s.tanks.now s.rows.now (items_whole (goal.at.returns-in_err-rows c).Else-not-items_fit) (tanks_whole (goal.at.returns-in_err-rows c).Else-not-tanks_fit) c.in_err-rows.ensures)))

pub try_ranges-requires : goal.try_ranges-requires
try_ranges-requires c = items_few _ (items_whole (goal.at.try_ranges-requires c).Else-not-items_fit)

pub returns-in_err-try_ranges : goal.returns-in_err-try_ranges
returns-in_err-try_ranges c =
    let s = c.args in
    let at = goal.at.returns-in_err-try_ranges c in
    let p = err_from_is_err_and c.from_residual-in_err-try_ranges.result c.from_residual-in_err-try_ranges.ensures.1 in
    promised (rw (p.1, p.2) (sym (bad_item s.reading s.items.now s.tanks.now s.rows.now (items_whole at.Else-not-items_fit) (tanks_whole at.Else-not-tanks_fit) (good at.In_ok-rows) c.in_err-try_ranges.ensures)))

pub loaded-requires : goal.loaded-requires
loaded-requires c =
    let s = c.args in
    let at = goal.at.loaded-requires c in
    (items_fitting s.items.now (items_whole at.Else-not-items_fit) (ranges_kept s.items.now c.in_ok-try_ranges.ensures), tanks_are_whole s.tanks.now (tanks_whole at.Else-not-tanks_fit))

pub returns : goal.returns
returns c =
    let s = c.args in
    let at = goal.at.returns c in
    promised (rw c.in_ok-rows.ensures at c.loaded.ensures ∙ sym (after_all s.reading s.items.now s.tanks.now s.rows.now (items_whole at.Else-not-items_fit) (tanks_whole at.Else-not-tanks_fit) (good at.In_ok-rows) c.in_ok-try_ranges.ensures))
