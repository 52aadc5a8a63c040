-- The paper's order of refusals, step by step.
--     is_too_light, is_too_heavy, within_table, floats_there      what is aboard against the rows
--     after_refused, after_passed                           the tanks before that
--     Sized, rows_whole, tanks_are_whole                    the sizes of the lent tables that are right;
--     wrong_items, wrong_tanks, bad_rows                    those that are not, and the rows;
--     bad_item, after_all                                   the items
-- Assumes nothing.
use mathlib.Core.Path.{◌≡◌, sym, ap, ap₂, ◌∙◌}
use mathlib.Core.Bool.{true, false, not}
use mathlib.Core.List.{List}
use Prim.Native.Nat.{ℕ, ◌+◌, ◌-◌, ◌≤◌, ◌<◌}
use native.Mathlib.Omega.{arith}
use borrow.Author.Tests.{lt-ltb, le-ltb}
use lib.Dec.{ltb}
use lib.IntN.{ℤ}
use lib.ListN.{length}
use Rattle.std.specs.Prelude.{Ok, Err}
use Rattle.arithmetic.specs.Choice.{when◌then◌else◌}
use Rattle.arithmetic.proofs.Choice.{chosen}
use Rattle.hydrostatics.specs.Usable.{row_in, usable_up_to}
use Rattle.ranges.specs.Fields.{item}
use Rattle.ranges.specs.Outcome.{Outcome, answered, refused, and_then}
use Rattle.ranges.specs.Outside.{first_outside}
use Rattle.ranges.specs.Refusals.{out_of_range, wrong_size, too_light, too_heavy, place_of_items, item_table, tank_table, row_table}
use Rattle.ranges.specs.Reasons.{number_of}
use Rattle.ranges.specs.declared.refusal.Refusal.{Refusal}
use Rattle.ranges.proofs.Facts.{records_are}
use Rattle.ranges.proofs.Outcomes.{refused_not, answered_then, then_assoc}
use Rattle.loading.specs.Private.Aboard.{◌with◌, of_item, of_tank, altogether, aboard_of, tanks_aboard, items_tried, TanksWhole, TanksTried}
use Rattle.loading.specs.Private.Afloat.{count_of, rows_tried, Floats, RowsWhole, Within}
use Rattle.loading.specs.Condition.{tanks_from, floats, rows_allowed, condition_by}
use Rattle.ranges.specs.Sizes.{whole_records, item_width, tank_width, most_items, most_tanks}
use Rattle.loading.specs.Load.{Load, weight}
use Rattle.loading.specs.Paper.{paper_rules}
use Rattle.loading.specs.Records.{items_of, tanks_of, load_of}
use Rattle.loading.specs.Stability.{km_at}
use Rattle.loading.specs.Private.Steady.{condition_with, floats_with, after_items}
use Rattle.loading.specs.Table.{Table, hull, last_row, draft_of}
use Rattle.loading.specs.declared.Aboard.{Aboard}
use Rattle.loading.specs.declared.Condition.{Condition}
use Rattle.loading.specs.declared.Reading.{Reading}
use Rattle.loading.specs.declared.floating.Floating.{Floating}
use Rattle.loading.proofs.Itemised.{refused_then}
use Rattle.loading.proofs.Moments.{weight_is, condition_is}
use Rattle.loading.proofs.Tables.{last_row_of_table}
use Rattle.loading.proofs.Trying.{lent_whole}

-- ---- what is aboard against the rows, whose first and last displacements are these
module _ (rows : List ℕ) (some : 0 < count_of rows) (a : Aboard) {first last : ℕ} (f : first ≡ (row_in rows 0).displacement) (l : last ≡ (row_in rows (count_of rows - 1)).displacement) where
  abbrev t : Table
  t = hull rows

  last_is : last ≡ (last_row (hull rows)).displacement
  last_is = l ∙ ap (λ r. r.displacement) (sym (last_row_of_table rows (count_of rows) some))

  pub is_too_light : (reading : Reading) → a.weight < first → floats_with reading (hull rows) a ≡ refused too_light 0
  unfolding floats_with
  is_too_light reading h = simp (lt-ltb a.weight t.first.displacement (omega (arith, f)), chosen)

  module _ (low : first ≤ a.weight) where
    not_light : ltb a.weight t.first.displacement ≡ false
    not_light = le-ltb a.weight t.first.displacement (omega (arith, f))

    pub is_too_heavy : (reading : Reading) → last < a.weight → floats_with reading (hull rows) a ≡ refused too_heavy 0
    unfolding floats_with
    is_too_heavy reading h = simp (not_light, lt-ltb (last_row t).displacement a.weight (omega (arith, last_is)), chosen)

    module _ (high : a.weight ≤ last) where
      pub within_table : Within (hull rows) a.weight
      within_table = record { least = omega (arith, f); most = omega (arith, last_is) }

      pub floats_there : {reading : Reading} {c : Condition} {at : Floating} → Floats reading rows a.weight at → c ≡ condition_with a at.draft at.km → answered c ≡ floats_with reading (hull rows) a
      unfolding floats_with
      floats_there g e =
          ap answered (e ∙ ap₂ (condition_with a) g.draft g.km)
          ∙ sym (simp (not_light, le-ltb (last_row t).displacement a.weight within_table.most, chosen))

floats_is : (reading : Reading) (t : Table) (l : Load) → floats_with reading t (aboard_of l) ≡ floats reading t l
unfolding floats_with floats
floats_is reading t l =
    let of : ℕ → Condition → Outcome Condition = λ W c. when ltb W t.first.displacement then refused too_light 0 else when ltb (last_row t).displacement W then refused too_heavy 0 else answered c in
    ap (λ W. of W (condition_with (aboard_of l) (draft_of t W) (km_at (paper_rules reading) t W))) (weight_is l)
    ∙ ap (of (weight l)) (condition_is l reading t)

-- ---- the tanks before that
module _ (reading : Reading) (items tanks : List ℤ) (t : Table) where
  refused_first : {A B C : Type 0} (o : Outcome A) (b : B) (next : A → Outcome C) (n p : ℕ) → and_then o (λ a. answered b) ≡ refused n p → and_then o next ≡ refused n p
  unfolding and_then
  refused_first (answered a) b next n p e = refused_not (sym e)
  refused_first (refused m q) b next n p e = cc

  pub after_refused : {refusal : Refusal} → TanksTried tanks (Err refusal) → refused (number_of refusal.reason) refusal.place ≡ after_items reading items tanks t
  unfolding after_items tanks_aboard
  after_refused {refusal} tried =
      sym (refused_first (tanks_from 0 tanks) _ (λ last. floats reading t (load_of items tanks)) (number_of refusal.reason) refusal.place (sym tried.is))

  pub after_passed : {a b : Aboard} → TanksTried tanks (Ok b) → a ≡ altogether of_item (items_of items) → floats_with reading t (a with b) ≡ after_items reading items tanks t
  unfolding after_items tanks_aboard and_then
  after_passed {a} {b} tried f =
      let trial = answered_then {o = tanks_from 0 tanks} (sym tried.is) in
      let same : altogether of_tank (tanks_of tanks) ≡ b = cc trial.2 in
      ap (λ c. floats_with reading t c) (ap₂ ◌with◌ f (sym same)) ∙ floats_is reading t (load_of items tanks) ∙ sym (rw trial.1)

-- ---- the tests in their order
-- the sizes of the lent tables are right
pub record Sized (items tanks : List ℤ) (rows : List ℕ) : Type 0 where
  pub items_whole : whole_records item_width most_items (length items) ≡ true
  pub tanks_whole : whole_records tank_width most_tanks (length tanks) ≡ true
  pub rows_are_allowed : rows_allowed (length rows) ≡ true

pub rows_whole : (items tanks : List ℤ) (rows : List ℕ) → Sized items tanks rows → RowsWhole rows (count_of rows)
rows_whole items tanks rows sized = lent_whole rows sized.rows_are_allowed

pub tanks_are_whole : (tanks : List ℤ) → whole_records tank_width most_tanks (length tanks) ≡ true → TanksWhole tanks
tanks_are_whole tanks w =
    let k = records_are tank_width most_tanks (length tanks) w in record { whole = k.0; few = omega arith }

module _ (reading : Reading) (items tanks : List ℤ) (rows : List ℕ) where
  pub wrong_items : whole_records item_width most_items (length items) ≡ false → condition_by reading items tanks rows ≡ refused wrong_size item_table
  unfolding condition_by
  wrong_items i = simp (i, chosen)

  module _ (i : whole_records item_width most_items (length items) ≡ true) where
    pub wrong_tanks : whole_records tank_width most_tanks (length tanks) ≡ false → condition_by reading items tanks rows ≡ refused wrong_size tank_table
    unfolding condition_by
    wrong_tanks k = simp (i, k, chosen)

    module _ (k : whole_records tank_width most_tanks (length tanks) ≡ true) where
      after_rows : Outcome Condition
      after_rows = and_then (items_tried items) (λ fine. after_items reading items tanks (hull rows))

      -- the rows, and then the items
      sizes_passed : condition_by reading items tanks rows ≡ and_then (rows_tried rows) (λ good. after_rows)
      unfolding condition_by rows_tried items_tried after_items and_then after_rows
      sizes_passed =
          let tried = usable_up_to rows (count_of rows) in
          let outside = first_outside item items in
          let next : Unit {0} → Outcome Condition = λ fine. after_items reading items tanks (hull rows) in
          let items_then = refused_then (ltb outside (length items)) out_of_range (place_of_items + outside) (answered tt) next in
          simp (i, k, chosen)
          (sym (refused_then (not (rows_allowed (length rows))) wrong_size row_table (and_then tried (λ good. answered rows)) (λ good. after_rows)
          ∙ rw (then_assoc tried (λ good. answered rows) (λ good. after_rows), items_then)))

      pub bad_rows : {number place : ℕ} → refused number place ≡ rows_tried rows → condition_by reading items tanks rows ≡ refused number place
      unfolding and_then
      bad_rows e = sizes_passed ∙ rw (← e)

      module _ (good : rows_tried rows ≡ answered rows) where
        pub bad_item : {number place : ℕ} → refused number place ≡ items_tried items → condition_by reading items tanks rows ≡ refused number place
        unfolding and_then after_rows
        bad_item e = sizes_passed ∙ rw (good, ← e)

        pub after_all : answered tt ≡ items_tried items → condition_by reading items tanks rows ≡ after_items reading items tanks (hull rows)
        unfolding and_then after_rows
        after_all e = sizes_passed ∙ rw (good, ← e)
