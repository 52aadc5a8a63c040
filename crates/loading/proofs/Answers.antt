-- When a condition is answered: where all of its tests are passed, and then it is the condition of its load.
--     Tried            the tests in the paper's order: sizes, rows, items, tanks, the weight
--     answer_says      what is answered was tried, and is the condition of its load
--     tried_answered   and the other way
--     rows_are_usable  the rows of a condition that was tried are usable in the words of demand 3
-- Assumes nothing.
use mathlib.Core.Path.{◌≡◌}
use mathlib.Core.List.{List}
use Prim.Native.Nat.{ℕ, ◌+◌, ◌/◌, ◌≤◌}
use native.Mathlib.Omega.{arith}
use borrow.Author.Tests.{le-ltb, ltb-false, not-false}
use lib.IntN.{ℤ}
use lib.ListN.{length}
use Rattle.arithmetic.proofs.Choice.{chosen}
use Rattle.hydrostatics.specs.Usable.{usable_up_to}
use Rattle.ranges.specs.Fields.{item}
use Rattle.ranges.specs.Outcome.{answered, and_then}
use Rattle.ranges.specs.Outside.{first_outside}
use Rattle.ranges.specs.Refusals.{out_of_range, wrong_size, too_light, too_heavy, place_of_items, item_table, tank_table, row_table}
use Rattle.ranges.specs.Sizes.{row_width}
use Rattle.ranges.proofs.Outcomes.{not_refused, answered_then}
use Rattle.ranges.proofs.Outside.{outside_le}
use Rattle.loading.specs.Condition.{tanks_from, condition_at, floats, condition_by}
use Rattle.loading.specs.Load.{Load, weight}
use Rattle.loading.specs.Private.Afloat.{Within}
use Rattle.loading.specs.Records.{load_of}
use Rattle.loading.specs.Table.{Table, hull, last_row}
use Rattle.loading.specs.declared.Condition.{Condition}
use Rattle.loading.specs.declared.Reading.{Reading}
use Rattle.loading.proofs.Laws.{Usable}
use Rattle.loading.proofs.Order.{Sized, rows_whole}
use Rattle.loading.proofs.Usability.{usable_count, usable_table}

pub record Tried (items tanks : List ℤ) (rows : List ℕ) : Type 0 where
  pub sized : Sized items tanks rows
  pub rows_usable : usable_up_to rows (length rows / row_width) ≡ answered (length rows / row_width)
  pub items_inside : first_outside item items ≡ length items
  pub last : ℕ
  pub tanks_passed : tanks_from 0 tanks ≡ answered last
  pub within : Within (hull rows) (weight (load_of items tanks))

pub rows_are_usable : {items tanks : List ℤ} {rows : List ℕ} → Tried items tanks rows → Usable (hull rows)
rows_are_usable {items} {tanks} {rows} t =
    usable_table rows (length rows / row_width) (record { size = rows_whole items tanks rows t.sized; usable = t.rows_usable })

-- a weight that floats lies within the table
floating : (reading : Reading) (t : Table) (l : Load) {c : Condition} → floats reading t l ≡ answered c → Within t (weight l) × (c ≡ condition_at reading t l)
unfolding floats
floating reading t l {c} e =
    let light = not_refused too_light 0 e in
    let heavy = not_refused too_heavy 0 light.1 in
    (record { least = ltb-false _ _ light.0; most = ltb-false _ _ heavy.0 }, cc heavy.1)

-- and the other way
within_floats : (reading : Reading) (t : Table) (l : Load) → Within t (weight l) → floats reading t l ≡ answered (condition_at reading t l)
unfolding floats
within_floats reading t l w =
    simp (le-ltb (weight l) t.first.displacement w.least, le-ltb (last_row t).displacement (weight l) w.most, chosen)

module _ (reading : Reading) (items tanks : List ℤ) (rows : List ℕ) where
  pub answer_says : {c : Condition} → condition_by reading items tanks rows ≡ answered c → Tried items tanks rows × (c ≡ condition_at reading (hull rows) (load_of items tanks))
  unfolding condition_by
  answer_says {c} e =
      let count = length rows / row_width in
      let bad = first_outside item items in
      let i = not_refused wrong_size item_table e in
      let k = not_refused wrong_size tank_table i.1 in
      let r = not_refused wrong_size row_table k.1 in
      let u = answered_then r.1 in
      let j = not_refused out_of_range (place_of_items + bad) u.2 in
      let t = answered_then j.1 in
      let f = floating reading (hull rows) (load_of items tanks) t.2 in (
        record {
          sized = record { items_whole = not-false _ i.0; tanks_whole = not-false _ k.0; rows_are_allowed = not-false _ r.0 };
          rows_usable = usable_count rows count u.0 u.1;
          items_inside = omega (arith, ltb-false bad (length items) j.0, outside_le item items);
          last = t.0;
          tanks_passed = t.1;
          within = f.0;
        },
        f.1,
      )

  pub tried_answered : Tried items tanks rows → condition_by reading items tanks rows ≡ answered (condition_at reading (hull rows) (load_of items tanks))
  unfolding condition_by and_then
  tried_answered t =
      let all : length items ≤ first_outside item items = omega (arith, t.items_inside) in
      simp (t.sized.items_whole, t.sized.tanks_whole, t.sized.rows_are_allowed, t.rows_usable, le-ltb _ _ all, t.tanks_passed, within_floats reading (hull rows) (load_of items tanks) t.within, chosen)
