-- Tables that are lowered pass every test that the tables before them passed.
--     tanks_pass       the tanks: their numbers are in range, and none holds more than it did
--     tried_again      all that the condition tries
-- Assumes nothing.
use mathlib.Core.Path.{◌≡◌, sym, ap, subst, ◌∙◌}
use mathlib.Core.List.{List, ◌∷◌, ◌++◌}
use Prim.Native.Nat.{ℕ, zero, suc, ◌+◌, ◌*◌, ◌%◌, ◌/◌, ◌≤◌}
use native.Mathlib.Omega.{arith}
use lib.IntN.{ℤ}
use lib.ListN.{length, take, drop, length-take, length-drop, drop_of_length-le, take-append-drop}
use Rattle.ranges.specs.Fields.{tank}
use Rattle.ranges.specs.Outcome.{answered}
use Rattle.ranges.specs.Outside.{first_outside}
use Rattle.ranges.specs.Sizes.{tank_width, most_tanks}
use Rattle.ranges.proofs.Facts.{records_are}
use Rattle.ranges.proofs.Records.{parts_inside}
use Rattle.loading.specs.Condition.{tanks_from}
use Rattle.loading.specs.Demand.{LoweredTables}
use Rattle.loading.specs.Load.{LoweredTank}
use Rattle.loading.specs.Private.Aboard.{tank_at}
use Rattle.loading.specs.Private.Afloat.{Within}
use Rattle.loading.specs.Records.{tanks_of, load_of}
use Rattle.loading.specs.Table.{hull}
use Rattle.loading.specs.Total.{Each, more}
use Rattle.loading.proofs.Answers.{Tried}
use Rattle.loading.proofs.Lowering.{lower_weight}
use Rattle.loading.proofs.Stowage.{tank_passed, tank_was_passed, trial_end}
use Rattle.loading.proofs.Walks.{tanks_next}

-- a tank that was passed passes again when it is lowered
again : (lower table lower-rest rest : List ℤ) (place : ℕ) {last : ℕ} (eight' : length lower ≡ tank_width) (eight : length table ≡ tank_width)
    → length lower ≤ first_outside tank lower
    → Each LoweredTank (tank_at lower 0 ∷ tanks_of lower-rest) (tank_at table 0 ∷ tanks_of rest)
    → tanks_from place (table ++ rest) ≡ answered last
    → (Each LoweredTank (tanks_of lower-rest) (tanks_of rest) → tanks_from (place + tank_width) rest ≡ answered last → (end : ℕ) × (tanks_from (place + tank_width) lower-rest ≡ answered end))
    → (end : ℕ) × (tanks_from place (lower ++ lower-rest) ≡ answered end)
again lower table lower-rest rest place eight' eight inside (more h others) e on =
    let was = tank_was_passed table eight place rest e in
    let further = on others was.1 in
    (further.0, tank_passed lower eight' place lower-rest inside (omega (arith, h.contents, h.capacity, was.0)) ∙ further.1)

-- so many tanks are left
tanks_left : (left place : ℕ) (lower table : List ℤ) {last : ℕ}
    → length lower ≡ length table
    → length table ≡ left * tank_width
    → length lower ≤ first_outside tank lower
    → Each LoweredTank (tanks_of lower) (tanks_of table)
    → tanks_from place table ≡ answered last
    → (end : ℕ) × (tanks_from place lower ≡ answered end)
tanks_left zero place lower table as_long size inside each e =
    let none : length lower ≤ 0 = omega arith in (place, ap (tanks_from place) (drop_of_length-le lower none) ∙ trial_end place)
tanks_left (suc left) place lower table as_long size inside each e =
    let split' = sym (take-append-drop tank_width lower) in
    let split = sym (take-append-drop tank_width table) in
    let eight' : length (take tank_width lower) ≡ tank_width = simp length-take (omega arith) in
    let eight : length (take tank_width table) ≡ tank_width = simp length-take (omega arith) in
    let parts = parts_inside tank (take tank_width lower) (drop tank_width lower) eight' (rw split' at inside) in
    rw split' (again (take tank_width lower) (take tank_width table) (drop tank_width lower) (drop tank_width table) place eight' eight (omega (arith, parts.0))
    (rw (split', split, tanks_next (take tank_width lower) (drop tank_width lower) eight', tanks_next (take tank_width table) (drop tank_width table) eight) at each)
    (rw split at e)
    (λ others was. tanks_left left (place + tank_width) (drop tank_width lower) (drop tank_width table) (simp length-drop (omega arith)) (simp length-drop (omega arith)) (omega (arith, parts.1)) others was))

pub tanks_pass : (lower table : List ℤ) → length lower ≡ length table → length lower ≤ first_outside tank lower → {last : ℕ} → length table % tank_width ≡ 0 → Each LoweredTank (tanks_of lower) (tanks_of table) → tanks_from 0 table ≡ answered last → (end : ℕ) × (tanks_from 0 lower ≡ answered end)
tanks_pass lower table as_long inside whole each e = tanks_left (length table / tank_width) 0 lower table as_long (omega arith) inside each e

pub tried_again : {items' tanks' items tanks : List ℤ} {rows : List ℕ} → LoweredTables items' tanks' items tanks → Tried items tanks rows → Tried items' tanks' rows
tried_again {items'} {tanks'} {items} {tanks} {rows} low t =
    let whole = records_are tank_width most_tanks (length tanks) t.sized.tanks_whole in
    let passed = tanks_pass tanks' tanks low.tanks_as_long (omega (arith, low.tanks_in_range)) whole.0 low.lowered.tanks t.tanks_passed in
    record {
      sized = record { items_whole = rw low.items_as_long t.sized.items_whole; tanks_whole = rw low.tanks_as_long t.sized.tanks_whole; rows_are_allowed = t.sized.rows_are_allowed };
      rows_usable = t.rows_usable;
      items_inside = low.items_in_range;
      last = passed.0;
      tanks_passed = passed.1;
      within = subst (λ W. Within (hull rows) W) (sym (lower_weight (load_of items' tanks') (load_of items tanks) low.lowered)) t.within;
    }
