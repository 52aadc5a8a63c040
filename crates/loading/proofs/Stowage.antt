-- What a table's ranges say of a record in it.
--     field_most        a number of a table that has none outside is no further from 0 than its range's greatest
--     item_stowed                      an item with no number outside
--     tank_fits                        a tank with no number outside
--     tank_outside, tank_overfull, tank_passed      what the trial of a tank comes to,
--     trial_refused, trial_passed, trial_end        and of all
-- Assumes nothing.
use mathlib.Core.Path.{◌≡◌, refl, sym, ap, ◌∙◌}
use mathlib.Core.List.{List, [], ◌++◌}
use Prim.Native.Nat.{ℕ, ◌+◌, ◌*◌, ◌%◌, ◌≤◌, ◌<◌}
use native.Mathlib.Omega.{arith}
use borrow.Author.Tests.{lt-ltb, le-ltb, ltb-false}
use lib.IntN.{ℤ, pos}
use lib.ListN.{length, get_or, length-append, drop_of_length-le}
use Rattle.std.specs.Prelude.{Ok, Err}
use Rattle.arithmetic.specs.Choice.{when◌then◌else◌}
use Rattle.arithmetic.proofs.Choice.{chosen}
use lib.Dec.{ltb}
use Rattle.ranges.specs.Fields.{Range, ◌to◌, most, range_of, item, tank}
use Rattle.ranges.specs.Outcome.{Outcome, answered, refused, and_then}
use Rattle.ranges.specs.Outside.{first_outside}
use Rattle.ranges.specs.Reasons.{number_of}
use Rattle.ranges.specs.declared.refusal.Refusal.{Refusal}
use Rattle.ranges.specs.Refusals.{out_of_range, contents_above_capacity, place_of_tanks}
use Rattle.ranges.proofs.Outcomes.{not_refused}
use Rattle.ranges.proofs.Facts.{within_size, all_within}
use Rattle.ranges.specs.Sizes.{item_width, tank_width, most_tanks}
use Rattle.loading.specs.Private.Aboard.{nothing, ◌with◌, number_at, size_at, item_at, tank_at, StowedItem, ItemsFit, TankFits, altogether, of_item, of_tank, Reach, Bearable, Brought, most_in_items, most_in_tanks, most_surface, tanks_aboard, TanksWhole, TanksTried}
use Rattle.loading.specs.Condition.{tanks_from}
use Rattle.loading.specs.Records.{items_of, tanks_of}
use Rattle.loading.specs.declared.Aboard.{Aboard}
use Rattle.loading.proofs.Walks.{eight_are, items_next, tanks_next, Walked, walk_start, walk_step, walk_end}
use Rattle.loading.proofs.Reaches.{reach_weight, reach_less}
use Rattle.ranges.proofs.Records.{parts_inside}
use Rattle.loading.proofs.Rectangles.{surface_most}

module _ (section : List Range) (numbers : List ℤ) (inside : length numbers ≤ first_outside section numbers) where
  pub field_most : (k : ℕ) → k < length numbers → size_at numbers k ≤ most (get_or section (k % length section) (1 to 0))
  field_most k h = (within_size (get_or section (k % length section) (1 to 0)) (number_at numbers k) (all_within section numbers inside k h)).1

-- ---- an item's four numbers
module _ (numbers : List ℤ) (four : length numbers ≡ item_width) (inside : length numbers ≤ first_outside item numbers) where
  pub item_stowed : StowedItem (item_at numbers 0)
  item_stowed =
      let at = field_most item numbers inside in
      record { kg_most = at 0 (omega arith); x_most = at 1 (omega arith); y_most = at 2 (omega arith); z_most = at 3 (omega arith) }

-- ---- a tank's eight numbers
module _ (numbers : List ℤ) (eight : length numbers ≡ tank_width) where
  pub tank_fits : length numbers ≤ first_outside tank numbers → TankFits (tank_at numbers 0)
  tank_fits inside =
      let at = field_most tank numbers inside in
      record {
        stowed = record { kg_most = at 0 (omega arith); x_most = at 2 (omega arith); y_most = at 3 (omega arith); z_most = at 4 (omega arith) };
        capacity_most = at 1 (omega arith);
        room = record { length_most = at 5 (omega arith); breadth_most = at 6 (omega arith); density_most = at 7 (omega arith) };
      }

  -- the trial of the tank, with those after it
  module _ (place : ℕ) (rest : List ℤ) where
    -- where the first number outside is this one
    trial : ℕ → Outcome ℕ
    trial outside =
        when ltb outside tank_width then refused out_of_range (place_of_tanks + (place + outside))
        else when ltb (size_at numbers 1) (size_at numbers 0) then refused contents_above_capacity (place_of_tanks + place)
        else tanks_from (place + tank_width) rest

    tries : tanks_from place (numbers ++ rest) ≡ trial (first_outside tank numbers)
    unfolding tanks_from trial
    tries =
        let are = eight_are numbers (pos 0) eight in
        ap (λ n. tanks_from place (n ++ rest)) are ∙ ap (λ n. trial (first_outside tank n)) (sym are)

    pub tank_outside : first_outside tank numbers < length numbers → tanks_from place (numbers ++ rest) ≡ refused out_of_range (place_of_tanks + (place + first_outside tank numbers))
    unfolding trial
    tank_outside h =
        let out : first_outside tank numbers < tank_width = omega arith in tries ∙ simp (lt-ltb _ _ out, chosen)

    -- what passed was held against its capacity, and those after it passed
    pub tank_was_passed : {last : ℕ} → tanks_from place (numbers ++ rest) ≡ answered last → (size_at numbers 0 ≤ size_at numbers 1) × (tanks_from (place + tank_width) rest ≡ answered last)
    unfolding trial
    tank_was_passed e =
        let ranged = not_refused out_of_range (place_of_tanks + (place + first_outside tank numbers)) (sym tries ∙ e) in
        let held = not_refused contents_above_capacity (place_of_tanks + place) ranged.1 in
        (ltb-false _ _ held.0, held.1)

    module _ (inside : length numbers ≤ first_outside tank numbers) where
      all_in : tank_width ≤ first_outside tank numbers
      all_in = omega arith

      pub tank_overfull : size_at numbers 1 < size_at numbers 0 → tanks_from place (numbers ++ rest) ≡ refused contents_above_capacity (place_of_tanks + place)
      unfolding trial
      tank_overfull h = tries ∙ simp (le-ltb _ _ all_in, lt-ltb _ _ h, chosen)

      pub tank_passed : size_at numbers 0 ≤ size_at numbers 1 → tanks_from place (numbers ++ rest) ≡ tanks_from (place + tank_width) rest
      unfolding trial
      tank_passed h = tries ∙ simp (le-ltb _ _ all_in, le-ltb _ _ h, chosen)

-- ---- the trial of all tanks
module _ (table : List ℤ) where
  pub trial_refused : (refusal : Refusal) → tanks_from 0 table ≡ refused (number_of refusal.reason) refusal.place → TanksTried table (Err refusal)
  unfolding tanks_aboard and_then
  trial_refused refusal e = record { is = rw e; reach = tt }

  pub trial_passed : {last : ℕ} {all : Aboard} → tanks_from 0 table ≡ answered last → all ≡ altogether of_tank (tanks_of table) → Reach most_in_tanks (most_tanks * most_surface) all → TanksTried table (Ok all)
  unfolding tanks_aboard and_then
  trial_passed e f r = record { is = rw e (ap answered f); reach = r }

pub trial_end : (place : ℕ) → tanks_from place [] ≡ answered place
unfolding tanks_from
trial_end place = refl

-- ---- the walk over the items: what is left of them is whole items, in range
pub record AtItem (items rest : List ℤ) (all : Aboard) : Type 0 where
  pub whole : length rest % item_width ≡ 0
  pub inside : length rest ≤ first_outside item rest
  pub walked : ℕ
  pub walk : Walked of_item items_of item_width (most (range_of 6)) 0 items rest walked all

nothing_left : {rest : List ℤ} → length rest ≡ 0 → rest ≡ []
nothing_left {rest} e = let none : length rest ≤ 0 = omega arith in drop_of_length-le rest none

none_left : items_of [] ≡ []
unfolding items_of
none_left = refl

pub at_first_item : (items : List ℤ) → ItemsFit items → AtItem items items nothing
at_first_item items fit =
    record { whole = fit.whole; inside = omega (arith, fit.is_in_range); walked = 0; walk = walk_start of_item items_of item_width (most (range_of 6)) 0 items }

module _ {items rest : List ℤ} {all : Aboard} (a : AtItem items rest all) where
  -- the next item
  module _ (numbers further : List ℤ) (next : rest ≡ numbers ++ further) (four : length numbers ≡ item_width) where
    parts : (first_outside item numbers ≡ length numbers) × (first_outside item further ≡ length further)
    parts =
        parts_inside item numbers further four (rw next at a.inside)

    pub next_stowed : StowedItem (item_at numbers 0)
    next_stowed = item_stowed numbers four (omega (arith, parts.0))

    pub past_item : {more : Aboard} → more ≡ all with of_item (item_at numbers 0) → AtItem items further more
    past_item e =
        let long = ap length next ∙ length-append numbers further in
        record {
          whole = omega (arith, a.whole, long, four);
          inside = omega (arith, parts.1);
          walked = a.walked + 1;
          walk = walk_step of_item items_of item_width (most (range_of 6)) 0 items numbers further (item_at numbers 0) a.walk next four (items_next numbers further four) (reach_weight next_stowed 0) e;
        }

  -- so many are no more than there may be
  pub few_items : ItemsFit items → Bearable all
  few_items fit = reach_less a.walk.reach (omega (arith, a.walk.at, fit.few)) (omega arith)

  pub past_all : length rest < item_width → ItemsFit items → Brought most_in_items 0 (altogether of_item (items_of items)) all
  past_all h fit =
      record {
        is = walk_end of_item items_of item_width (most (range_of 6)) 0 items a.walk (nothing_left (omega (arith, a.whole))) none_left;
        reach = reach_less a.walk.reach (omega (arith, a.walk.at, fit.few)) (omega arith);
      }

-- ---- the walk over the tanks: what is left of them is whole tanks, and those before have passed
pub record AtTank (tanks rest : List ℤ) (walked : ℕ) (all : Aboard) : Type 0 where
  pub whole : length rest % tank_width ≡ 0
  pub passed : tanks_from 0 tanks ≡ tanks_from (tank_width * walked) rest
  pub walk : Walked of_tank tanks_of tank_width (most (range_of 10)) most_surface tanks rest walked all

no_tank_left : tanks_of [] ≡ []
unfolding tanks_of
no_tank_left = refl

pub at_first_tank : (tanks : List ℤ) → TanksWhole tanks → AtTank tanks tanks 0 nothing
at_first_tank tanks fit =
    record { whole = fit.whole; passed = refl; walk = walk_start of_tank tanks_of tank_width (most (range_of 10)) most_surface tanks }

module _ {tanks rest : List ℤ} {walked : ℕ} {all : Aboard} (a : AtTank tanks rest walked all) where
  -- the next tank
  module _ (numbers further : List ℤ) (next : rest ≡ numbers ++ further) (eight : length numbers ≡ tank_width) where
    long : length rest ≡ length numbers + length further
    long = ap length next ∙ length-append numbers further

    pub tanks_few : TanksWhole tanks → tank_width * walked + length numbers ≤ most_tanks * tank_width
    tanks_few fit = omega (arith, a.walk.at, long, fit.few)

    pub refused_outside : first_outside tank numbers < length numbers → tanks_from 0 tanks ≡ refused out_of_range (place_of_tanks + (tank_width * walked + first_outside tank numbers))
    refused_outside h = a.passed ∙ ap (tanks_from (tank_width * walked)) next ∙ tank_outside numbers eight (tank_width * walked) further h

    module _ (inside : length numbers ≤ first_outside tank numbers) where
      pub next_fits : TankFits (tank_at numbers 0)
      next_fits = tank_fits numbers eight inside

      pub refused_overfull : size_at numbers 1 < size_at numbers 0 → tanks_from 0 tanks ≡ refused contents_above_capacity (place_of_tanks + tank_width * walked)
      refused_overfull h = a.passed ∙ ap (tanks_from (tank_width * walked)) next ∙ tank_overfull numbers eight (tank_width * walked) further inside h

      pub next_reach : Reach (most (range_of 10)) most_surface (of_tank (tank_at numbers 0))
      next_reach = reach_less (reach_weight next_fits.stowed _) (omega arith) (surface_most (tank_at numbers 0) next_fits.room)

      pub past_tank : {more : Aboard} → size_at numbers 0 ≤ size_at numbers 1 → more ≡ all with of_tank (tank_at numbers 0) → AtTank tanks further (walked + 1) more
      past_tank h e =
          let on : tank_width * walked + tank_width ≡ tank_width * (walked + 1) = omega arith in
          record {
            whole = omega (arith, a.whole, long, eight);
            passed = a.passed ∙ ap (tanks_from (tank_width * walked)) next ∙ tank_passed numbers eight (tank_width * walked) further inside h ∙ ap (λ place. tanks_from place further) on;
            walk = walk_step of_tank tanks_of tank_width (most (range_of 10)) most_surface tanks numbers further (tank_at numbers 0) a.walk next eight (tanks_next numbers further eight) next_reach e;
          }

  pub tanks_bearable : TanksWhole tanks → Bearable all
  tanks_bearable fit = reach_less a.walk.reach (omega (arith, a.walk.at, fit.few)) (omega (arith, a.walk.at, fit.few))

  pub past_all_tanks : length rest < tank_width → TanksWhole tanks → TanksTried tanks (Ok all)
  past_all_tanks h fit =
      let past : rest ≡ [] = nothing_left (omega (arith, a.whole)) in
      trial_passed tanks (a.passed ∙ ap (tanks_from (tank_width * walked)) past ∙ trial_end (tank_width * walked))
      (walk_end of_tank tanks_of tank_width (most (range_of 10)) most_surface tanks a.walk past no_tank_left)
      (reach_less a.walk.reach (omega (arith, a.walk.at, fit.few)) (omega (arith, a.walk.at, fit.few)))
