-- What is aboard, added up in one walk: kg, the moments in kg·mm, the transverse one by its two sides, and the free surface.
-- That these sums are the load's weight and moments: `Moments` of proofs/.
use Rattle.std.specs.Prelude.{ℕ, ◌+◌, ◌*◌, ◌/◌, ◌%◌, ◌^◌, ◌≤◌, ◌≡◌, List, [], ◌∷◌, ℤ, pos, nat_abs, length, get_or, ltb, Result, IfOk}
use Rattle.arithmetic.specs.Choice.{when◌then◌else◌}
use Rattle.ranges.specs.Fields.{most, range_of, item, x_range, y_range, z_range}
use Rattle.ranges.specs.Outcome.{Outcome, answered, refused, and_then}
use Rattle.ranges.specs.Outside.{first_outside}
use Rattle.ranges.specs.Refusals.{out_of_range, place_of_items}
use Rattle.ranges.specs.Reasons.{paper}
use Rattle.ranges.specs.Sides.{sides_of}
use Rattle.ranges.specs.Sizes.{item_width, tank_width, most_items, most_tanks}
use Rattle.loading.specs.Condition.{tanks_from}
use Rattle.loading.specs.Load.{Item, Tank, Load}
use Rattle.loading.specs.Paper.{rectangle}
use Rattle.loading.specs.Records.{tanks_of}
use Rattle.loading.specs.Rules.{surface_of}
use Rattle.loading.specs.declared.Aboard.{Aboard}
use Rattle.ranges.specs.declared.refusal.Refusal.{Refusal}

abbrev pub nothing : Aboard
nothing = record { weight = 0; longitudinal = 0; vertical = 0; port = 0; starboard = 0; surface = 0 }

infixl 60 ◌with◌
abbrev pub ◌with◌ : Aboard → Aboard → Aboard
a with b = record {
  weight = a.weight + b.weight;
  longitudinal = a.longitudinal + b.longitudinal;
  vertical = a.vertical + b.vertical;
  port = a.port + b.port;
  starboard = a.starboard + b.starboard;
  surface = a.surface + b.surface;
}

-- kg at x, y, z
abbrev pub weight_at : ℕ → ℕ → ℤ → ℕ → ℕ → Aboard
weight_at kg x y z surface = record {
  weight = kg;
  longitudinal = kg * x;
  vertical = kg * z;
  port = kg * (sides_of y).port;
  starboard = kg * (sides_of y).starboard;
  surface = surface;
}

abbrev pub of_item : Item → Aboard
of_item i = weight_at i.kg i.x i.y i.z 0

abbrev pub of_tank : Tank → Aboard
of_tank t = weight_at t.contents t.x t.y t.z (surface_of rectangle t)

unfoldable pub altogether : {A : Type 0} → (A → Aboard) → List A → Aboard
altogether of [] = nothing
altogether of (one ∷ rest) = of one with altogether of rest

abbrev pub aboard_of : Load → Aboard
aboard_of l = altogether of_item l.items with altogether of_tank l.tanks

-- the number at a place of a table, and how far it is from 0
abbrev pub number_at : List ℤ → ℕ → ℤ
number_at table place = get_or table place (pos 0)

abbrev pub size_at : List ℤ → ℕ → ℕ
size_at table place = nat_abs (number_at table place)

-- the record at a place of a table
abbrev pub item_at : List ℤ → ℕ → Item
item_at table i = record {
  kg = size_at table i;
  x = size_at table (i + 1);
  y = number_at table (i + 2);
  z = size_at table (i + 3);
}

abbrev pub tank_at : List ℤ → ℕ → Tank
tank_at table i = record {
  contents = size_at table i;
  capacity = size_at table (i + 1);
  x = size_at table (i + 2);
  y = number_at table (i + 3);
  z = size_at table (i + 4);
  length = size_at table (i + 5);
  breadth = size_at table (i + 6);
  density = size_at table (i + 7);
}

-- ---- within the ranges of the file, whose fields have numbers: 6 is an item's kg, and 10 a tank's contents
pub record Stowed (heaviest kg x : ℕ) (y : ℤ) (z : ℕ) : Type 0 where
  pub kg_most : kg ≤ heaviest
  pub x_most : x ≤ most x_range
  pub y_most : nat_abs y ≤ most y_range
  pub z_most : z ≤ most z_range

abbrev pub StowedItem : Item → Type 0
StowedItem i = Stowed (most (range_of 6)) i.kg i.x i.y i.z

abbrev pub StowedTank : Tank → Type 0
StowedTank t = Stowed (most (range_of 10)) t.contents t.x t.y t.z

-- 15 to 17 are a tank's length and breadth, and its liquid's density
pub record RoomOf (length breadth density : ℕ) : Type 0 where
  pub length_most : length ≤ most (range_of 15)
  pub breadth_most : breadth ≤ most (range_of 16)
  pub density_most : density ≤ most (range_of 17)

-- 11 is a tank's capacity
pub record TankFits (t : Tank) : Type 0 where
  pub stowed : StowedTank t
  pub capacity_most : t.capacity ≤ most (range_of 11)
  pub room : RoomOf t.length t.breadth t.density

-- no more than so many kg and so much free surface, and no weight further off than the ranges allow
pub record Reach (kg kgmm : ℕ) (a : Aboard) : Type 0 where
  pub weight : a.weight ≤ kg
  pub longitudinal : a.longitudinal ≤ most x_range * a.weight
  pub transverse : a.port + a.starboard ≤ most y_range * a.weight
  pub vertical : a.vertical ≤ most z_range * a.weight
  pub surface : a.surface ≤ kgmm

-- the largest free surface of a tank in range, kg·mm: 640,000,000
abbrev pub most_surface : ℕ
most_surface = most (range_of 15) * most (range_of 16) ^ 3 * most (range_of 17) / rectangle.unit

-- all items, and all tanks: kg
abbrev pub most_in_items : ℕ
most_in_items = most_items * most (range_of 6)

abbrev pub most_in_tanks : ℕ
most_in_tanks = most_tanks * most (range_of 10)

-- all that can be aboard
abbrev pub Bearable : Aboard → Type 0
Bearable = Reach (most_in_items + most_in_tanks) (most_tanks * most_surface)

-- the items of a table: whole records, no more than there may be, each number in its range
pub record ItemsFit (table : List ℤ) : Type 0 where
  pub whole : length table % item_width ≡ 0
  pub few : length table ≤ most_items * item_width
  pub is_in_range : first_outside item table ≡ length table

-- the ranges of the items' numbers, tried
unfoldable pub items_tried : List ℤ → Outcome Unit
items_tried table =
    let outside = first_outside item table in
    when ltb outside (length table) then refused out_of_range (place_of_items + outside) else answered tt

-- what was asked, and within reach
pub record Brought (kg kgmm : ℕ) (asked given : Aboard) : Type 0 where
  pub is : given ≡ asked
  pub reach : Reach kg kgmm given

-- the tanks of a table: whole records, no more than there may be
pub record TanksWhole (table : List ℤ) : Type 0 where
  pub whole : length table % tank_width ≡ 0
  pub few : length table ≤ most_tanks * tank_width

-- the tanks, tried and added up
unfoldable pub tanks_aboard : List ℤ → Outcome Aboard
tanks_aboard table = and_then (tanks_from 0 table) (λ last. answered (altogether of_tank (tanks_of table)))

pub record TanksTried (table : List ℤ) (r : Result Aboard Refusal) : Type 0 where
  pub is : paper r ≡ tanks_aboard table
  pub reach : IfOk r (Reach most_in_tanks (most_tanks * most_surface))
