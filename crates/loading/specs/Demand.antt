-- The words of demand 3, of the lent tables and of what is answered for them: "Take an answered condition and only lower items or tanks, or reduce a tank's
-- length, breadth or liquid density, each staying in its range. GM does not fall, and a condition that passed still passes."
use Rattle.std.specs.Prelude.{◌≡◌, List, T, ℤ, length, ◌≤ℤ◌}
use Rattle.ranges.specs.Fields.{item, tank}
use Rattle.ranges.specs.Outside.{first_outside}
use Rattle.loading.specs.Load.{Lowered}
use Rattle.loading.specs.Records.{load_of}
use Rattle.loading.specs.declared.Condition.{Condition}

-- items' and tanks' are the tables items and tanks, lowered
pub record LoweredTables (items' tanks' items tanks : List ℤ) : Type 0 where
  pub items_as_long : length items' ≡ length items
  pub tanks_as_long : length tanks' ≡ length tanks
  pub items_in_range : first_outside item items' ≡ length items'
  pub tanks_in_range : first_outside tank tanks' ≡ length tanks'
  pub lowered : Lowered (load_of items' tanks') (load_of items tanks)

-- what a lowered load's condition d is beside c, the condition before
pub record NoWorse (d c : Condition) : Type 0 where
  pub weight : d.weight ≡ c.weight
  pub draft : d.draft ≡ c.draft
  pub km : d.km ≡ c.km
  pub lcg : d.lcg ≡ c.lcg
  pub transverse_moment : d.transverse_moment ≡ c.transverse_moment
  pub gm : c.gm ≤ℤ d.gm
  pub pass : T c.passes → T d.passes
