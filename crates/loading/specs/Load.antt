-- What is aboard: items and tanks, their weight and moments, and what it is to lower them.
use Rattle.std.specs.Prelude.{◌≡◌, List, ℕ, ◌+◌, ◌*◌, ◌≤◌, ℤ, pos, ◌+ℤ◌, ◌*ℤ◌}
use Rattle.loading.specs.Total.{total, total_ℤ, Each}
use Rattle.loading.specs.declared.Totals.{Totals}

pub record Item : Type 0 where
  pub kg : ℕ
  pub x : ℕ
  pub y : ℤ
  pub z : ℕ

pub record Tank : Type 0 where
  pub contents : ℕ
  pub capacity : ℕ
  pub x : ℕ
  pub y : ℤ
  pub z : ℕ
  pub length : ℕ
  pub breadth : ℕ
  pub density : ℕ

pub record Load : Type 0 where
  pub items : List Item
  pub tanks : List Tank

-- "Weight W is all item weights and tank contents."
unfoldable pub weight : Load → ℕ
weight l = total (λ i. i.kg) l.items + total (λ t. t.contents) l.tanks

unfoldable pub longitudinal_moment_of : Load → ℕ
longitudinal_moment_of l = total (λ i. i.kg * i.x) l.items + total (λ t. t.contents * t.x) l.tanks

unfoldable pub vertical_moment_of : Load → ℕ
vertical_moment_of l = total (λ i. i.kg * i.z) l.items + total (λ t. t.contents * t.z) l.tanks

unfoldable pub transverse_moment_of : Load → ℤ
transverse_moment_of l = total_ℤ (λ i. pos i.kg *ℤ i.y) l.items +ℤ total_ℤ (λ t. pos t.contents *ℤ t.y) l.tanks

-- the weight and the three moments
abbrev pub totals_of : Load → Totals
totals_of l =
    record { weight = weight l; longitudinal = longitudinal_moment_of l; vertical = vertical_moment_of l; transverse = transverse_moment_of l }

-- i is j lowered, or j itself
pub record LoweredItem (i j : Item) : Type 0 where
  pub kg : i.kg ≡ j.kg
  pub x : i.x ≡ j.x
  pub y : i.y ≡ j.y
  pub z : i.z ≤ j.z

-- s is t lowered, or with a smaller or lighter surface, or t itself
pub record LoweredTank (s t : Tank) : Type 0 where
  pub contents : s.contents ≡ t.contents
  pub capacity : s.capacity ≡ t.capacity
  pub x : s.x ≡ t.x
  pub y : s.y ≡ t.y
  pub z : s.z ≤ t.z
  pub length : s.length ≤ t.length
  pub breadth : s.breadth ≤ t.breadth
  pub density : s.density ≤ t.density

-- k is l, lowered
pub record Lowered (k l : Load) : Type 0 where
  pub items : Each LoweredItem k.items l.items
  pub tanks : Each LoweredTank k.tanks l.tanks
