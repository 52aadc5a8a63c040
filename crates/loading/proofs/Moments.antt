-- What is aboard, added up, is the load's weight, moments and free surface.
--     sum_of, net_of            a sum over records, for a figure that adds up; the transverse moment by its two sides
--     weight_is, longitudinal_is, vertical_is, surface_is      the load's figures,
--     transverse_is             and its transverse moment: starboard less port is the ℤ sum of kg·y
--     condition_is              so the condition is that of the paper
-- Assumes nothing.
use mathlib.Core.Path.{◌≡◌, refl, sym, ap, ap₂, ◌∙◌}
use mathlib.Core.List.{List, [], ◌∷◌}
use Prim.Native.Nat.{ℕ, ◌+◌, ◌*◌}
use native.Mathlib.Nat.{zero-add}
use lib.IntN.{ℤ, pos, ◌+ℤ◌, ◌-ℤ◌, ◌*ℤ◌}
use Rattle.arithmetic.proofs.Integer.{solve_ℤ}
use Rattle.arithmetic.proofs.Polynomial.{◌:+◌, :-◌}
use Rattle.ranges.specs.Sides.{sides_of}
use Rattle.ranges.proofs.Facts.{sides_are}
use Rattle.loading.specs.Private.Aboard.{nothing, ◌with◌, of_item, of_tank, altogether, aboard_of}
use Rattle.loading.specs.Condition.{condition_at}
use Rattle.loading.specs.Load.{Load, weight, longitudinal_moment_of, vertical_moment_of, transverse_moment_of}
use Rattle.loading.specs.Paper.{paper_rules, rectangle}
use Rattle.loading.specs.Rules.{surface_of}
use Rattle.loading.specs.Stability.{free_surface_of, draft, km}
use Rattle.loading.specs.Private.Steady.{transverse_of, condition_with}
use Rattle.loading.specs.Table.{Table}
use Rattle.loading.specs.Total.{total, total_ℤ}
use Rattle.loading.specs.declared.Aboard.{Aboard}
use Rattle.loading.specs.declared.Reading.{Reading}
use Rattle.arithmetic.proofs.Differences.{difference_times}
use Rattle.loading.proofs.Adding.{total_none}

net_with : (a b : Aboard) → transverse_of (a with b) ≡ transverse_of a +ℤ transverse_of b
net_with a b =
    solve_ℤ 4 (λ a b c d. (a :+ c) :+ :- (b :+ d)) (λ a b c d. (a :+ :- b) :+ (c :+ :- d)) refl
    (pos a.starboard) (pos a.port) (pos b.starboard) (pos b.port)

module _ {A : Type 0} (of : A → Aboard) where
  pub sum_of : (figure : Aboard → ℕ) → figure nothing ≡ 0 → ((a b : Aboard) → figure (a with b) ≡ figure a + figure b) → (list : List A) → figure (altogether of list) ≡ total (λ x. figure (of x)) list
  unfolding altogether total
  sum_of figure none both [] = none
  sum_of figure none both (x ∷ rest) = both (of x) (altogether of rest) ∙ ap (λ n. figure (of x) + n) (sum_of figure none both rest)

  pub net_of : (moment : A → ℤ) → ((x : A) → transverse_of (of x) ≡ moment x) → (list : List A) → transverse_of (altogether of list) ≡ total_ℤ moment list
  unfolding altogether total_ℤ
  net_of moment each [] = refl
  net_of moment each (x ∷ rest) = net_with (of x) (altogether of rest) ∙ ap₂ ◌+ℤ◌ (each x) (net_of moment each rest)

-- kg to starboard less kg to port is kg·y
kg_y : (kg : ℕ) (y : ℤ) → pos (kg * (sides_of y).starboard) -ℤ pos (kg * (sides_of y).port) ≡ pos kg *ℤ y
kg_y kg y = sym (difference_times (sides_of y).starboard (sides_of y).port kg) ∙ ap (λ z. pos kg *ℤ z) (sides_are y)

module _ (l : Load) where
  figure_is : (figure : Aboard → ℕ) → figure nothing ≡ 0 → ((a b : Aboard) → figure (a with b) ≡ figure a + figure b) → figure (aboard_of l) ≡ total (λ i. figure (of_item i)) l.items + total (λ t. figure (of_tank t)) l.tanks
  figure_is figure none both =
      both (altogether of_item l.items) (altogether of_tank l.tanks)
      ∙ ap₂ ◌+◌ (sum_of of_item figure none both l.items) (sum_of of_tank figure none both l.tanks)

  pub weight_is : (aboard_of l).weight ≡ weight l
  unfolding weight
  weight_is = figure_is (λ a. a.weight) refl (λ a b. refl)

  pub longitudinal_is : (aboard_of l).longitudinal ≡ longitudinal_moment_of l
  unfolding longitudinal_moment_of
  longitudinal_is = figure_is (λ a. a.longitudinal) refl (λ a b. refl)

  pub vertical_is : (aboard_of l).vertical ≡ vertical_moment_of l
  unfolding vertical_moment_of
  vertical_is = figure_is (λ a. a.vertical) refl (λ a b. refl)

  pub surface_is : (reading : Reading) → (aboard_of l).surface ≡ free_surface_of (paper_rules reading) l
  unfolding free_surface_of
  surface_is reading =
      figure_is (λ a. a.surface) refl (λ a b. refl)
      ∙ ap (λ n. n + total (surface_of rectangle) l.tanks) (total_none l.items)
      ∙ zero-add _

  pub transverse_is : transverse_of (aboard_of l) ≡ transverse_moment_of l
  unfolding transverse_moment_of
  transverse_is =
      net_with (altogether of_item l.items) (altogether of_tank l.tanks)
      ∙ ap₂ ◌+ℤ◌
      (net_of of_item (λ i. pos i.kg *ℤ i.y) (λ i. kg_y i.kg i.y) l.items)
      (net_of of_tank (λ t. pos t.contents *ℤ t.y) (λ t. kg_y t.contents t.y) l.tanks)

  pub condition_is : (reading : Reading) (t : Table) → condition_with (aboard_of l) (draft t l) (km (paper_rules reading) t l) ≡ condition_at reading t l
  unfolding condition_with condition_at
  condition_is reading t = rw (weight_is, longitudinal_is, vertical_is, surface_is reading, transverse_is)
