-- The paper's rules meet the laws that demand 3 asks, and its factor is the one that the paper names.
--     reading_sound, rectangle_sound           KM by either reading; a rectangle's surface
--     paper_sound, demand_3_of_the_paper       so demand 3 under the paper's rules, by either reading
--     own_weight, km_on                        at a row's own weight, that row's KM
--     factor_between, factor_on                the bottom of the unrounded GM, between two rows and at a row's own weight
-- Assumes nothing.
use mathlib.Core.Path.{◌≡◌, refl, ap, ◌∙◌}
use mathlib.Core.Bool.{Bool, true, false}
use Prim.Native.Nat.{ℕ, ◌-◌, ◌*◌, ◌≤◌, ◌<◌}
use native.Mathlib.Nat.{mul-le-mul, pow-le-pow_left, le_refl, div-one, mul_comm}
use native.Mathlib.Omega.{arith}
use Rattle.arithmetic.specs.Choice.{when◌then◌else◌}
use Rattle.arithmetic.proofs.Rounding.{down_of, down_whole}
use Rattle.hydrostatics.specs.declared.Row.{Row}
use Rattle.loading.specs.Load.{Tank, Load, weight, LoweredTank}
use Rattle.loading.specs.Paper.{on_line, lesser_km, rule_of, slack, rectangle_parts, rectangle, paper_rules}
use Rattle.loading.specs.Stability.{km, unrounded_gm}
use Rattle.loading.specs.Table.{Table, Place, place_of, on, between}
use Rattle.loading.specs.declared.Reading.{Reading}
use Rattle.loading.specs.declared.Reading.TheVariants.{Lesser, StraightLine}
use Rattle.loading.proofs.Demand.{Demand3, demand_3}
use Rattle.loading.proofs.Laws.{SoundReading, SoundSurface, Sound, Usable}
use Rattle.loading.proofs.Places.{Stands}
use Rattle.loading.proofs.Rectangles.{empty_parts}

span_some : (W : ℕ) (p : Place) → Stands W p → 0 < (on_line p W).bottom
span_some W (on r) h = omega arith
span_some W (between r s) h = omega arith

pub reading_sound : (reading : Reading) → SoundReading (rule_of reading)
reading_sound Lesser = record { rounds = λ W p h. down_whole (lesser_km p) (on_line p W).bottom (span_some W p h) }
reading_sound StraightLine = record { rounds = λ W p h. down_of (on_line p W).top (on_line p W).bottom (span_some W p h) }

if_mono : (c : Bool) (a b : ℕ) → a ≤ b → (when c then a else 0) ≤ (when c then b else 0)
unfolding when◌then◌else◌
if_mono true a b h = h
if_mono false a b h = le_refl 0

lowered_less : (s t : Tank) → LoweredTank s t → rectangle_parts s ≤ rectangle_parts t
unfolding rectangle_parts slack
lowered_less s t h =
    rw (h.contents, h.capacity)
    (if_mono _ _ _ (mul-le-mul (mul-le-mul h.length (pow-le-pow_left h.breadth 3)) h.density))

pub rectangle_sound : SoundSurface rectangle
rectangle_sound = record {
  unit_some = omega arith;
  empty = empty_parts;
  lowered = lowered_less;
}

pub paper_sound : (reading : Reading) → Sound (paper_rules reading)
paper_sound reading = record { reading = reading_sound reading; surface = rectangle_sound }

pub demand_3_of_the_paper : (reading : Reading) (t : Table) → Usable t → Demand3 (paper_rules reading) t
demand_3_of_the_paper reading = demand_3 (paper_rules reading) (paper_sound reading)

pub own_weight : (reading : Reading) (r : Row) (W : ℕ) → (rule_of reading).given (on r) W ≡ r.km
own_weight Lesser r W = refl
own_weight StraightLine r W = div-one r.km

-- both readings are over the same
same_bottom : (reading : Reading) (p : Place) (W : ℕ) → ((rule_of reading).unrounded p W).bottom ≡ (on_line p W).bottom
same_bottom Lesser p W = refl
same_bottom StraightLine p W = refl

-- "each multiplied by 12,000,000,000·W·(Dk+1 − Dk), the last factor left out at a row's own weight"
module _ (reading : Reading) (t : Table) (l : Load) where
  pub factor_between : (r s : Row) → place_of t (weight l) ≡ between r s → (unrounded_gm (paper_rules reading) t l).bottom ≡ rectangle.unit * weight l * (s.displacement - r.displacement)
  factor_between r s e = rw (same_bottom reading, e) (mul_comm (s.displacement - r.displacement) (rectangle.unit * weight l))

  pub factor_on : (r : Row) → place_of t (weight l) ≡ on r → (unrounded_gm (paper_rules reading) t l).bottom ≡ rectangle.unit * weight l
  factor_on r e = rw (same_bottom reading, e) (omega arith)

  pub km_on : (r : Row) → place_of t (weight l) ≡ on r → km (paper_rules reading) t l ≡ r.km
  km_on r e = ap (λ p. (rule_of reading).given p (weight l)) e ∙ own_weight reading r (weight l)
