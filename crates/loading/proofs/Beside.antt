-- The two readings of KM beside each other, for the same load and rows.
--     lesser_not_above         the lesser KM is not above the straight line
--     readings_beside          so by the lesser GM is never above GM by the straight line, and what passes by it passes by the other;
--                              what one refuses, the other refuses alike
--     same_at_own_weight       at a row's own weight both come to the same
-- Assumes nothing.
use mathlib.Core.Path.{◌≡◌, refl, sym, ap, ◌∙◌}
use mathlib.Core.Bool.{Bool, true, false}
use mathlib.Core.List.{List}
use Prim.Native.Nat.{ℕ, ◌+◌, ◌/◌, ◌≤◌, min}
use native.Mathlib.Nat.{div-one, le_of_eq}
use native.Mathlib.Omega.{arith}
use borrow.Author.Tests.{ltb-false}
use lib.IntN.{ℤ}
use lib.Signed.{◌≤ℤ◌}
use Rattle.arithmetic.specs.Choice.{when◌then◌else◌}
use Rattle.arithmetic.specs.Rounding.{rounded_up}
use Rattle.hydrostatics.specs.declared.Row.{Row}
use Rattle.ranges.specs.Outcome.{Outcome, answered, refused, and_then}
use Rattle.loading.specs.Beside.{Alike, both_answered, both_refused, NotAbove}
use Rattle.loading.specs.Condition.{condition_at, floats, condition_by}
use Rattle.loading.specs.Load.{Load, weight, vertical_moment_of, transverse_moment_of}
use Rattle.loading.specs.Paper.{on_line, lesser_km, paper_rules}
use Rattle.loading.specs.Private.Aboard.{aboard_of}
use Rattle.loading.specs.Private.Afloat.{Within}
use Rattle.loading.specs.Private.Steady.{condition_with}
use Rattle.loading.specs.Records.{load_of}
use Rattle.loading.specs.Stability.{free_surface_of, draft, km, gm}
use Rattle.loading.specs.Table.{Table, hull, Place, on, between, place_of}
use Rattle.loading.specs.declared.Reading.{Reading}
use Rattle.loading.specs.declared.Reading.TheVariants.{Lesser, StraightLine}
use Rattle.arithmetic.proofs.Differences.{difference_le}
use Rattle.loading.proofs.Flotation.{line_above}
use Rattle.loading.proofs.Lowering.{pass_mono}
use Rattle.loading.proofs.Moments.{condition_is}
use Rattle.loading.proofs.Places.{Stands, place_stands}
use Rattle.loading.proofs.Readings.{km_on}

pub lesser_not_above : (p : Place) (W : ℕ) → Stands W p → lesser_km p ≤ (on_line p W).top / (on_line p W).bottom
lesser_not_above (on r) W h = le_of_eq (sym (div-one r.km))
lesser_not_above (between r s) W h =
    line_above r.displacement s.displacement W (omega (arith, h.0)) h.1 r.km s.km (min r.km s.km) (omega arith) (omega arith)

module _ (t : Table) (l : Load) (w : Within t (weight l)) where
  km_not_above : km (paper_rules Lesser) t l ≤ km (paper_rules StraightLine) t l
  km_not_above = lesser_not_above (place_of t (weight l)) (weight l) (place_stands t (weight l) w)

  gm_not_above : gm (paper_rules Lesser) t l ≤ℤ gm (paper_rules StraightLine) t l
  unfolding free_surface_of
  gm_not_above =
      let kg = rounded_up (vertical_moment_of l + free_surface_of (paper_rules Lesser) l) (weight l) in
      difference_le (km (paper_rules Lesser) t l) kg (km (paper_rules StraightLine) t l) kg (omega (arith, km_not_above))

  at_not_above : NotAbove (condition_at Lesser t l) (condition_at StraightLine t l)
  unfolding condition_at free_surface_of
  at_not_above = record {
    weight = refl;
    draft = refl;
    lcg = refl;
    vertical_moment = refl;
    free_surface = refl;
    transverse_moment = refl;
    km = km_not_above;
    gm = gm_not_above;
    pass = pass_mono (weight l) (transverse_moment_of l) (gm (paper_rules Lesser) t l) (gm (paper_rules StraightLine) t l) gm_not_above;
  }

-- ---- all that is tried before is the same for both
module _ {A : Type 0} (R : A → A → Type 0) where
  alike_if : (test : Bool) (number place : ℕ) {x y : Outcome A} → (test ≡ false → Alike R x y) → Alike R (when test then refused number place else x) (when test then refused number place else y)
  unfolding when◌then◌else◌
  alike_if true number place f = both_refused
  alike_if false number place f = f refl

  alike_then : {B : Type 0} (o : Outcome B) {f g : B → Outcome A} → ((b : B) → Alike R (f b) (g b)) → Alike R (and_then o f) (and_then o g)
  unfolding and_then
  alike_then (answered b) h = h b
  alike_then (refused number place) h = both_refused

floats_beside : (t : Table) (l : Load) → Alike NotAbove (floats Lesser t l) (floats StraightLine t l)
unfolding floats
floats_beside t l =
    alike_if NotAbove _ _ _ (λ light. alike_if NotAbove _ _ _ (λ heavy.
    both_answered (at_not_above t l (record { least = ltb-false _ _ light; most = ltb-false _ _ heavy }))))

pub readings_beside : (items tanks : List ℤ) (rows : List ℕ) → Alike NotAbove (condition_by Lesser items tanks rows) (condition_by StraightLine items tanks rows)
unfolding condition_by
readings_beside items tanks rows =
    alike_if NotAbove _ _ _ (λ i. alike_if NotAbove _ _ _ (λ k. alike_if NotAbove _ _ _ (λ r. alike_then NotAbove _ (λ good.
    alike_if NotAbove _ _ _ (λ j. alike_then NotAbove _ (λ last. floats_beside (hull rows) (load_of items tanks)))))))

-- ---- at a row's own weight
module _ (reading other : Reading) where
  at_own_weight : (t : Table) (l : Load) (r : Row) → place_of t (weight l) ≡ on r → condition_at reading t l ≡ condition_at other t l
  at_own_weight t l r e =
      sym (condition_is l reading t)
      ∙ ap (condition_with (aboard_of l) (draft t l)) (km_on reading t l r e ∙ sym (km_on other t l r e))
      ∙ condition_is l other t

  pub same_at_own_weight : (items tanks : List ℤ) (rows : List ℕ) (r : Row) → place_of (hull rows) (weight (load_of items tanks)) ≡ on r → condition_by reading items tanks rows ≡ condition_by other items tanks rows
  unfolding condition_by floats
  same_at_own_weight items tanks rows r e = rw (at_own_weight (hull rows) (load_of items tanks) r e)
