-- What lowering does to weight and moments; and that a higher GM passes where a lower one does.
--     lower_weight, lower_longitudinal, lower_transverse      lowering leaves the weight and these moments
--     lower_vertical                                          and does not raise the vertical one
--     pass_is                                                 a pass, told in numbers
--     pass_mono                                               a higher GM passes where a lower one does
-- Assumes nothing.
use mathlib.Core.Path.{◌≡◌, ap₂}
use mathlib.Core.Bool.{Bool, true, false, ◌&&◌}
use mathlib.Core.Logic.{◌↔◌}
use Prim.Native.Nat.{ℕ, ◌+◌, ◌*◌, ◌≤◌}
use native.Mathlib.Nat.{mul-le-mul, mul-le-mul_left, le_of_eq}
use native.Mathlib.Omega.{arith}
use lib.Dec.{T, eqb, leb, leb→le, le→leb, eqb→eq}
use lib.IntN.{ℤ, pos, negsuc, nat_abs, ◌+ℤ◌, ◌*ℤ◌}
use lib.Signed.{◌≤ℤ◌}
use Rattle.arithmetic.specs.Choice.{when◌then◌else◌}
use Rattle.loading.specs.Load.{Load, weight, longitudinal_moment_of, vertical_moment_of, transverse_moment_of, Lowered}
use Rattle.loading.specs.Stability.{least_gm, heel_limit, ten_thousandths, heel_of, stands, passes, tangent}
use Rattle.loading.specs.declared.Heel.TheVariants.{Unstable, Upright, Heeled, Beyond}
use Rattle.loading.proofs.Adding.{total_same, total_ℤ_same, total_mono}

pub lower_weight : (k l : Load) → Lowered k l → weight k ≡ weight l
unfolding weight
lower_weight k l h = ap₂ ◌+◌ (total_same (λ i. i.kg) (λ i j r. r.kg) h.items) (total_same (λ t. t.contents) (λ s t r. r.contents) h.tanks)

pub lower_longitudinal : (k l : Load) → Lowered k l → longitudinal_moment_of k ≡ longitudinal_moment_of l
unfolding longitudinal_moment_of
lower_longitudinal k l h =
    ap₂ ◌+◌
    (total_same (λ i. i.kg * i.x) (λ i j r. ap₂ ◌*◌ r.kg r.x) h.items)
    (total_same (λ t. t.contents * t.x) (λ s t r. ap₂ ◌*◌ r.contents r.x) h.tanks)

pub lower_transverse : (k l : Load) → Lowered k l → transverse_moment_of k ≡ transverse_moment_of l
unfolding transverse_moment_of
lower_transverse k l h =
    ap₂ ◌+ℤ◌
    (total_ℤ_same (λ i. pos i.kg *ℤ i.y) (λ i j r. ap₂ (λ a b. pos a *ℤ b) r.kg r.y) h.items)
    (total_ℤ_same (λ t. pos t.contents *ℤ t.y) (λ s t r. ap₂ (λ a b. pos a *ℤ b) r.contents r.y) h.tanks)

pub lower_vertical : (k l : Load) → Lowered k l → vertical_moment_of k ≤ vertical_moment_of l
unfolding vertical_moment_of
lower_vertical k l h =
    omega (
      arith,
      total_mono (λ i. i.kg * i.z) (λ i j r. mul-le-mul (le_of_eq r.kg) r.z) h.items,
      total_mono (λ t. t.contents * t.z) (λ s t r. mul-le-mul (le_of_eq r.contents) r.z) h.tanks,
    )

-- ---- a pass
and_out : (a b : Bool) → T (a && b) → T a × T b
and_out true b k = (tt, k)
and_out false b k = absurd k

and_in : (a b : Bool) → T a → T b → T (a && b)
and_in true b h k = k
and_in false b h k = h

-- what the four outcomes of the heel say of its three tests
module _ (W : ℕ) (gm my : ℤ) where
  stands_out : {P : Type 0} (u o h : Bool) → (T o → P) → (T h → P) → T (stands (when u then Unstable else when o then Upright else when h then Heeled (tangent W gm my) else Beyond)) → P
  unfolding when◌then◌else◌
  stands_out true o h f g k = absurd k
  stands_out false true h f g k = f k
  stands_out false false true f g k = g k
  stands_out false false false f g k = absurd k

  stands_in : (u o h : Bool) → (T u → ⊥) → T h → T (stands (when u then Unstable else when o then Upright else when h then Heeled (tangent W gm my) else Beyond))
  unfolding when◌then◌else◌
  stands_in true o h e k = e tt
  stands_in false true h e k = tt
  stands_in false false true e k = tt
  stands_in false false false e k = k

-- no less than the least GM, and no more heel than the limit
pub pass_is : (W n : ℕ) (my : ℤ) → T (passes W (pos n) my) ↔ ((least_gm ≤ n) × (ten_thousandths * nat_abs my ≤ heel_limit * W * n))
unfolding passes heel_of
pass_is W n my =
    let unstable = leb n 0 in
    let upright = eqb (nat_abs my) 0 in
    let heeled = leb (ten_thousandths * nat_abs my) (heel_limit * W * n) in (
      λ p.
          let q = and_out (leb least_gm n) _ p in (
            leb→le least_gm n q.0,
            stands_out W (pos n) my unstable upright heeled
                (λ o. omega (arith, eqb→eq (nat_abs my) 0 o))
                (λ h. leb→le (ten_thousandths * nat_abs my) (heel_limit * W * n) h)
                q.1,
          ),
      λ p.
          and_in (leb least_gm n) _ (le→leb least_gm n p.0)
          (stands_in W (pos n) my unstable upright heeled
          (λ u. omega (arith, leb→le n 0 u))
          (le→leb (ten_thousandths * nat_abs my) (heel_limit * W * n) p.1)),
    )

pub pass_mono : (W : ℕ) (my g h : ℤ) → g ≤ℤ h → T (passes W g my) → T (passes W h my)
unfolding passes
pass_mono W my (negsuc g) h l p = absurd p
pass_mono W my (pos g) (negsuc h) l p = absurd l.le
pass_mono W my (pos g) (pos h) l p =
    let q = (pass_is W g my).0 p in
    let k : g ≤ h = leb→le g h l.le in
    (pass_is W h my).1 (omega arith, omega (arith, mul-le-mul_left (heel_limit * W) k))
