-- The profile made of its parts, and what is promised of it.
--     held_bounds, held_within        t is 15 to 30 degrees, and where the sum to it ends
--     to_t, area_to_t, stands         that sum, its rule and the peak's, by number
--     from_30                         the sum from 30 to 40 degrees
--     made                            the profile, from equations of its parts
--     declined, answered_so           what is promised: of a refusal, and of an answer
-- Assumes nothing.
use Prim.Native.Nat.{ℕ, ◌+◌, ◌-◌, ◌≤◌}
use mathlib.Core.Path.{◌≡◌, ap, ap₂, ◌∙◌}
use mathlib.Core.List.{List}
use native.Mathlib.Omega.{arith}
use borrow.Author.Tests.{ltb-false}
use lib.IntN.{ℤ, pos, ◌-ℤ◌}
use Rattle.std.specs.Prelude.{Ok, Err}
use Rattle.arithmetic.proofs.Choice.{if_either}
use Rattle.ranges.specs.Outcome.{answered, refused}
use Rattle.ranges.specs.Reasons.{number_of}
use Rattle.ranges.specs.declared.refusal.Refusal.{Refusal}
use Rattle.simpson.specs.Curve.{curve_ℤ}
use Rattle.levers.specs.Criterion.{least_peak, area_and_t, least_area, least_gz, least_gm, at_least, area_at_least, GM, profile}
use Rattle.levers.specs.Levers.{products, lever, GZ, at_each, peak, Q, held, t}
use Rattle.levers.specs.Private.Tables.{Between}
use Rattle.levers.specs.Promise.{profile_of, levers_after, MakesProfile}
use Rattle.levers.specs.Sines.{degrees, number_at}
use Rattle.levers.specs.declared.Profile.{Profile}
use Rattle.levers.specs.declared.Rule.{Rule}

-- 15 to 30 degrees
pub held_bounds : (angle : ℕ) → (15 ≤ held angle) × (held angle ≤ 30)
unfolding held
held_bounds angle =
    if_either (λ (a : ℕ). (15 ≤ a) × (a ≤ 30)) _ (λ e. (omega arith, omega arith))
    (λ e. if_either (λ (a : ℕ). (15 ≤ a) × (a ≤ 30)) _ (λ f. (omega arith, omega arith)) (λ f. (omega (arith, ltb-false angle 15 e), omega (arith, ltb-false 30 angle f))))

pub held_within : (last angle : ℕ) → degrees last ≡ held angle → Between 0 last
held_within last angle e = let so = held_bounds angle in record { two = omega (arith, e); within = omega (arith, e) }

module _ (gz : ℕ → ℤ) (number last : ℕ) (e : number ≡ peak gz) (f : degrees last ≡ held (degrees number)) where
  t_is : degrees last ≡ t gz
  t_is = f ∙ ap (λ n. held (degrees n)) e

  pub to_t : {v : ℤ} → v ≡ curve_ℤ (last - 0) (λ i. gz (0 + i)) → v ≡ Q gz 0 (t gz)
  unfolding Q
  to_t is =
      let n : last - 0 ≡ number_at (t gz - 0) = omega (arith, t_is) in
      is ∙ ap (λ n. curve_ℤ n (λ i. gz (0 + i))) n

  pub area_to_t : {v : ℤ} {r : Rule} → r ≡ area_at_least (area_and_t - degrees last) v → v ≡ curve_ℤ (last - 0) (λ i. gz (0 + i)) → r ≡ area_at_least (area_and_t - t gz) (Q gz 0 (t gz))
  area_to_t r is = r ∙ ap₂ (λ t v. area_at_least (area_and_t - t) v) t_is (to_t is)

  pub stands : {r : Rule} → r ≡ at_least least_peak (pos (degrees number) -ℤ pos 0) → r ≡ at_least least_peak (pos (degrees (peak gz)))
  stands r = r ∙ ap (λ n. at_least least_peak (pos n)) (omega (arith, e))

pub from_30 : (gz : ℕ → ℤ) {v : ℤ} → v ≡ curve_ℤ (number_at 40 - number_at 30) (λ i. gz (number_at 30 + i)) → v ≡ Q gz 30 40
unfolding Q
from_30 gz is = is

module _ (gz : ℕ → ℤ) (height : ℤ) {gm lever30 toT from30 : ℤ} {angle : ℕ} {a b c d e : Rule} where
  pub made :
      angle ≡ degrees (peak gz)
      → gm ≡ height
      → lever30 ≡ gz (number_at 30)
      → toT ≡ Q gz 0 (t gz)
      → from30 ≡ Q gz 30 40
      → a ≡ at_least least_peak (pos (degrees (peak gz)))
      → b ≡ area_at_least (area_and_t - t gz) (Q gz 0 (t gz))
      → c ≡ area_at_least least_area (Q gz 30 40)
      → d ≡ at_least least_gz (gz (number_at 30))
      → e ≡ at_least least_gm height
      → record { peak_angle = angle; gm = gm; gz_at_30 = lever30; sum_to_t = toT; sum_from_30_to_40 = from30; rules = record { peak = a; area_to_t = b; area_from_30_to_40 = c; gz_at_30 = d; gm = e } } ≡ profile gz height
  made p g l s u v w x y z = λ i. record {
    peak_angle = p i;
    gm = g i;
    gz_at_30 = l i;
    sum_to_t = s i;
    sum_from_30_to_40 = u i;
    rules = record { peak = v i; area_to_t = w i; area_from_30_to_40 = x i; gz_at_30 = y i; gm = z i };
  }

module _ {kn : List ℕ} {km kg : ℕ} {gz : List ℤ} where
  pub declined : {r s : Refusal} → r ≡ s → refused (number_of s.reason) s.place ≡ profile_of kn km kg → MakesProfile kn km kg gz gz (Err r)
  declined a e = rw a (record { answer_is = e; left = ap (λ o. levers_after kn kg o gz) e })

  pub answered_so : {off : List ℕ} {levers : List ℤ} {p : Profile} → off ≡ products kg → levers ≡ at_each (lever kn off) → p ≡ profile (lever kn off) (GM km kg) → answered (profile (GZ kn kg) (GM km kg)) ≡ profile_of kn km kg → MakesProfile kn km kg gz levers (Ok p)
  answered_so o l p e = record {
    answer_is = ap answered (p ∙ ap (λ off. profile (lever kn off) (GM km kg)) o) ∙ e;
    left = l ∙ ap (λ off. at_each (lever kn off)) o ∙ ap (λ o. levers_after kn kg o gz) e;
  }
