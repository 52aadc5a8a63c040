-- What the call that makes a supply vessel's profile comes to: "7 at 0, then 4 by angle, KM, KG (places 0..14)".
use Rattle.std.specs.Prelude.{ℕ, ◌+◌, ◌≡◌, not, List, [], ◌∷◌, map, eqb, ltb, ℤ, pos, length, Result}
use Rattle.arithmetic.specs.Choice.{when◌then◌else◌}
use Rattle.ranges.specs.Fields.{cross_curve, heights}
use Rattle.ranges.specs.Outcome.{Outcome, answered, refused, value_after}
use Rattle.ranges.specs.Outside.{first_outside, outside_then}
use Rattle.ranges.specs.Reasons.{paper}
use Rattle.ranges.specs.Refusals.{out_of_range, wrong_size}
use Rattle.ranges.specs.declared.refusal.Refusal.{Refusal}
use Rattle.levers.specs.Criterion.{GM, profile}
use Rattle.levers.specs.Levers.{GZ, at_each}
use Rattle.levers.specs.Sines.{angle_count}
use Rattle.levers.specs.declared.Profile.{Profile}

-- KN at each angle, KM and KG
abbrev pub count : ℕ
count = angle_count + length heights

module _ (kn : List ℕ) (km kg : ℕ) where
  -- the position of the first of them out of its range, or their count
  unfoldable pub outside : ℕ
  outside = outside_then cross_curve (map pos kn) (first_outside heights (map pos (km ∷ kg ∷ [])))

  unfoldable pub profile_of : Outcome Profile
  profile_of =
      when not (eqb (length kn) angle_count) then refused wrong_size 0
      else when ltb outside count then refused out_of_range outside
      else answered (profile (GZ kn kg) (GM km kg))

-- the lent levers afterwards: GZ at each angle; after a refusal what they were
abbrev pub levers_after : List ℕ → ℕ → Outcome Profile → List ℤ → List ℤ
levers_after kn kg = value_after (λ p. at_each (GZ kn kg))

pub record MakesProfile (kn : List ℕ) (km kg : ℕ) (gz gzAfter : List ℤ) (answer : Result Profile Refusal) : Type 0 where
  pub answer_is : paper answer ≡ profile_of kn km kg
  pub left : gzAfter ≡ levers_after kn kg (profile_of kn km kg) gz
