-- How an outcome is told by numbers alone: 0 and the values of the answer, or the refusal's number and its place. What is not
-- told stays as it was.
use Rattle.std.specs.Prelude.{ℕ, ◌≤◌, List, [], ◌∷◌, ◌≡◌, Float, ℤ, get_or}
use Rattle.hoppers.specs.declared.FreeSurface.{FreeSurface}
use Rattle.hydrostatics.specs.declared.Figures.{Figures}
use Rattle.inclining.specs.declared.LightShip.{LightShip}
use Rattle.inclining.specs.declared.Test.{Test}
use Rattle.levers.specs.declared.Profile.{Profile}
use Rattle.levers.specs.declared.Rule.{Rule}
use Rattle.levers.specs.declared.Rule.TheVariants.{Met, Missed}
use Rattle.loading.specs.declared.Condition.{Condition}
use Rattle.loading.specs.declared.Heel.{Heel}
use Rattle.loading.specs.declared.Heel.TheVariants.{Unstable, Upright, Heeled, Beyond}
use Rattle.offsets.specs.declared.Summary.{Summary}
use Rattle.report.specs.Lines.{mark}
use Rattle.ranges.specs.Outcome.{Outcome, answered, refused, value_after}
use Rattle.ranges.specs.Refusals.{first_refusal, last_refusal}

abbrev pub number_of : {A : Type 0} → Outcome A → ℕ
number_of (answered a) = 0
number_of (refused number place) = number

abbrev pub place_after : {A : Type 0} → Outcome A → ℕ → ℕ
place_after (answered a) was = was
place_after (refused number place) was = place

-- the number a call returns, the place it leaves, and the values
pub record Tells {A B : Type 0} (value : A → B) (outcome : Outcome A) (was left : B) (place placeLeft number : ℕ) : Type 0 where
  pub number_is : number ≡ number_of outcome
  pub place_is : placeLeft ≡ place_after outcome place
  pub value_is : left ≡ value_after value outcome was

-- The number tells an answer from a refusal: 0 exactly where the outcome is an answer, and else the refusal's own, one of the paper's.
pub record Apart {A : Type 0} (outcome : Outcome A) (number : ℕ) : Type 0 where
  pub zero_answered : number ≡ 0 → (a : A) × (outcome ≡ answered a)
  pub answered_zero : {a : A} → outcome ≡ answered a → number ≡ 0
  pub else_numbered : {n place : ℕ} → outcome ≡ refused n place → (number ≡ n) × (first_refusal ≤ number) × (number ≤ last_refusal)

-- the five particulars, the count of items and the count of tanks
abbrev pub summary_numbers : Summary → List ℕ
summary_numbers s =
    s.particulars.n ∷ s.particulars.m ∷ s.particulars.s ∷ s.particulars.d ∷ s.particulars.density ∷ s.items ∷ s.tanks ∷ []

-- the seven figures of a displayed row, in its order
abbrev pub figure_numbers : Figures → List Float
figure_numbers f = f.draft ∷ f.displacement ∷ f.lcb ∷ f.kb ∷ f.bm ∷ f.km ∷ f.area ∷ []

-- a free surface: its inertia and its moment
abbrev pub surface_numbers : FreeSurface → List ℕ
surface_numbers s = s.inertia ∷ s.moment ∷ []

-- an inclining test of four numbers; and GM as measured, the light ship's weight, vertical moment and KG
abbrev pub test_of : List ℕ → Test
test_of four = record { weight = get_or four 0 0; km = get_or four 1 0; free_surface = get_or four 2 0; pendulum = get_or four 3 0 }

abbrev pub light_ship_numbers : LightShip → List ℕ
light_ship_numbers s = s.measured_gm ∷ s.weight ∷ s.vertical_moment ∷ s.vcg ∷ []

-- a profile's numbers without a sign: the peak's angle, then 1 for each rule that is met and 0 for each that is missed; its numbers with a sign:
-- GM, GZ at 30 degrees, and the sums to t and from 30 to 40
abbrev pub met : Rule → ℕ
met Met = 1
met Missed = 0

abbrev pub profile_wholes : Profile → List ℕ
profile_wholes p =
    p.peak_angle ∷ met p.rules.peak ∷ met p.rules.area_to_t ∷ met p.rules.area_from_30_to_40 ∷ met p.rules.gz_at_30 ∷ met p.rules.gm ∷ []

abbrev pub profile_signed : Profile → List ℤ
profile_signed p = p.gm ∷ p.gz_at_30 ∷ p.sum_to_t ∷ p.sum_from_30_to_40 ∷ []

-- how the vessel lies: 0 unstable, 1 upright, 2 heeled, 3 beyond
abbrev pub lie : Heel → ℕ
lie Unstable = 0
lie Upright = 1
lie (Heeled tangent) = 2
lie Beyond = 3

-- a condition's numbers without a sign, then how it lies and whether it passes; its numbers with a sign: GM and the transverse moment
abbrev pub wholes_of : Condition → List ℕ
wholes_of c =
    c.weight ∷ c.draft ∷ c.km ∷ c.lcg ∷ c.vertical_moment ∷ c.free_surface ∷ lie c.heel ∷ mark c.passes ∷ []

abbrev pub signed_of : Condition → List ℤ
signed_of c = c.gm ∷ c.transverse_moment ∷ []

-- the tangent is left only where the vessel is heeled
abbrev pub tangent_of : Heel → Float → Float
tangent_of (Heeled tangent) was = tangent
tangent_of Unstable was = was
tangent_of Upright was = was
tangent_of Beyond was = was

abbrev pub tangent_after : Outcome Condition → Float → Float
tangent_after (answered c) was = tangent_of c.heel was
tangent_after (refused number place) was = was

-- all that a condition's call leaves
pub record TellsCondition (outcome : Outcome Condition) (wholes wholesLeft : List ℕ) (signed signedLeft : List ℤ) (tangent tangentLeft : Float) (place placeLeft number : ℕ) : Type 0 where
  pub tells : Tells wholes_of outcome wholes wholesLeft place placeLeft number
  pub signed_is : signedLeft ≡ value_after signed_of outcome signed
  pub tangent_is : tangentLeft ≡ tangent_after outcome tangent
