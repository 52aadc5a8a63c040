-- The definitions give the figures of the plainest profiles, of each refusal, and of two tables on which a lower KG misses a rule.
--     plainest_profiles_are          what each comes to
--     peak_turned, area_turned   all five rules are met, and 1 mm lower the peak or the area to t is missed: rounding moves the peak
-- The others are run by the crate trials. Assumes nothing.
use Prim.Native.Nat.{ℕ}
use mathlib.Core.Path.{◌≡◌, refl}
use mathlib.Core.List.{List, [], ◌∷◌, map}
use lib.IntN.{ℤ, pos, negsuc}
use lib.ListN.{replicate}
use Rattle.arithmetic.specs.Choice.{when◌then◌else◌}
use Rattle.arithmetic.specs.Rounding.{rounded_up}
use Rattle.arithmetic.specs.Sum.{sum_by}
use Rattle.ranges.specs.Fields.{within}
use Rattle.ranges.specs.Outcome.{Outcome, answered, refused}
use Rattle.ranges.specs.Outside.{outside_from, first_outside, outside_then}
use Rattle.ranges.specs.Refusals.{out_of_range, wrong_size}
use Rattle.simpson.specs.Curve.{curve_ℤ}
use Rattle.simpson.specs.Multipliers.{first_rule, second_rule, later, multiplier}
use Rattle.levers.specs.Criterion.{at_least}
use Rattle.levers.specs.Levers.{products, lever, peak_up_to, Q, held}
use Rattle.levers.specs.Promise.{outside, profile_of}
use Rattle.levers.specs.declared.Profile.{Profile}
use Rattle.levers.specs.declared.Rule.{Rule}
use Rattle.levers.specs.declared.Rule.TheVariants.{Met, Missed}
use Rattle.levers.specs.declared.Rules.{Rules}

-- KN, KM and KG
pub record Given : Type 0 where
  pub kn : List ℕ
  pub km : ℕ
  pub kg : ℕ

abbrev given : List ℕ → ℕ → ℕ → Given
given kn km kg = record { kn = kn; km = km; kg = kg }

-- where the peak stands, the area to t, the area from 30 to 40 degrees, GZ at 30 degrees, GM
abbrev pub five : Rule → Rule → Rule → Rule → Rule → Rules
five peak to_t from_30 gz gm = record { peak = peak; area_to_t = to_t; area_from_30_to_40 = from_30; gz_at_30 = gz; gm = gm }

-- the peak's angle, GM, GZ at 30 degrees, the sums to t and from 30 to 40 degrees
abbrev pub is : ℕ → ℤ → ℤ → ℤ → ℤ → Rules → Outcome Profile
is peak gm gz to_t from_30 rules =
    answered (record { peak_angle = peak; gm = gm; gz_at_30 = gz; sum_to_t = to_t; sum_from_30_to_40 = from_30; rules = rules })

abbrev pub plainest_profiles : List (Given × Outcome Profile)
plainest_profiles =
    -- nothing: all alike, and the first is the peak
    (given (replicate 13 0) 0 0, is 0 (pos 0) (pos 0) (pos 0) (pos 0) (five Missed Missed Missed Missed Missed))
    -- KG of 1 mm: every product but the first is 1; the peak is beyond 30 degrees
    ∷ (given (0 ∷ 1 ∷ 2 ∷ 300 ∷ 400 ∷ 500 ∷ 600 ∷ 700 ∷ 800 ∷ 900 ∷ 1_000 ∷ 1_100 ∷ 1_200 ∷ []) 151 1, is 60 (pos 150) (pos 599) (pos 36_728) (pos 33_552) (five Met Met Met Met Met))
    -- a peak at 15 degrees: three intervals by the second rule
    ∷ (given (0 ∷ 231 ∷ 272 ∷ 631 ∷ 606 ∷ 617 ∷ 616 ∷ 615 ∷ 491 ∷ 475 ∷ 477 ∷ 495 ∷ 388 ∷ []) 149 0, is 15 (pos 149) (pos 616) (pos 19_260) (pos 28_536) (five Met Met Met Met Missed))
    -- the area to 15, 20, 25 and 30 degrees, and from 30 to 40, each the last sum that misses and the first that meets; GZ at 30 of 200 and of 199
    ∷ (given (0 ∷ 200 ∷ 350 ∷ 489 ∷ replicate 9 0) 150 0, is 15 (pos 150) (pos 0) (pos 19_251) (pos 0) (five Met Missed Missed Missed Met))
    ∷ (given (0 ∷ 200 ∷ 350 ∷ 490 ∷ replicate 9 0) 150 0, is 15 (pos 150) (pos 0) (pos 19_260) (pos 0) (five Met Met Missed Missed Met))
    ∷ (given (0 ∷ 120 ∷ 200 ∷ 200 ∷ 554 ∷ replicate 8 0) 150 0, is 20 (pos 150) (pos 0) (pos 17_872) (pos 0) (five Met Missed Missed Missed Met))
    ∷ (given (0 ∷ 120 ∷ 200 ∷ 200 ∷ 555 ∷ replicate 8 0) 150 0, is 20 (pos 150) (pos 0) (pos 17_880) (pos 0) (five Met Met Missed Missed Met))
    ∷ (given (0 ∷ 91 ∷ 100 ∷ 150 ∷ 200 ∷ 271 ∷ replicate 7 0) 150 0, is 25 (pos 150) (pos 0) (pos 16_501) (pos 0) (five Met Missed Missed Missed Met))
    ∷ (given (0 ∷ 93 ∷ 100 ∷ 150 ∷ 200 ∷ 264 ∷ replicate 7 0) 150 0, is 25 (pos 150) (pos 0) (pos 16_502) (pos 0) (five Met Met Missed Missed Met))
    ∷ (given (0 ∷ 50 ∷ 80 ∷ 100 ∷ 130 ∷ 150 ∷ 270 ∷ replicate 6 0) 150 0, is 30 (pos 150) (pos 270) (pos 15_120) (pos 2_160) (five Met Missed Missed Met Met))
    ∷ (given (0 ∷ 50 ∷ 80 ∷ 100 ∷ 130 ∷ 150 ∷ 271 ∷ replicate 6 0) 150 0, is 30 (pos 150) (pos 271) (pos 15_128) (pos 2_168) (five Met Met Missed Met Met))
    ∷ (given (0 ∷ 0 ∷ 0 ∷ 0 ∷ 0 ∷ 0 ∷ 200 ∷ 158 ∷ 199 ∷ replicate 4 0) 150 0, is 30 (pos 150) (pos 200) (pos 1_600) (pos 8_248) (five Met Missed Missed Met Met))
    ∷ (given (0 ∷ 0 ∷ 0 ∷ 0 ∷ 0 ∷ 0 ∷ 199 ∷ 158 ∷ 201 ∷ replicate 4 0) 150 0, is 40 (pos 150) (pos 199) (pos 1_592) (pos 8_256) (five Met Missed Met Missed Met))
    -- GM and levers below 0
    ∷ (given (replicate 13 0) 0 10, is 0 (negsuc 9) (negsuc 4) (negsuc 107) (negsuc 287) (five Missed Missed Missed Missed Missed))
    -- one number too few, one too many
    ∷ (given (replicate 12 0) 100_001 0, refused wrong_size 0)
    ∷ (given (replicate 14 20_001) 0 0, refused wrong_size 0)
    -- KN before KM, KM before KG, KG
    ∷ (given (0 ∷ 20_001 ∷ replicate 11 20_001) 100_001 0, refused out_of_range 1)
    ∷ (given (replicate 13 20_000) 100_001 100_001, refused out_of_range 13)
    ∷ (given (replicate 13 20_000) 100_000 100_001, refused out_of_range 14)
    ∷ []

pub plainest_profiles_are : map (λ f. profile_of f.0.kn f.0.km f.0.kg) plainest_profiles ≡ map (λ f. f.1) plainest_profiles
unfolding profile_of outside outside_then first_outside outside_from within products lever peak_up_to held Q at_least rounded_up curve_ℤ sum_by multiplier first_rule second_rule later when◌then◌else◌
plainest_profiles_are = refl

-- ---- rounding moves the peak: 15 degrees leads 10 by 1 mm, and they tie when KG is 1 mm lower
abbrev pub tying_at10 : List ℕ
tying_at10 =
    0 ∷ 562 ∷ 1_121 ∷ 1_377 ∷ 1_625 ∷ 1_859 ∷ 2_081 ∷ 2_292 ∷ 2_490 ∷ 2_663 ∷ 2_799 ∷ 2_909 ∷ 2_999 ∷ []

pub peak_turned :
    (profile_of tying_at10 4_000 3_001 ≡ is 15 (pos 999) (pos 580) (pos 29_673) (pos 27_360) (five Met Met Met Met Met))
    × (profile_of tying_at10 4_000 3_000 ≡ is 10 (pos 1_000) (pos 581) (pos 29_700) (pos 27_408) (five Missed Met Met Met Met))
unfolding profile_of outside outside_then first_outside outside_from within products lever peak_up_to held Q at_least rounded_up curve_ℤ sum_by multiplier first_rule second_rule later when◌then◌else◌
peak_turned = (refl, refl)

-- 20 degrees leads 15, and they tie: t falls from 20 to 15, where less area is gathered and more is asked for
abbrev pub tying_at15 : List ℕ
tying_at15 = 0 ∷ 363 ∷ 723 ∷ 1_079 ∷ 1_330 ∷ 1_571 ∷ 1_801 ∷ 2_019 ∷ 2_223 ∷ 2_409 ∷ 2_576 ∷ 2_726 ∷ 2_847 ∷ []

pub area_turned :
    (profile_of tying_at15 4_000 3_010 ≡ is 20 (pos 990) (pos 296) (pos 18_368) (pos 14_016) (five Met Met Met Met Met))
    × (profile_of tying_at15 4_000 3_009 ≡ is 15 (pos 991) (pos 296) (pos 10_800) (pos 14_048) (five Met Missed Met Met Met))
unfolding profile_of outside outside_then first_outside outside_from within products lever peak_up_to held Q at_least rounded_up curve_ℤ sum_by multiplier first_rule second_rule later when◌then◌else◌
area_turned = (refl, refl)
