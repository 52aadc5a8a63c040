-- What change request 12 asks of a supply vessel's levers, sentence by sentence.
use Rattle.std.specs.Prelude.{◌≡◌, List, ◌↔◌, ℕ, ◌+◌, ◌-◌, ◌*◌, ◌/◌, ◌≤◌, ◌<◌, ℤ, pos, ◌-ℤ◌, ◌*ℤ◌, length, get_or, ◌≤ℤ◌, ◌<ℤ◌, Ok, Err}
use Rattle.arithmetic.specs.Rounding.{rounded_up}
use Rattle.ranges.specs.Outcome.{answered}
use Rattle.ranges.specs.declared.refusal.Refusal.{Refusal}
use Rattle.simpson.specs.Curve.{curve_ℤ}
use Rattle.levers.specs.Promise.{profile_of, MakesProfile}
use Rattle.levers.specs.SineRule.{SinesRight}
use Rattle.levers.specs.Sines.{sine}
use Rattle.levers.specs.declared.Profile.{Profile}
use Rattle.levers.specs.declared.Rule.{Rule}
use Rattle.levers.specs.declared.Rule.TheVariants.{Met, Missed}
use Rattle.demands.specs.Answering.{Answer, RefusedWith}
use Rattle.demands.specs.Limits.{NoneAbove, FirstAbove}

-- "Refusals: 7 at 0, then 4 by angle, KM, KG (places 0..14)."
pub record ProfileInOrder {kn : List ℕ} {km kg : ℕ} {gz after : List ℤ} {answer : Answer Profile} (made : MakesProfile kn km kg gz after answer) : Type 0 where
  pub seven_at_0 : (length kn ≡ 13 → ⊥) → RefusedWith 7 0 answer
  pub four_by_angle : length kn ≡ 13 → (i : ℕ) → FirstAbove 20_000 kn i → RefusedWith 4 i answer
  pub four_at_km : length kn ≡ 13 → NoneAbove 20_000 kn → 100_000 < km → RefusedWith 4 13 answer
  pub four_at_kg : length kn ≡ 13 → NoneAbove 20_000 kn → km ≤ 100_000 → 100_000 < kg → RefusedWith 4 14 answer
  pub else_found : length kn ≡ 13 → NoneAbove 20_000 kn → km ≤ 100_000 → kg ≤ 100_000 → (p : Profile) × (answer ≡ Ok p)

-- "The peak is the first greatest GZ", at 5 degrees a number: none is greater, and all before it are less
pub record FirstGreatest (gz : List ℤ) (angle : ℕ) : Type 0 where
  pub number : ℕ
  pub one_of_them : number < 13
  pub angle_is : angle ≡ 5 * number
  pub none_greater : (j : ℕ) → j < 13 → get_or gz j (pos 0) ≤ℤ get_or gz number (pos 0)
  pub less_before : (j : ℕ) → j < number → get_or gz j (pos 0) <ℤ get_or gz number (pos 0)

-- "t the peak's angle, but 15 if below and 30 if beyond"
pub record IsT (peak t : ℕ) : Type 0 where
  pub below : peak < 15 → t ≡ 15
  pub beyond : 30 < peak → t ≡ 30
  pub between : 15 ≤ peak → peak ≤ 30 → t ≡ peak

-- a rule is met where a number is at least so much, and nowhere else
abbrev pub Asks : Rule → ℕ → ℤ → Type 0
Asks rule least v = (rule ≡ Met) ↔ (pos least ≤ℤ v)

-- on one table of KN and one KM a profile at one KG, and one at a KG 1 mm lower
pub record OneLower : Type 0 where
  pub kn : List ℕ
  pub km : ℕ
  pub kg : ℕ
  pub higher : Profile
  pub lower : Profile
  pub at_higher : profile_of kn km (kg + 1) ≡ answered higher
  pub at_lower : profile_of kn km kg ≡ answered lower

pub record SupplyVessels : Type 0 where
  pub refused_in_order : {kn : List ℕ} {km kg : ℕ} {gz after : List ℤ} {answer : Answer Profile} (made : MakesProfile kn km kg gz after answer) → ProfileInOrder made
  -- nothing lent is written on a refusal
  pub refusals_write_nothing : {kn : List ℕ} {km kg : ℕ} {gz after : List ℤ} {r : Refusal} → MakesProfile kn km kg gz after (Err r) → after ≡ gz
  -- "GM is KM less KG. GZ = KN less KG .. times the sine, that product rounded up": as they are left, and the one at 30 degrees in the report
  pub gm_and_gz_follow_the_formulas : {kn : List ℕ} {km kg : ℕ} {gz after : List ℤ} {p : Profile} → MakesProfile kn km kg gz after (Ok p)
      → (p.gm ≡ pos km -ℤ pos kg) × (length after ≡ 13)
      × ((i : ℕ) → i < 13 → get_or after i (pos 0) ≡ pos (get_or kn i 0) -ℤ pos (rounded_up (kg * sine i) 1_000_000)) × (p.gz_at_30 ≡ get_or after 6 (pos 0))
  -- "The peak is the first greatest GZ; it must stand at 15 degrees or more"
  pub peak_is_the_first_greatest : {kn : List ℕ} {km kg : ℕ} {gz after : List ℤ} {p : Profile} → MakesProfile kn km kg gz after (Ok p)
      → FirstGreatest after p.peak_angle × Asks p.rules.peak 15 (pos p.peak_angle)
  -- "the multiplied sum Q of GZ from 0 to t must meet 5000·Q ≥ 24·57,296·(85 − t)"
  pub area_to_t : {kn : List ℕ} {km kg : ℕ} {gz after : List ℤ} {p : Profile} → MakesProfile kn km kg gz after (Ok p)
      → (t : ℕ) × IsT p.peak_angle t × (p.sum_to_t ≡ curve_ℤ (t / 5) (λ i. get_or after i (pos 0))) × Asks p.rules.area_to_t (24 * 57_296 * (85 - t)) (pos 5_000 *ℤ p.sum_to_t)
  -- "from 30 to 40 degrees 5000·Q ≥ 24·57,296·30"
  pub area_from_30_to_40 : {kn : List ℕ} {km kg : ℕ} {gz after : List ℤ} {p : Profile} → MakesProfile kn km kg gz after (Ok p)
      → (p.sum_from_30_to_40 ≡ curve_ℤ 2 (λ i. get_or after (6 + i) (pos 0))) × Asks p.rules.area_from_30_to_40 (24 * 57_296 * 30) (pos 5_000 *ℤ p.sum_from_30_to_40)
  -- "GZ at 30 is at least 200, GM at least 150"
  pub gz_at_30_and_gm : {kn : List ℕ} {km kg : ℕ} {gz after : List ℤ} {p : Profile} → MakesProfile kn km kg gz after (Ok p)
      → Asks p.rules.gz_at_30 200 p.gz_at_30 × Asks p.rules.gm 150 p.gm
  -- "On a fixed KN table and KM, lowering KG never turns a met GM, area from 30 to 40, or GZ at 30 into a miss": and what was answered is answered
  pub lowering_kg : {kn : List ℕ} {km kg kg' : ℕ} {gz gz' after after' : List ℤ} {answer : Answer Profile} {p : Profile} → kg' ≤ kg
      → MakesProfile kn km kg gz after (Ok p) → MakesProfile kn km kg' gz' after' answer
      → (p' : Profile) × (answer ≡ Ok p') × (p.rules.gm ≡ Met → p'.rules.gm ≡ Met)
      × (p.rules.area_from_30_to_40 ≡ Met → p'.rules.area_from_30_to_40 ≡ Met) × (p.rules.gz_at_30 ≡ Met → p'.rules.gz_at_30 ≡ Met)
  -- the peak and the area to t are not in it: there is a table on which the one, and one on which the other, is met and 1 mm lower missed
  pub but_not_the_peak : (x : OneLower) × (x.higher.rules.peak ≡ Met) × (x.lower.rules.peak ≡ Missed)
  pub nor_the_area_to_t : (x : OneLower) × (x.higher.rules.area_to_t ≡ Met) × (x.lower.rules.area_to_t ≡ Missed)
  -- the table of sines keeps its rule
  pub sines_are_right : SinesRight
