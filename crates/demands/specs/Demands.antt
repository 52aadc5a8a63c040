-- The customer's three demands, and what a change request adds to them. Each sentence is a field, over any answers that keep the calls' promises; that all are met: `demands_met` of proofs/.
-- Besides what is said here, each call returns on every input and is lent nothing on a condition: no function is accepted that may not end,
-- and no public call has a `requires`.
use Rattle.std.specs.Prelude.{◌≡◌, List, ℕ, ◌-◌, ◌*◌, ◌/◌, ◌≤◌, ◌<◌, ℤ, pos, length, get_or, take, Ok}
use Rattle.ranges.specs.Outcome.{Outcome, refused, OfThePaper}
use Rattle.ranges.specs.Reasons.{paper}
use Rattle.ranges.specs.Sizes.{rows_over}
use Rattle.ranges.specs.declared.Particulars.{Particulars}
use Rattle.simpson.specs.Cubic.{cubic, area}
use Rattle.simpson.specs.Curve.{curve_sum_of}
use Rattle.offsets.specs.Back.{RoomForAnyFile, ReadBack, summary_with}
use Rattle.offsets.specs.Reader.{Reads}
use Rattle.offsets.specs.declared.Summary.{Summary}
use Rattle.writer.specs.Writer.{Writes}
use Rattle.hoppers.specs.Hopper.{MakesSurface}
use Rattle.hydrostatics.specs.Display.{display_of}
use Rattle.hydrostatics.specs.Hull.{half_breadth, Q}
use Rattle.hydrostatics.specs.Promise.{MakesRows}
use Rattle.hydrostatics.specs.Row.{row_of, waterline_of}
use Rattle.hydrostatics.specs.Usable.{row_in}
use Rattle.hydrostatics.specs.declared.Figures.{Figures}
use Rattle.hydrostatics.specs.declared.Row.{Row}
use Rattle.inclining.specs.Inclining.{MakesLightShip}
use Rattle.inclining.specs.declared.LightShip.{LightShip}
use Rattle.inclining.specs.declared.Test.{Test}
use Rattle.levers.specs.Promise.{MakesProfile}
use Rattle.levers.specs.declared.Profile.{Profile}
use Rattle.loading.specs.Condition.{condition_at}
use Rattle.loading.specs.Demand.{LoweredTables, NoWorse}
use Rattle.loading.specs.Fraction.{LessThanThreeBelow}
use Rattle.loading.specs.Paper.{paper_rules}
use Rattle.loading.specs.Items.{item_totals}
use Rattle.loading.specs.Records.{load_of}
use Rattle.loading.specs.Stability.{unrounded_gm}
use Rattle.loading.specs.Straight.{Greatest}
use Rattle.loading.specs.Table.{hull}
use Rattle.loading.specs.declared.Condition.{Condition}
use Rattle.loading.specs.declared.Reading.{Reading}
use Rattle.loading.specs.declared.Totals.{Totals}
use Rattle.tally.specs.Condition.{condition_aboard}
use Rattle.tally.specs.History.{Step, taken}
use Rattle.tally.specs.Steps.{HandsBack}
use Rattle.tally.specs.Steps as Steps
use Rattle.tally.specs.declared.Tally.{Tally}
use Rattle.report.specs.Promise.{Reports}
use Rattle.rugulosca.specs.Told.{Tells, Apart}
use Rattle.demands.specs.Answering.{Answer, AnswersOrRefuses}
use Rattle.demands.specs.Conditioned.{Conditioned, IsCondition}
use Rattle.demands.specs.ExactVolumes.{ExactVolumes}
use Rattle.demands.specs.HopperTanks.{HopperTanks}
use Rattle.demands.specs.IncliningTest.{IncliningTest}
use Rattle.demands.specs.LongerTables.{LongerTables}
use Rattle.demands.specs.RunningTally.{RunningTally}
use Rattle.demands.specs.SecondCalculation.{SecondCalculation}
use Rattle.demands.specs.SupplyVessels.{SupplyVessels}
use Rattle.demands.specs.TwoReadings.{TwoReadings}

-- "1. Every file and every lent table gets either its answer or one numbered refusal, and the work always ends. The public calls test everything themselves.
-- A refusal gives its number and its place, and the tables lent for writing hold what they held before."
pub record Demand1 : Type 1 where
  pub of_the_sheet : (reading : Reading) (text room : List ℕ)
      → AnswersOrRefuses (λ (back : Answer ℕ × List ℕ). Reports reading text room back.1 back.0) (λ back. paper back.0) (λ back. back.1 ≡ room)
  pub of_the_reader : (text half_breadths : List ℕ) (items tanks : List ℤ)
      → AnswersOrRefuses (λ (back : Answer Summary × List ℕ × List ℤ × List ℤ). Reads text half_breadths back.1 items back.2 tanks back.3 back.0) (λ back. paper back.0) (λ back. (back.1 ≡ half_breadths) × (back.2 ≡ items) × (back.3 ≡ tanks))
  pub of_the_writer : (p : Particulars) (half_breadths : List ℕ) (items tanks : List ℤ) (room : List ℕ)
      → AnswersOrRefuses (λ (back : Answer ℕ × List ℕ). Writes p half_breadths items tanks room back.1 back.0) (λ back. paper back.0) (λ back. back.1 ≡ room)
  pub of_the_rows : (half_breadths : List ℕ) (p : Particulars) (rows : List ℕ)
      → AnswersOrRefuses (λ (back : Answer ℕ × List ℕ). MakesRows half_breadths p rows back.1 back.0) (λ back. paper back.0) (λ back. back.1 ≡ rows)
  pub of_an_inclining_test : (test : Test) (shifts : List ℕ) (off on : List ℤ) (gms : List ℕ)
      → AnswersOrRefuses (λ (back : Answer LightShip × List ℕ). MakesLightShip test shifts off on gms back.1 back.0) (λ back. paper back.0) (λ back. back.1 ≡ gms)
  pub of_a_supply_vessel : (kn : List ℕ) (km kg : ℕ) (gz : List ℤ)
      → AnswersOrRefuses (λ (back : Answer Profile × List ℤ). MakesProfile kn km kg gz back.1 back.0) (λ back. paper back.0) (λ back. back.1 ≡ gz)
  -- a step of a tally hands the tally back; lent, it leaves that one
  pub of_a_step : (step : Step) (t : Tally)
      → AnswersOrRefuses (HandsBack t (taken step t)) Steps.paper (λ back. back.tally ≡ t)
  -- these are lent nothing for writing
  pub of_the_display : (row : Row)
      → AnswersOrRefuses (λ (answer : Answer Figures). paper answer ≡ display_of row) paper (λ answer. Unit)
  pub of_a_hopper : (port starboard : List ℕ) (h density : ℕ)
      → AnswersOrRefuses (MakesSurface port starboard h density) paper (λ answer. Unit)
  pub of_the_condition : (reading : Reading) (items tanks : List ℤ) (rows : List ℕ)
      → AnswersOrRefuses (Conditioned reading items tanks rows) paper (λ answer. Unit)
  pub of_the_totals : (items : List ℤ)
      → AnswersOrRefuses (λ (answer : Answer Totals). paper answer ≡ item_totals items) paper (λ answer. Unit)
  pub of_the_condition_aboard : (t : Tally) (tanks : List ℤ) (rows : List ℕ)
      → AnswersOrRefuses (λ (answer : Answer Condition). paper answer ≡ condition_aboard t tanks rows) paper (λ answer. Unit)
  -- and as the calls for other languages tell it, by a number: 0, or the refusal's; with its place, and the values as they were
  pub told_by_a_number : {A B : Type 0} {value : A → B} {outcome : Outcome A} {was left : B} {place placeLeft number : ℕ} → OfThePaper outcome → Tells value outcome was left place placeLeft number
      → Apart outcome number × ((n p : ℕ) → outcome ≡ refused n p → (placeLeft ≡ p) × (left ≡ was))

pub record Demand2 : Type 0 where
  -- "2. Areas, volumes, centres and metacentric radii are those of Simpson's first and second rules as document 01 states them, at every count from 2 to" 80 "intervals."
  pub rows_follow_the_rules : {half_breadths : List ℕ} {p : Particulars} {rows after : List ℕ} {count : ℕ} → MakesRows half_breadths p rows after (Ok count)
      → (count ≡ rows_over p.m) × ((r : ℕ) → r < count → row_in after r ≡ row_of half_breadths p r)
  -- "A condition's draft, KM, GM and heel outcome follow its formulas."
  pub conditions_follow_the_formulas : {reading : Reading} {items tanks : List ℤ} {rows : List ℕ} {c : Condition} → IsCondition reading items tanks rows c
      → (c ≡ condition_at reading (hull rows) (load_of items tanks)) × Greatest (hull rows) c.weight c.draft
  -- "A half-breadth curve that is a polynomial of third degree or less, with whole-number coefficients, gets its exact area, before rounding, at each count."
  -- `area` is 24 times it, in intervals; a row's waterplane, both sides of it, is rounded down once
  pub curves_get_their_areas : (ordinates : List ℕ) (a b c e : ℤ) {sum : ℕ} → Ok sum ≡ curve_sum_of ordinates → ((i : ℕ) → i < length ordinates → pos (get_or ordinates i 0) ≡ cubic a b c e (pos i))
      → pos sum ≡ area a b c e (pos (length ordinates - 1))
  pub waterlines_get_their_areas : {half_breadths : List ℕ} {p : Particulars} {rows after : List ℕ} {count : ℕ} → MakesRows half_breadths p rows after (Ok count)
      → (r : ℕ) → r < count → (a b c e : ℤ) → ((i : ℕ) → i ≤ p.n → pos (half_breadth half_breadths p i (waterline_of r)) ≡ cubic a b c e (pos i))
      → (pos (Q half_breadths p (waterline_of r)) ≡ area a b c e (pos p.n)) × ((row_in after r).area ≡ p.s * Q half_breadths p (waterline_of r) / 12)
  -- of change request 13: a hull whose half-breadths are such a polynomial in station and in waterline number gets its exact volume, before rounding, in every row
  pub hulls_get_their_volumes : ExactVolumes
  -- "What the writer writes, the reader reads back as the same numbers."
  pub what_is_written_is_read_back : {p : Particulars} {h : List ℕ} {i t : List ℤ} {room room_left : List ℕ} {count : ℕ} {h₀ h' : List ℕ} {i₀ i' t₀ t' : List ℤ} {answer : Answer Summary}
      → Writes p h i t room room_left (Ok count) → RoomForAnyFile h₀ i₀ t₀ → Reads (take count room_left) h₀ h' i₀ i' t₀ t' answer
      → ReadBack (summary_with p i t) h i t h₀ h' i₀ i' t₀ t' answer

-- by one reading of KM, whichever it is: "it compares conditions, and the unrounded GM, under the same reading"
pub record Demand3 : Type 0 where
  -- "3. With one row table, the heavier of two answered conditions never has the smaller draft, and equal weights have the same draft and KM."
  pub heavier_never_floats_higher : {reading : Reading} {items tanks items' tanks' : List ℤ} {rows : List ℕ} {c d : Condition} → IsCondition reading items tanks rows c → IsCondition reading items' tanks' rows d
      → c.weight ≤ d.weight → c.draft ≤ d.draft
  pub equal_weights_float_alike : {reading : Reading} {items tanks items' tanks' : List ℤ} {rows : List ℕ} {c d : Condition} → IsCondition reading items tanks rows c → IsCondition reading items' tanks' rows d
      → c.weight ≡ d.weight → (c.draft ≡ d.draft) × (c.km ≡ d.km)
  -- "Take an answered condition and only lower items or tanks, or reduce a tank's length, breadth or liquid density, each staying in its range.
  -- GM does not fall, and a condition that passed still passes."
  pub lowering_never_costs_the_answer : {reading : Reading} {items' tanks' items tanks : List ℤ} {rows : List ℕ} {c : Condition} {answer : Answer Condition} → IsCondition reading items tanks rows c
      → LoweredTables items' tanks' items tanks → Conditioned reading items' tanks' rows answer
      → (d : Condition) × (answer ≡ Ok d) × NoWorse d c
  -- "The GM given is never above the unrounded GM over the same rows, and less than 3 mm below it."
  pub gm_is_close : {reading : Reading} {items tanks : List ℤ} {rows : List ℕ} {c : Condition} → IsCondition reading items tanks rows c
      → LessThanThreeBelow c.gm (unrounded_gm (paper_rules reading) (hull rows) (load_of items tanks))

pub record Demands : Type 1 where
  pub demand_1 : Demand1
  pub demand_2 : Demand2
  pub demand_3 : Demand3
  pub running_tally : RunningTally
  pub two_readings : TwoReadings
  pub second_calculation : SecondCalculation
  pub longer_tables : LongerTables
  pub hopper_tanks : HopperTanks
  pub inclining_test : IncliningTest
  pub supply_vessels : SupplyVessels
