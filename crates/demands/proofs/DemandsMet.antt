-- The three demands are met.
--     demands_met        all of `Demands`, from the theorems of the crates below
--     told_of_18         what `told_by_a_number` says at 18, which is the paper's, and no call refuses with
-- Assumes nothing.
use mathlib.Core.Path.{◌≡◌, refl, sym, ap, subst₂, ◌∙◌}
use mathlib.Core.List.{List}
use Prim.Native.Nat.{ℕ}
use lib.IntN.{ℤ, pos}
use Rattle.std.specs.Prelude.{Ok}
use Rattle.ranges.specs.Outcome.{refused, value_after}
use Rattle.ranges.proofs.Numbered.{numbered, refused_of_the_paper}
use Rattle.ranges.proofs.Outcomes.{answer_known}
use Rattle.simpson.proofs.Front.{curve_two, curve_three, curve_off}
use Rattle.simpson.proofs.Moments.{curve_exact, answer_exact}
use Rattle.writer.proofs.Calls.{write_then_read}
use Rattle.hoppers.proofs.Answered.{shifted_alike, rectangle_answered, by_formula, without_width}
use Rattle.hoppers.proofs.Numerator.{never_negative}
use Rattle.hoppers.proofs.Rectangle.{rectangle_exact}
use Rattle.hydrostatics.specs.Hull.{half_breadth}
use Rattle.hydrostatics.specs.Row.{waterline_of}
use Rattle.hydrostatics.specs.Private.Sections.{area_at, moment_at}
use Rattle.hydrostatics.proofs.Exchange.{Q_is, S_along, Sz_along, Sx_along}
use Rattle.hydrostatics.proofs.MadeRows.{made_rows, made_area}
use Rattle.hydrostatics.proofs.Unique.{makes_rows_unique}
use Rattle.loading.specs.Beside.{Alike, NotAbove}
use Rattle.loading.specs.Demand.{LoweredTables, NoWorse}
use Rattle.loading.specs.declared.Condition.{Condition}
use Rattle.loading.specs.declared.Reading.{Reading}
use Rattle.loading.proofs.Answers.{answer_says}
use Rattle.loading.proofs.Beside.{readings_beside}
use Rattle.loading.proofs.ByRow.{own_weight_stands, read_between}
use Rattle.loading.proofs.Demand3 as Third
use Rattle.loading.proofs.Demand3.{ConditionOver}
use Rattle.tally.proofs.Histories.{totals_after, answers_alike, always_sound, usable_at_once, condition_after, stepped_on}
use Rattle.rugulosca.specs.Told.{Tells, place_after}
use Rattle.rugulosca.proofs.Apart.{apart}
use Rattle.demands.specs.Answering.{Answer}
use Rattle.demands.specs.Conditioned.{Conditioned, IsCondition}
use Rattle.demands.specs.Demands.{Demand1, Demand2, Demand3, Demands}
use Rattle.demands.specs.HopperTanks.{HopperTanks}
use Rattle.demands.specs.RunningTally.{RunningTally}
use Rattle.demands.specs.SecondCalculation.{SecondCalculation}
use Rattle.demands.specs.TwoReadings.{TwoReadings}
use Rattle.demands.proofs.Answering.{sheet_answers, reader_answers, writer_answers, rows_answer, inclining_answers, profile_answers, display_answers, hopper_answers, condition_answers, totals_answer, step_answers, aboard_answers}
use Rattle.demands.proofs.Hoppers.{in_order, beside_condition}
use Rattle.demands.proofs.Inclined.{inclining_test}
use Rattle.demands.proofs.Longer.{longer_tables}
use Rattle.demands.proofs.Profiled.{supply_vessels}
use Rattle.demands.proofs.Volumes.{exact_volumes}

demand_1 : Demand1
demand_1 = record {
  of_the_sheet = sheet_answers;
  of_the_reader = reader_answers;
  of_the_writer = writer_answers;
  of_the_rows = rows_answer;
  of_the_display = display_answers;
  of_an_inclining_test = inclining_answers;
  of_a_supply_vessel = profile_answers;
  of_a_hopper = hopper_answers;
  of_the_condition = condition_answers;
  of_a_step = step_answers;
  of_the_totals = totals_answer;
  of_the_condition_aboard = aboard_answers;
  -- made anew of its field, whichever record of numbers it is
  told_by_a_number = λ {value = value} {was = was} {place = place} h tells. (
    apart (record { of_the_paper = h.of_the_paper }) tells,
    λ n p e. (tells.place_is ∙ ap (λ o. place_after o place) e, tells.value_is ∙ ap (λ o. value_after value o was) e),
  );
}

-- a condition that the call answered, over its rows
over : {reading : Reading} {items tanks : List ℤ} {rows : List ℕ} {c : Condition} → IsCondition reading items tanks rows c → ConditionOver reading rows c
over {items} {tanks} k = record { items = items; tanks = tanks; given = sym k.answer_is }

demand_2 : Demand2
demand_2 = record {
  rows_follow_the_rules = made_rows;
  conditions_follow_the_formulas = λ {reading} {items} {tanks} {rows} k. ((answer_says reading items tanks rows (sym k.answer_is)).1, Third.draft_is_greatest (over k));
  curves_get_their_areas = answer_exact;
  waterlines_get_their_areas = λ {half_breadths} {p} made r h a b c e is.
      let k = waterline_of r in
      let area_is = made_area made r h in
      (ap pos (Q_is half_breadths p k) ∙ curve_exact p.n (λ i. half_breadth half_breadths p i k) a b c e area_is.0 is, area_is.1);
  hulls_get_their_volumes = exact_volumes;
  what_is_written_is_read_back = write_then_read;
}

lowering : {reading : Reading} {items' tanks' items tanks : List ℤ} {rows : List ℕ} {c : Condition} {answer : Answer Condition}
    → IsCondition reading items tanks rows c → LoweredTables items' tanks' items tanks → Conditioned reading items' tanks' rows answer → (d : Condition) × (answer ≡ Ok d) × NoWorse d c
lowering {reading} {rows = rows} {answer = answer} k low again =
    let lowered = Third.lowering_never_costs_the_answer reading rows (sym k.answer_is) low in
    (lowered.0, answer_known answer (Ok lowered.0) (again.answer_is ∙ lowered.1), lowered.2)

demand_3 : Demand3
unfolding over
demand_3 = record {
  heavier_never_floats_higher = λ k l. Third.heavier_never_floats_higher (over k) (over l);
  equal_weights_float_alike = λ k l. Third.equal_weights_float_alike (over k) (over l);
  lowering_never_costs_the_answer = lowering;
  gm_is_close = λ k. Third.gm_is_close (over k);
}

running_tally : RunningTally
running_tally = record {
  steps_go_on = λ step t back handed. stepped_on handed;
  totals_are_the_lists = totals_after;
  answers_are_the_lists = answers_alike;
  never_unsound = always_sound;
  freed_is_usable = usable_at_once;
  condition_is_the_lists = condition_after;
}

two_readings : TwoReadings
two_readings = record {
  default_is_the_lesser = λ k r b. read_between (over k) r b.there b.above b.below;
  own_weight_stands = λ k. own_weight_stands (over k);
  straight_line_by_name = λ k r b. read_between (over k) r b.there b.above b.below;
  sheet_takes_the_default = λ text. refl;
  tally_takes_the_default = condition_after;
  lesser_is_never_above = λ {items} {tanks} {rows} k l. subst₂ (Alike NotAbove) (sym k.answer_is) (sym l.answer_is) (readings_beside items tanks rows);
}

second_calculation : SecondCalculation
unfolding area_at moment_at
second_calculation = record {
  station_areas_first = λ half_breadths p k. (S_along half_breadths p k, Sz_along half_breadths p k, Sx_along half_breadths p k);
  two_off_the_front = curve_off;
  down_to_two_or_three = λ y. (curve_two y, curve_three y);
  engines_agree = makes_rows_unique;
}

hopper_tanks : HopperTanks
hopper_tanks = record {
  refused_in_order = in_order;
  follows_the_formula = by_formula;
  nothing_without_width = without_width;
  numerator_never_negative = never_negative;
  middle_line_anywhere = shifted_alike;
  rectangles_are_exact = λ n p q h enough. rectangle_exact n enough p q h;
  rectangles_are_answered = rectangle_answered;
  condition_keeps_rectangles = λ reading. refl;
  never_less_than_the_condition = beside_condition;
}

pub demands_met : Demands
demands_met = record {
  demand_1 = demand_1;
  demand_2 = demand_2;
  demand_3 = demand_3;
  running_tally = running_tally;
  two_readings = two_readings;
  second_calculation = second_calculation;
  longer_tables = longer_tables;
  hopper_tanks = hopper_tanks;
  inclining_test = inclining_test;
  supply_vessels = supply_vessels;
}

-- ---- at a number that no call refuses with: what is asked of the outcome is searched among the laws of all that may be asked, so that more of it fails here
told_of_18 : {A B : Type 0} {value : A → B} {was left : B} {p place placeLeft number : ℕ} → Tells value (refused 18 p) was left place placeLeft number → (number ≡ 18) × (placeLeft ≡ p) × (left ≡ was)
told_of_18 {p} tells =
    let told = demands_met.demand_1.told_by_a_number (search (refused_of_the_paper, numbered)) tells in
    let left = told.1 18 p refl in
    ((told.0.else_numbered refl).0, left.0, left.1)
