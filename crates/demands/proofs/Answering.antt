-- Demand 1, call by call: the promise's own outcome makes one answer that keeps it; that no other does is the promise's uniqueness, and that a refusal's number is the
-- paper's its numbering.
--     sheet_answers, reader_answers, writer_answers, rows_answer, inclining_answers, profile_answers, display_answers, hopper_answers, condition_answers, totals_answer, step_answers, aboard_answers
-- Assumes nothing.
use mathlib.Core.Path.{◌≡◌, refl, sym, ap, subst, ◌∙◌}
use mathlib.Core.List.{List, map}
use Prim.Native.Nat.{ℕ}
use borrow.Author.Tests.{ltb-true}
use lib.IntN.{ℤ, nat_abs}
use lib.ListN.{length}
use Rattle.arithmetic.specs.Room.{laid}
use Rattle.arithmetic.proofs.Room.{laid_short}
use Rattle.ranges.specs.Outcome.{Outcome, refused, Numbered, left_with}
use Rattle.ranges.specs.Refusals.{room_too_short}
use Rattle.ranges.specs.Reasons.{paper}
use Rattle.ranges.proofs.Outcomes.{was_refused, with_refused, left_refused, answer_known}
use Rattle.ranges.specs.declared.Particulars.{Particulars}
use Rattle.ranges.proofs.Numbered.{with_numbered}
use Rattle.offsets.specs.File.{Contents}
use Rattle.offsets.specs.declared.Summary.{Summary}
use Rattle.offsets.specs.Reader.{Reads, reader_of, summary_of, summarised}
use Rattle.writer.specs.Writer.{Writes, writer_of, length_of, room_after}
use Rattle.offsets.proofs.Numbered.{reader_numbered}
use Rattle.writer.proofs.Numbered.{writer_numbered}
use Rattle.offsets.proofs.Unique.{reads_unique}
use Rattle.writer.proofs.Unique.{writes_unique}
use Rattle.hoppers.specs.Hopper.{MakesSurface, surface_of}
use Rattle.hoppers.proofs.Numbered.{surface_numbered}
use Rattle.hoppers.proofs.Unique.{surface_unique}
use Rattle.hydrostatics.specs.Display.{display_of}
use Rattle.hydrostatics.specs.Promise.{MakesRows, row_count, count_of, table_after}
use Rattle.hydrostatics.specs.Rows.{rows_of}
use Rattle.hydrostatics.specs.declared.Figures.{Figures}
use Rattle.hydrostatics.specs.declared.Row.{Row}
use Rattle.hydrostatics.proofs.Numbered.{rows_numbered, display_numbered}
use Rattle.hydrostatics.proofs.Unique.{makes_rows_unique, display_unique}
use Rattle.inclining.specs.Inclining.{MakesLightShip, inclined_of}
use Rattle.inclining.specs.Inclining as Inclining
use Rattle.inclining.specs.declared.LightShip.{LightShip}
use Rattle.inclining.specs.declared.Test.{Test}
use Rattle.inclining.proofs.Numbered.{inclined_numbered}
use Rattle.inclining.proofs.Unique.{light_ship_unique}
use Rattle.levers.specs.Promise.{MakesProfile, profile_of}
use Rattle.levers.specs.Promise as Levers
use Rattle.levers.specs.declared.Profile.{Profile}
use Rattle.levers.proofs.Numbered.{profile_numbered}
use Rattle.levers.proofs.Unique.{profile_unique}
use Rattle.loading.specs.Condition.{condition_by}
use Rattle.loading.specs.Items.{item_totals}
use Rattle.loading.proofs.Itemised.{totals_numbered}
use Rattle.loading.proofs.Numbered.{condition_numbered}
use Rattle.loading.proofs.Unique.{makes_condition_unique}
use Rattle.loading.specs.declared.Condition.{Condition}
use Rattle.loading.specs.declared.Reading.{Reading}
use Rattle.loading.specs.declared.Totals.{Totals}
use Rattle.tally.specs.Condition.{condition_aboard}
use Rattle.tally.specs.History.{Step, load, discharge, shift, taken}
use Rattle.tally.specs.Steps.{HandsBack}
use Rattle.tally.specs.Steps as Steps
use Rattle.tally.specs.declared.Tally.{Tally}
use Rattle.tally.proofs.Histories.{refused_unchanged}
use Rattle.tally.proofs.Numbered as Tally
use Rattle.tally.proofs.Stepping.{handed_back, handed, handed_unique}
use Rattle.report.specs.Promise.{Reports, report_by}
use Rattle.report.specs.Sheet.{sheet_by}
use Rattle.report.proofs.Numbered.{report_numbered}
use Rattle.report.proofs.Unique.{reports_unique}
use Rattle.demands.specs.Answering.{Answer, AnswersOrRefuses}
use Rattle.demands.specs.Conditioned.{Conditioned}
use Rattle.demands.proofs.Backs.{Told, told, two_same, four_same}

-- an answer's outcome has the numbers of the one it tells
numbered_as : {Values : Type 0} {o : Outcome Values} (t : Told o) → Numbered o → Numbered (paper t.answer)
numbered_as t h = subst Numbered (sym t.is) h

-- ---- the sheet
module _ (reading : Reading) (text room : List ℕ) where
  abbrev reported : Outcome ℕ
  reported = report_by reading text (length room)

  -- what is refused is the room, which is shorter than the text
  sheet_short : {number place : ℕ} → reported ≡ refused number place → laid (sheet_by reading text) room ≡ room
  unfolding report_by
  sheet_short e = laid_short (sheet_by reading text) room (ltb-true _ _ (was_refused room_too_short (length (sheet_by reading text)) (length (sheet_by reading text)) e))

  pub sheet_answers : AnswersOrRefuses (λ (back : Answer ℕ × List ℕ). Reports reading text room back.1 back.0) (λ back. paper back.0) (λ back. back.1 ≡ room)
  sheet_answers =
      let t = told reported (report_numbered reading text (length room)) in
      let back : Answer ℕ × List ℕ = (t.answer, laid (sheet_by reading text) room) in
      let kept : Reports reading text room back.1 back.0 = record { answer_is = t.is; left = refl } in
      record {
        back = back;
        kept = kept;
        only = λ other k. two_same other back (reports_unique k kept);
        numbered = numbered_as t (report_numbered reading text (length room));
        untouched = λ e. sheet_short (sym t.is ∙ e);
      }

-- ---- the reader
module _ (text half_breadths : List ℕ) (items tanks : List ℤ) where
  abbrev read : Outcome Contents
  read = reader_of text (length half_breadths) (length items) (length tanks)

  pub reader_answers : AnswersOrRefuses (λ (back : Answer Summary × List ℕ × List ℤ × List ℤ). Reads text half_breadths back.1 items back.2 tanks back.3 back.0) (λ back. paper back.0) (λ back. (back.1 ≡ half_breadths) × (back.2 ≡ items) × (back.3 ≡ tanks))
  reader_answers =
      let t = told (summarised read) (with_numbered summary_of read (reader_numbered text (length half_breadths) (length items) (length tanks))) in
      let back : Answer Summary × List ℕ × List ℤ × List ℤ = (t.answer, left_with (λ c. map nat_abs c.half_breadths) read half_breadths, left_with (λ c. c.items) read items, left_with (λ c. c.tanks) read tanks) in
      let kept : Reads text half_breadths back.1 items back.2 tanks back.3 back.0 = record { answer_is = t.is; tables_are = record { half_breadths_left = refl; items_left = refl; tanks_left = refl } } in
      record {
        back = back;
        kept = kept;
        only = λ other k. four_same other back (reads_unique k kept);
        numbered = numbered_as t (with_numbered summary_of read (reader_numbered text (length half_breadths) (length items) (length tanks)));
        untouched = λ e.
            let so = with_refused summary_of read (sym t.is ∙ e) in
            (left_refused _ read half_breadths so, left_refused _ read items so, left_refused _ read tanks so);
      }

-- ---- the writer
module _ (p : Particulars) (half_breadths : List ℕ) (items tanks : List ℤ) (room : List ℕ) where
  abbrev text : Outcome (List ℕ)
  text = writer_of p half_breadths items tanks (length room)

  pub writer_answers : AnswersOrRefuses (λ (back : Answer ℕ × List ℕ). Writes p half_breadths items tanks room back.1 back.0) (λ back. paper back.0) (λ back. back.1 ≡ room)
  writer_answers =
      let t = told (length_of text) (with_numbered length text (writer_numbered p half_breadths items tanks (length room))) in
      let back : Answer ℕ × List ℕ = (t.answer, room_after text room) in
      let kept : Writes p half_breadths items tanks room back.1 back.0 = record { answer_is = t.is; left = refl } in
      record {
        back = back;
        kept = kept;
        only = λ other k. two_same other back (writes_unique k kept);
        numbered = numbered_as t (with_numbered length text (writer_numbered p half_breadths items tanks (length room)));
        untouched = λ e. left_refused _ text room (with_refused length text (sym t.is ∙ e));
      }

-- ---- the rows
module _ (half_breadths : List ℕ) (p : Particulars) (rows : List ℕ) where
  abbrev numbers : Outcome (List ℕ)
  numbers = rows_of half_breadths p (length rows)

  pub rows_answer : AnswersOrRefuses (λ (back : Answer ℕ × List ℕ). MakesRows half_breadths p rows back.1 back.0) (λ back. paper back.0) (λ back. back.1 ≡ rows)
  rows_answer =
      let t = told (count_of numbers) (with_numbered row_count numbers (rows_numbered half_breadths p (length rows))) in
      let back : Answer ℕ × List ℕ = (t.answer, table_after numbers rows) in
      let kept : MakesRows half_breadths p rows back.1 back.0 = record { answer_is = t.is; left = refl } in
      record {
        back = back;
        kept = kept;
        only = λ other k. two_same other back (makes_rows_unique k kept);
        numbered = numbered_as t (with_numbered row_count numbers (rows_numbered half_breadths p (length rows)));
        untouched = λ e. left_refused _ numbers rows (with_refused row_count numbers (sym t.is ∙ e));
      }

-- ---- the light ship
module _ (test : Test) (shifts : List ℕ) (off on : List ℤ) (gms : List ℕ) where
  abbrev inclined : Outcome Inclining.Inclined
  inclined = inclined_of test shifts off on (length gms)

  pub inclining_answers : AnswersOrRefuses (λ (back : Answer LightShip × List ℕ). MakesLightShip test shifts off on gms back.1 back.0) (λ back. paper back.0) (λ back. back.1 ≡ gms)
  inclining_answers =
      let t = told (Inclining.ship_of inclined) (with_numbered (λ i. i.light) inclined (inclined_numbered test shifts off on (length gms))) in
      let back : Answer LightShip × List ℕ = (t.answer, Inclining.table_after inclined gms) in
      let kept : MakesLightShip test shifts off on gms back.1 back.0 = record { answer_is = t.is; left = refl } in
      record {
        back = back;
        kept = kept;
        only = λ other k. two_same other back (light_ship_unique k kept);
        numbered = numbered_as t (with_numbered (λ i. i.light) inclined (inclined_numbered test shifts off on (length gms)));
        untouched = λ e. left_refused _ inclined gms (with_refused (λ i. i.light) inclined (sym t.is ∙ e));
      }

-- ---- the profile
module _ (kn : List ℕ) (km kg : ℕ) (gz : List ℤ) where
  abbrev profiled : Outcome Profile
  profiled = profile_of kn km kg

  pub profile_answers : AnswersOrRefuses (λ (back : Answer Profile × List ℤ). MakesProfile kn km kg gz back.1 back.0) (λ back. paper back.0) (λ back. back.1 ≡ gz)
  profile_answers =
      let t = told profiled (profile_numbered kn km kg) in
      let back : Answer Profile × List ℤ = (t.answer, Levers.levers_after kn kg profiled gz) in
      let kept : MakesProfile kn km kg gz back.1 back.0 = record { answer_is = t.is; left = refl } in
      record {
        back = back;
        kept = kept;
        only = λ other k. two_same other back (profile_unique k kept);
        numbered = numbered_as t (profile_numbered kn km kg);
        untouched = λ e. ap (λ o. Levers.levers_after kn kg o gz) (sym t.is ∙ e);
      }

-- ---- the display, a hopper's surface and the condition
pub display_answers : (row : Row) → AnswersOrRefuses (λ (answer : Answer Figures). paper answer ≡ display_of row) paper (λ answer. Unit)
display_answers row =
    let t = told (display_of row) (display_numbered row) in
    record {
      back = t.answer;
      kept = t.is;
      only = λ other k. display_unique row k t.is;
      numbered = numbered_as t (display_numbered row);
      untouched = λ e. tt;
    }

pub hopper_answers : (port starboard : List ℕ) (h density : ℕ) → AnswersOrRefuses (MakesSurface port starboard h density) paper (λ answer. Unit)
hopper_answers port starboard h density =
    let t = told (surface_of port starboard h density) (surface_numbered port starboard h density) in
    let kept : MakesSurface port starboard h density t.answer = record { answer_is = t.is } in
    record {
      back = t.answer;
      kept = kept;
      only = λ other k. surface_unique k kept;
      numbered = numbered_as t (surface_numbered port starboard h density);
      untouched = λ e. tt;
    }

pub condition_answers : (reading : Reading) (items tanks : List ℤ) (rows : List ℕ) → AnswersOrRefuses (Conditioned reading items tanks rows) paper (λ answer. Unit)
condition_answers reading items tanks rows =
    let t = told (condition_by reading items tanks rows) (condition_numbered reading items tanks rows) in
    let kept : Conditioned reading items tanks rows t.answer = record { least_gm_is = refl; heel_limit_is = refl; answer_is = t.is } in
    record {
      back = t.answer;
      kept = kept;
      only = λ other k. makes_condition_unique k kept;
      numbered = numbered_as t (condition_numbered reading items tanks rows);
      untouched = λ e. tt;
    }

-- ---- the running tally
pub totals_answer : (items : List ℤ) → AnswersOrRefuses (λ (answer : Answer Totals). paper answer ≡ item_totals items) paper (λ answer. Unit)
totals_answer items =
    let t = told (item_totals items) (totals_numbered items) in
    record {
      back = t.answer;
      kept = t.is;
      only = λ other k. answer_known other t.answer (k ∙ sym t.is);
      numbered = numbered_as t (totals_numbered items);
      untouched = λ e. tt;
    }

step_numbered : (step : Step) (t : Tally) → Numbered (taken step t)
step_numbered (load slot i) t = Tally.loads_numbered slot i t
step_numbered (discharge slot) t = Tally.discharges_numbered slot t
step_numbered (shift slot p) t = Tally.shifts_numbered slot p t

pub step_answers : (step : Step) (t : Tally) → AnswersOrRefuses (HandsBack t (taken step t)) Steps.paper (λ back. back.tally ≡ t)
step_answers step t =
    let a = told (taken step t) (step_numbered step t) in
    let kept = subst (λ o. HandsBack t o (handed_back t a.answer)) a.is (handed t a.answer) in
    record {
      back = handed_back t a.answer;
      kept = kept;
      only = λ other k. handed_unique k kept;
      numbered = subst Numbered (sym kept.answer_is) (step_numbered step t);
      untouched = λ e. refused_unchanged kept (sym kept.answer_is ∙ e);
    }

pub aboard_answers : (t : Tally) (tanks : List ℤ) (rows : List ℕ) → AnswersOrRefuses (λ (answer : Answer Condition). paper answer ≡ condition_aboard t tanks rows) paper (λ answer. Unit)
aboard_answers t tanks rows =
    let a = told (condition_aboard t tanks rows) (Tally.condition_numbered t tanks rows) in
    record {
      back = a.answer;
      kept = a.is;
      only = λ other k. answer_known other a.answer (k ∙ sym a.is);
      numbered = numbered_as a (Tally.condition_numbered t tanks rows);
      untouched = λ e. tt;
    }
