-- The number that a call returns tells an answer from a refusal.
--     apart     so it is of every outcome whose refusals have these numbers
--     report_apart, read_apart, write_apart, rows_apart, display_apart, surface_apart, light_ship_apart, profile_apart, condition_apart     and so of each call, by what it promises
--     load_apart, discharge_apart, shift_apart, aboard_apart                                the running tally's too
-- Assumes nothing.
use Prim.Native.Nat.{ℕ}
use mathlib.Core.Path.{◌≡◌, ap, sym, ◌∙◌}
use mathlib.Core.List.{List}
use native.Mathlib.Omega.{arith}
use lib.Ieee.{Float}
use lib.IntN.{ℤ}
use lib.ListN.{length}
use Rattle.ranges.specs.Outcome.{Outcome, OfThePaper}
use Rattle.ranges.specs.declared.Particulars.{Particulars}
use Rattle.ranges.proofs.Numbered.{numbered_of_the_paper, with_numbered}
use Rattle.offsets.specs.Reader.{reader_of, summary_of, summarised}
use Rattle.writer.specs.Writer.{writer_of, length_of}
use Rattle.offsets.proofs.Numbered.{reader_numbered}
use Rattle.writer.proofs.Numbered.{writer_numbered}
use Rattle.hoppers.specs.Hopper.{surface_of}
use Rattle.hoppers.proofs.Numbered.{surface_numbered}
use Rattle.hydrostatics.specs.Display.{display_of}
use Rattle.hydrostatics.specs.Promise.{row_count, count_of}
use Rattle.hydrostatics.specs.Rows.{rows_of}
use Rattle.hydrostatics.specs.declared.Row.{Row}
use Rattle.hydrostatics.proofs.Numbered.{rows_numbered, display_numbered}
use Rattle.inclining.specs.Inclining.{ship_of, inclined_of}
use Rattle.inclining.specs.declared.Test.{Test}
use Rattle.inclining.proofs.Numbered.{inclined_numbered}
use Rattle.levers.specs.Promise.{profile_of}
use Rattle.levers.proofs.Numbered.{profile_numbered}
use Rattle.loading.specs.Condition.{condition_by}
use Rattle.loading.specs.declared.Reading.{Reading}
use Rattle.loading.proofs.Numbered.{condition_numbered}
use Rattle.tally.specs.Condition.{condition_aboard}
use Rattle.tally.specs.Steps.{loads, discharges, shifts}
use Rattle.tally.specs.declared.Item.{Item}
use Rattle.tally.specs.declared.Place.{Place}
use Rattle.tally.specs.declared.Tally.{Tally}
use Rattle.tally.proofs.Numbered as Tally
use Rattle.report.specs.Promise.{report_by}
use Rattle.report.proofs.Numbered.{report_numbered}
use Rattle.rugulosca.specs.Panel.{Kept, kept_of}
use Rattle.rugulosca.specs.Told.{number_of, Tells, Apart, summary_numbers, figure_numbers, surface_numbers, light_ship_numbers, profile_wholes, wholes_of}
use Rattle.rugulosca.proofs.Telling.{told_apart}

pub apart : {A B : Type 0} {value : A → B} {o : Outcome A} {was left : B} {place placeLeft number : ℕ} → OfThePaper o → Tells value o was left place placeLeft number → Apart o number
apart {number} h t = record {
  zero_answered = λ e. told_apart h (sym t.number_is ∙ e);
  answered_zero = λ e. t.number_is ∙ ap number_of e;
  else_numbered = λ {n} e.
      let is : number ≡ n = t.number_is ∙ ap number_of e in
      let numbers = h.of_the_paper e in
      (is, omega arith, omega arith);
}

-- ---- the calls
module _ {place placeLeft number : ℕ} where
  pub report_apart : (reading : Reading) (text : List ℕ) (room : ℕ) {was left : ℕ} → Tells (λ n. n) (report_by reading text room) was left place placeLeft number → Apart (report_by reading text room) number
  report_apart reading text room t = apart (numbered_of_the_paper (report_numbered reading text room)) t

  pub read_apart : (text : List ℕ) (half_breadths items tanks : ℕ) {was left : List ℕ}
      → Tells summary_numbers (summarised (reader_of text half_breadths items tanks)) was left place placeLeft number → Apart (summarised (reader_of text half_breadths items tanks)) number
  read_apart text half_breadths items tanks t = apart (numbered_of_the_paper (with_numbered summary_of _ (reader_numbered text half_breadths items tanks))) t

  pub write_apart : (p : Particulars) (half_breadths : List ℕ) (items tanks : List ℤ) (room : ℕ) {was left : ℕ}
      → Tells (λ n. n) (length_of (writer_of p half_breadths items tanks room)) was left place placeLeft number → Apart (length_of (writer_of p half_breadths items tanks room)) number
  write_apart p half_breadths items tanks room t = apart (numbered_of_the_paper (with_numbered length _ (writer_numbered p half_breadths items tanks room))) t

  pub rows_apart : (table : List ℕ) (p : Particulars) (room : ℕ) {was left : ℕ}
      → Tells (λ n. n) (count_of (rows_of table p room)) was left place placeLeft number → Apart (count_of (rows_of table p room)) number
  rows_apart table p room t = apart (numbered_of_the_paper (with_numbered row_count _ (rows_numbered table p room))) t

  pub display_apart : (row : Row) {was left : List Float} → Tells figure_numbers (display_of row) was left place placeLeft number → Apart (display_of row) number
  display_apart row t = apart (numbered_of_the_paper (display_numbered row)) t

  pub surface_apart : (port starboard : List ℕ) (h density : ℕ) {was left : List ℕ} → Tells surface_numbers (surface_of port starboard h density) was left place placeLeft number → Apart (surface_of port starboard h density) number
  surface_apart port starboard h density t = apart (numbered_of_the_paper (surface_numbered port starboard h density)) t

  pub light_ship_apart : (test : Test) (shifts : List ℕ) (off on : List ℤ) (room : ℕ) {was left : List ℕ}
      → Tells light_ship_numbers (ship_of (inclined_of test shifts off on room)) was left place placeLeft number → Apart (ship_of (inclined_of test shifts off on room)) number
  light_ship_apart test shifts off on room t = apart (numbered_of_the_paper (with_numbered (λ i. i.light) _ (inclined_numbered test shifts off on room))) t

  pub profile_apart : (kn : List ℕ) (km kg : ℕ) {was left : List ℕ} → Tells profile_wholes (profile_of kn km kg) was left place placeLeft number → Apart (profile_of kn km kg) number
  profile_apart kn km kg t = apart (numbered_of_the_paper (profile_numbered kn km kg)) t

  pub condition_apart : (reading : Reading) (items tanks : List ℤ) (rows : List ℕ) {was left : List ℕ}
      → Tells wholes_of (condition_by reading items tanks rows) was left place placeLeft number → Apart (condition_by reading items tanks rows) number
  condition_apart reading items tanks rows t = apart (numbered_of_the_paper (condition_numbered reading items tanks rows)) t

  module _ (t : Tally) {was left : Kept} where
    pub load_apart : (slot : ℕ) (i : Item) → Tells kept_of (loads slot i t) was left place placeLeft number → Apart (loads slot i t) number
    load_apart slot i told = apart (numbered_of_the_paper (Tally.loads_numbered slot i t)) told

    pub discharge_apart : (slot : ℕ) → Tells kept_of (discharges slot t) was left place placeLeft number → Apart (discharges slot t) number
    discharge_apart slot told = apart (numbered_of_the_paper (Tally.discharges_numbered slot t)) told

    pub shift_apart : (slot : ℕ) (p : Place) → Tells kept_of (shifts slot p t) was left place placeLeft number → Apart (shifts slot p t) number
    shift_apart slot p told = apart (numbered_of_the_paper (Tally.shifts_numbered slot p t)) told

  pub aboard_apart : (t : Tally) (tanks : List ℤ) (rows : List ℕ) {was left : List ℕ}
      → Tells wholes_of (condition_aboard t tanks rows) was left place placeLeft number → Apart (condition_aboard t tanks rows) number
  aboard_apart t tanks rows told = apart (numbered_of_the_paper (Tally.condition_numbered t tanks rows)) told
