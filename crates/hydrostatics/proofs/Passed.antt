-- What an answer of the rows tells.
--     Passed, passed           every row among the first `count` has passed 8 and 9, and the numbers are theirs
--     counted                  what a row count tells of the rows
--     made_count               the answer carries the row count
--     made_left, refused_left  the table after a success, and after a refusal
-- Assumes nothing.
use mathlib.Core.Path.{◌≡◌, sym, ap, ◌∙◌}
use mathlib.Core.List.{List, ◌++◌}
use Prim.Native.Nat.{ℕ, zero, suc, ◌*◌, ◌/◌, ◌≤◌, ◌<◌}
use native.Mathlib.Omega.{arith}
use borrow.Author.Count.{below_none, below_more}
use borrow.Author.Tests.{leb-false, ltb-false}
use lib.Dec.{leb, ltb}
use lib.ListN.{length, drop}
use native.Mathlib.Numerals.{add-one}
use Rattle.arithmetic.specs.Choice.{when◌then◌else◌}
use Rattle.ranges.specs.Fields.{highest_metacentre}
use Rattle.ranges.specs.Outcome.{Outcome, answered, refused, left_with}
use Rattle.ranges.specs.Refusals.{displacement_not_rising, metacentre_too_high}
use Rattle.ranges.specs.Sizes.{row_width}
use Rattle.hydrostatics.specs.Promise.{count_of, row_count}
use Rattle.hydrostatics.specs.Row.{numbers_of}
use Rattle.hydrostatics.specs.Rows.{displacement_before, rows_up_to}
use Rattle.hydrostatics.specs.Private.Table.{numbers_up_to, TriedRows, FillsRows}
use Rattle.hydrostatics.specs.declared.Row.{Row}
use Rattle.std.specs.Prelude.{Result, Ok, Err}
use Rattle.std.specs.Result.{IsErrAnd}
use Rattle.ranges.specs.declared.refusal.Refusal.{Refusal}
use Rattle.ranges.proofs.Outcomes.{not_refused, answered_then, with_answered, with_refused, left_refused}
use Rattle.hydrostatics.proofs.Writing.{numbers_length}

below_suc : {P : ℕ → Type 0} (r : ℕ) → ((i : ℕ) → i < r → P i) → P r → (i : ℕ) → i < suc r → P i
below_suc {P} r all here = rw add-one at (below_more P r all here)

pub record Passed (row : ℕ → Row) (count : ℕ) (numbers : List ℕ) : Type 0 where
  pub numbers_are : numbers ≡ numbers_up_to row count
  pub rises : (r : ℕ) → r < count → displacement_before row r < (row r).displacement
  pub under : (r : ℕ) → r < count → (row r).km ≤ highest_metacentre

module _ {row : ℕ → Row} where
  -- one row more
  passed_more : (r : ℕ) {before numbers : List ℕ} → Passed row r before → (when leb (row r).displacement (displacement_before row r) then refused displacement_not_rising r
      else when ltb highest_metacentre (row r).km then refused metacentre_too_high r
      else answered (before ++ numbers_of (row r))) ≡ answered numbers → Passed row (suc r) numbers
  unfolding numbers_up_to
  passed_more r {before} so e =
      let rising = not_refused displacement_not_rising r e in
      let low = not_refused metacentre_too_high r rising.1 in
      record {
        numbers_are = cc low.1 ∙ ap (λ l. l ++ numbers_of (row r)) so.numbers_are;
        rises = below_suc r so.rises (leb-false (row r).displacement (displacement_before row r) rising.0);
        under = below_suc r so.under (ltb-false highest_metacentre (row r).km low.0);
      }

  pub passed : (count : ℕ) {numbers : List ℕ} → rows_up_to row count ≡ answered numbers → Passed row count numbers
  unfolding rows_up_to numbers_up_to
  passed zero e = record { numbers_are = cc; rises = below_none _; under = below_none _ }
  passed (suc r) e = let before = answered_then e in passed_more r (passed r before.1) before.2

-- ---- what is left of the lent table
-- an outcome with a count has numbers
pub counted : {X : Type 0} (o : Outcome (List ℕ)) {count : ℕ} → answered count ≡ count_of o → ((numbers : List ℕ) → o ≡ answered numbers → count ≡ length numbers / row_width → X) → X
counted o e on = let x = with_answered row_count o (sym e) in on x.0 x.1 x.2

module _ {row : ℕ → Row} {count made : ℕ} (so : TriedRows row count (Ok made)) where
  all : (made ≡ count) × (rows_up_to row count ≡ answered (numbers_up_to row count))
  all =
      counted (rows_up_to row count) so.answer_is (λ numbers o e.
      let numbers_are = (passed count o).numbers_are in (
        omega (arith, ap length numbers_are, numbers_length row count),
        o ∙ ap answered numbers_are,
      ))

  pub made_count : made ≡ count
  made_count = all.0

  pub made_left : {was after : List ℕ} → after ≡ numbers_up_to row count ++ drop (row_width * count) was → FillsRows row count (Ok made) was after
  unfolding left_with
  made_left e = record { tried = so; left = rw (all.1, numbers_length row count) e }

pub refused_left : {row : ℕ → Row} {count : ℕ} {r : Refusal} {was : List ℕ} → TriedRows row count (Err r) → FillsRows row count (Err r) was was
refused_left {row} {count} {was = was} so =
    let rows = rows_up_to row count in
    record { tried = so; left = sym (left_refused (λ numbers. numbers) rows was (with_refused row_count rows (sym so.answer_is))) }

-- and after one that `?` hands on
pub refused_on : {row : ℕ → Row} {count : ℕ} {r : Refusal} {was : List ℕ} {answer : Result ℕ Refusal} → TriedRows row count (Err r) → IsErrAnd answer (λ s. s ≡ r) → FillsRows row count answer was was
refused_on {answer = Ok n} so e = elim e [ ]
refused_on {answer = Err s} so e = rw e (refused_left so)
