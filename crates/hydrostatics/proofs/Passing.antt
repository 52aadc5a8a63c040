-- The rows tried one after another.
--     Passing                            the first r rows have passed
--     passing_none, passing_more         before the first row; one row more, in the code's `r + 1`
--     too_low, too_high                  what is answered where row r is refused, by 8 and by 9
--     refusal, passing_all               what is answered of a refusal, and where all rows have passed
-- Assumes nothing.
use mathlib.Core.Path.{◌≡◌, refl, subst, ◌∙◌}
use mathlib.Core.List.{◌++◌}
use Prim.Native.Nat.{ℕ, suc, ◌+◌, ◌*◌, ◌/◌, ◌≤◌, ◌<◌}
use native.Mathlib.Decide.{le_ind}
use native.Mathlib.Numerals.{add-one}
use native.Mathlib.Omega.{arith}
use borrow.Author.Tests.{le-leb, lt-leb, lt-ltb, le-ltb}
use lib.Dec.{leb, ltb}
use Rattle.arithmetic.specs.Choice.{when◌then◌else◌}
use Rattle.arithmetic.proofs.Choice.{chosen}
use Rattle.ranges.specs.Fields.{highest_metacentre}
use Rattle.ranges.specs.Outcome.{answered, refused, and_then, answer_with}
use Rattle.ranges.specs.Refusals.{displacement_not_rising, metacentre_too_high}
use Rattle.ranges.specs.Sizes.{row_width}
use Rattle.ranges.specs.Reasons.{paper}
use Rattle.hydrostatics.specs.Row.{numbers_of}
use Rattle.hydrostatics.specs.Rows.{displacement_before, rows_up_to}
use Rattle.hydrostatics.specs.Private.Table.{numbers_up_to, TriedRows}
use Rattle.hydrostatics.specs.declared.Row.{Row}
use Rattle.ranges.specs.declared.refusal.Refusal.{Refusal}
use Rattle.std.specs.Prelude.{Result, Ok}
use Rattle.hydrostatics.proofs.Writing.{numbers_more, numbers_length}

pub record Passing (row : ℕ → Row) (r before : ℕ) : Type 0 where
  pub answers : rows_up_to row r ≡ answered (numbers_up_to row r)
  pub before_is : before ≡ displacement_before row r

-- a refusal is passed on by every row after it
stays : (row : ℕ → Row) (number place r : ℕ) → rows_up_to row r ≡ refused number place → (c : ℕ) → r ≤ c → rows_up_to row c ≡ refused number place
unfolding rows_up_to and_then
stays row number place r e c h = le_ind (λ c. rows_up_to row c ≡ refused number place) e (λ c _ so. rw so) c h

module _ {row : ℕ → Row} where
  pub passing_none : Passing row 0 0
  unfolding rows_up_to displacement_before numbers_up_to
  passing_none = record { answers = refl; before_is = refl }

  module _ {r before : ℕ} (so : Passing row r before) {made : Row} (is : made ≡ row r) where
    tried : rows_up_to row (suc r) ≡ (when leb made.displacement before then refused displacement_not_rising r
        else when ltb highest_metacentre made.km then refused metacentre_too_high r
        else answered (numbers_up_to row r ++ numbers_of made))
    unfolding rows_up_to and_then
    tried = rw (so.answers, so.before_is, is)

    pub too_low : made.displacement ≤ before → (c : ℕ) → r < c → rows_up_to row c ≡ refused displacement_not_rising r
    too_low t = stays row displacement_not_rising r (suc r) (tried ∙ simp (le-leb _ _ t, chosen))

    pub too_high : before < made.displacement → highest_metacentre < made.km → (c : ℕ) → r < c → rows_up_to row c ≡ refused metacentre_too_high r
    too_high t u = stays row metacentre_too_high r (suc r) (tried ∙ simp (lt-leb _ _ t, lt-ltb _ _ u, chosen))

    pub passing_more : before < made.displacement → made.km ≤ highest_metacentre → Passing row (r + 1) made.displacement
    unfolding displacement_before
    passing_more t u = record {
      answers = rw (numbers_more row r, add-one, ← is) (tried ∙ simp (lt-leb _ _ t, le-ltb _ _ u, chosen));
      before_is = rw (add-one, is);
    }

-- ---- what is answered
module _ {row : ℕ → Row} {count : ℕ} where
  pub refusal : {number place : ℕ} {answer : Result ℕ Refusal} → rows_up_to row count ≡ refused number place → paper answer ≡ refused number place → TriedRows row count answer
  unfolding answer_with
  refusal e f = record { answer_is = rw e f }

  pub passing_all : {r before : ℕ} → Passing row r before → r ≡ count → TriedRows row count (Ok count)
  unfolding answer_with
  passing_all so e =
      let each : row_width * count / row_width ≡ count = omega arith in
      let answers = subst (λ r. rows_up_to row r ≡ answered (numbers_up_to row r)) e so.answers in
      record { answer_is = rw (answers, numbers_length row count, each) }
