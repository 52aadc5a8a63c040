-- Each promise of this crate determines its answer and the lent table: no two satisfy it for the same inputs.
--     makes_rows_unique         of making the rows
--     display_unique            of displaying a row
-- The place of a row's first number outside is promised as `r ≡ definition`, which has one answer. Assumes nothing.
use mathlib.Core.Path.{◌≡◌, sym, ◌∙◌}
use mathlib.Core.List.{List}
use Prim.Native.Nat.{ℕ}
use Rattle.std.specs.Prelude.{Result}
use Rattle.ranges.specs.Reasons.{paper}
use Rattle.ranges.specs.declared.Particulars.{Particulars}
use Rattle.ranges.specs.declared.refusal.Refusal.{Refusal}
use Rattle.ranges.proofs.Outcomes.{answer_known}
use Rattle.hydrostatics.specs.Display.{display_of}
use Rattle.hydrostatics.specs.Promise.{MakesRows}
use Rattle.hydrostatics.specs.declared.Figures.{Figures}
use Rattle.hydrostatics.specs.declared.Row.{Row}

pub makes_rows_unique : {table : List ℕ} {p : Particulars} {rows after after' : List ℕ} {answer answer' : Result ℕ Refusal} → MakesRows table p rows after answer → MakesRows table p rows after' answer' → (answer ≡ answer') × (after ≡ after')
makes_rows_unique {answer} {answer'} one other =
    (answer_known answer answer' (one.answer_is ∙ sym other.answer_is), one.left ∙ sym other.left)

pub display_unique : (row : Row) {answer answer' : Result Figures Refusal} → paper answer ≡ display_of row → paper answer' ≡ display_of row → answer ≡ answer'
display_unique row {answer} {answer'} one other = answer_known answer answer' (one ∙ sym other)
