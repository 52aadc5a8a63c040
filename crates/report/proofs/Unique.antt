-- The promise determines the answer and the lent room.
--     reports_unique        two answers with rooms that both keep one promise are equal
-- Assumes nothing.
use Prim.Native.Nat.{ℕ}
use mathlib.Core.Path.{◌≡◌, sym, ◌∙◌}
use mathlib.Core.List.{List}
use Rattle.std.specs.Prelude.{Result}
use Rattle.ranges.specs.declared.refusal.Refusal.{Refusal}
use Rattle.ranges.proofs.Outcomes.{answer_known}
use Rattle.loading.specs.declared.Reading.{Reading}
use Rattle.report.specs.Promise.{Reports}

pub reports_unique : {reading : Reading} {text room left left' : List ℕ} {answer answer' : Result ℕ Refusal} → Reports reading text room left answer → Reports reading text room left' answer' → (answer ≡ answer') × (left ≡ left')
reports_unique {answer} {answer'} one other =
    (answer_known answer answer' (one.answer_is ∙ sym other.answer_is), one.left ∙ sym other.left)
