-- No two answers with tables meet one promise.
--     reads_unique     the answer and every lent table are determined
-- Assumes nothing.
use mathlib.Core.Path.{◌≡◌}
use mathlib.Core.List.{List}
use Prim.Native.Nat.{ℕ}
use lib.IntN.{ℤ}
use Rattle.arithmetic.proofs.Only.{only}
use Rattle.ranges.specs.declared.refusal.Refusal.{Refusal}
use Rattle.ranges.proofs.Outcomes.{answer_known}
use Rattle.std.specs.Prelude.{Result}
use Rattle.offsets.specs.Reader.{Reads}
use Rattle.offsets.specs.declared.Summary.{Summary}

pub reads_unique : {text h₀ h h' : List ℕ} {i₀ i i' t₀ t t' : List ℤ} {a a' : Result Summary Refusal}
    → Reads text h₀ h i₀ i t₀ t a → Reads text h₀ h' i₀ i' t₀ t' a' → (a ≡ a') × (h ≡ h') × (i ≡ i') × (t ≡ t')
reads_unique {a = a} {a' = a'} r q = (
  answer_known a a' (only r.answer_is q.answer_is),
  only r.tables_are.half_breadths_left q.tables_are.half_breadths_left,
  only r.tables_are.items_left q.tables_are.items_left,
  only r.tables_are.tanks_left q.tables_are.tanks_left,
)
