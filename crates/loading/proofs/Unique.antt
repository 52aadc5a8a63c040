-- The promise determines the answer.
--     paper_injective               two answers with the paper's same number and values are the same
--     makes_condition_unique        so two answers that both keep one promise are equal
-- Assumes nothing.
use mathlib.Core.Path.{◌≡◌, sym, ◌∙◌}
use mathlib.Core.List.{List}
use Prim.Native.Nat.{ℕ}
use lib.IntN.{ℤ}
use Rattle.std.specs.Prelude.{Result}
use Rattle.ranges.proofs.Outcomes.{answer_known}
use Rattle.ranges.specs.Reasons.{paper}
use Rattle.ranges.specs.declared.refusal.Refusal.{Refusal}
use Rattle.loading.specs.Promise.{MakesCondition}
use Rattle.loading.specs.declared.Condition.{Condition}
use Rattle.loading.specs.declared.Reading.{Reading}

pub paper_injective : (a b : Result Condition Refusal) → paper a ≡ paper b → a ≡ b
paper_injective = answer_known

pub makes_condition_unique : {reading : Reading} {least limit : ℕ} {items tanks : List ℤ} {rows : List ℕ} {a b : Result Condition Refusal} → MakesCondition reading least limit items tanks rows a → MakesCondition reading least limit items tanks rows b → a ≡ b
makes_condition_unique {a = a} {b = b} m n = paper_injective a b (m.answer_is ∙ sym n.answer_is)
