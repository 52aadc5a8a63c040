-- Answers of the condition's call, by a reading of KM: the words that the demands are said in.
use Rattle.std.specs.Prelude.{List, ℕ, ℤ, Ok}
use Rattle.loading.specs.Promise.{MakesCondition}
use Rattle.loading.specs.Stability.{least_gm, heel_limit}
use Rattle.loading.specs.declared.Condition.{Condition}
use Rattle.loading.specs.declared.Reading.{Reading}
use Rattle.demands.specs.Answering.{Answer}

-- an answer of the condition's call for these tables, and one that is a condition
abbrev pub Conditioned : Reading → List ℤ → List ℤ → List ℕ → Answer Condition → Type 0
Conditioned reading items tanks rows answer = MakesCondition reading least_gm heel_limit items tanks rows answer

abbrev pub IsCondition : Reading → List ℤ → List ℤ → List ℕ → Condition → Type 0
IsCondition reading items tanks rows c = Conditioned reading items tanks rows (Ok c)
