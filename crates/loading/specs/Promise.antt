-- What the calls promise.
use Rattle.std.specs.Prelude.{ℕ, ◌≡◌, List, ℤ, Result}
use Rattle.ranges.specs.Reasons.{paper}
use Rattle.ranges.specs.declared.refusal.Refusal.{Refusal}
use Rattle.loading.specs.Condition.{condition_by}
use Rattle.loading.specs.Stability.{least_gm, heel_limit}
use Rattle.loading.specs.declared.Condition.{Condition}
use Rattle.loading.specs.declared.Reading.{Reading}

-- the two limits are those of the condition's own record, by name
pub record MakesCondition (reading : Reading) (leastGMThere heelLimitThere : ℕ) (items tanks : List ℤ) (rows : List ℕ) (answer : Result Condition Refusal) : Type 0 where
  pub least_gm_is : leastGMThere ≡ least_gm
  pub heel_limit_is : heelLimitThere ≡ heel_limit
  pub answer_is : paper answer ≡ condition_by reading items tanks rows
