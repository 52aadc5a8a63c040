-- The promise of this crate determines its answer and the levers that are left: no two satisfy it for the same inputs.
--     profile_unique        of making a profile
-- Assumes nothing.
use mathlib.Core.Path.{◌≡◌, sym, ◌∙◌}
use mathlib.Core.List.{List}
use Prim.Native.Nat.{ℕ}
use lib.IntN.{ℤ}
use Rattle.std.specs.Prelude.{Result}
use Rattle.arithmetic.proofs.Only.{only}
use Rattle.ranges.specs.declared.refusal.Refusal.{Refusal}
use Rattle.ranges.proofs.Outcomes.{answer_known}
use Rattle.levers.specs.Promise.{MakesProfile}
use Rattle.levers.specs.declared.Profile.{Profile}

pub profile_unique : {kn : List ℕ} {km kg : ℕ} {gz after after' : List ℤ} {answer answer' : Result Profile Refusal}
    → MakesProfile kn km kg gz after answer → MakesProfile kn km kg gz after' answer' → (answer ≡ answer') × (after ≡ after')
profile_unique {answer} {answer'} one other =
    (answer_known answer answer' (one.answer_is ∙ sym other.answer_is), only one.left other.left)
