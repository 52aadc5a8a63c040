-- The promise of this crate determines its answer and the table of GMs: no two satisfy it for the same inputs.
--     light_ship_unique      of making a light ship
-- Assumes nothing.
use mathlib.Core.Path.{◌≡◌, sym, ◌∙◌}
use mathlib.Core.List.{List}
use Prim.Native.Nat.{ℕ}
use lib.IntN.{ℤ}
use Rattle.std.specs.Prelude.{Result}
use Rattle.arithmetic.proofs.Only.{only}
use Rattle.ranges.specs.declared.refusal.Refusal.{Refusal}
use Rattle.ranges.proofs.Outcomes.{answer_known}
use Rattle.inclining.specs.Inclining.{MakesLightShip}
use Rattle.inclining.specs.declared.LightShip.{LightShip}
use Rattle.inclining.specs.declared.Test.{Test}

pub light_ship_unique : {test : Test} {shifts : List ℕ} {off on : List ℤ} {gms after after' : List ℕ} {answer answer' : Result LightShip Refusal}
    → MakesLightShip test shifts off on gms after answer → MakesLightShip test shifts off on gms after' answer' → (answer ≡ answer') × (after ≡ after')
light_ship_unique {answer} {answer'} one other =
    (answer_known answer answer' (one.answer_is ∙ sym other.answer_is), only one.left other.left)
