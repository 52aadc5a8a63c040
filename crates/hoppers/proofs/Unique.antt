-- The promise of this crate determines its answer: no two satisfy it for the same inputs.
--     surface_unique        of making a free surface
-- Assumes nothing.
use mathlib.Core.Path.{◌≡◌, sym, ◌∙◌}
use mathlib.Core.List.{List}
use Prim.Native.Nat.{ℕ}
use Rattle.std.specs.Prelude.{Result}
use Rattle.ranges.specs.declared.refusal.Refusal.{Refusal}
use Rattle.ranges.proofs.Outcomes.{answer_known}
use Rattle.hoppers.specs.Hopper.{MakesSurface}
use Rattle.hoppers.specs.declared.FreeSurface.{FreeSurface}

pub surface_unique : {port starboard : List ℕ} {h density : ℕ} {answer answer' : Result FreeSurface Refusal} → MakesSurface port starboard h density answer → MakesSurface port starboard h density answer' → answer ≡ answer'
surface_unique {answer} {answer'} one other = answer_known answer answer' (one.answer_is ∙ sym other.answer_is)
