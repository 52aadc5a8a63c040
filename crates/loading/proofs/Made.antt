-- A condition made of its parts.
--     made          the record, from equations of its parts
-- Assumes nothing.
use mathlib.Core.Path.{◌≡◌}
use mathlib.Core.Bool.{Bool}
use Prim.Native.Nat.{ℕ, ◌+◌, ◌/◌}
use lib.IntN.{ℤ}
use Rattle.loading.specs.Stability.{heel_of, passes}
use Rattle.loading.specs.Private.Steady.{gm_of, transverse_of, passes_with, condition_with}
use Rattle.loading.specs.declared.Aboard.{Aboard}
use Rattle.loading.specs.declared.Heel.{Heel}

-- heel and pass are read off what was made of GM and the moment
module _ (a : Aboard) (draft km : ℕ) {gm my : ℤ} {heel : Heel} {pass : Bool} where
  pub made : gm ≡ gm_of km (a.vertical + a.surface) a.weight → my ≡ transverse_of a → heel ≡ heel_of a.weight gm my → pass ≡ passes_with gm heel → record { weight = a.weight; draft = draft; km = km; lcg = a.longitudinal / a.weight; vertical_moment = a.vertical; free_surface = a.surface; gm = gm; transverse_moment = my; heel = heel; passes = pass } ≡ condition_with a draft km
  unfolding condition_with passes
  made e f h p = rw (p, h, e, f)
