-- What demand 3 asks of a table of rows and of the rules for KM and free surface, and nothing more. Definitions only.
--     Waterlines, Usable                          the table; that one not refused with 10 is so: `Usability`
--     SoundReading, SoundSurface, Sound           the rules; that the paper's are so: `Readings`
use mathlib.Core.Path.{◌≡◌}
use mathlib.Core.List.{List, [], ◌∷◌}
use Prim.Native.Nat.{ℕ, ◌+◌, ◌*◌, ◌≤◌, ◌<◌}
use Rattle.arithmetic.proofs.Rounding.{RoundedDown}
use Rattle.hydrostatics.specs.declared.Row.{Row}
use Rattle.loading.specs.Load.{Tank, LoweredTank}
use Rattle.loading.specs.Rules.{KMRule, Surface, Rules}
use Rattle.loading.specs.Table.{Table, Place, spacing}
use Rattle.loading.proofs.Places.{Stands}

-- From waterline k on, each row's draft is d·k, and displacements rise strictly.
pub data Waterlines (d : ℕ) : ℕ → Row → List Row → Type 0 where
  last : {k : ℕ} {r : Row} → r.draft ≡ d * k → Waterlines d k r []
  next : {k : ℕ} {r s : Row} {rest : List Row} → r.draft ≡ d * k → r.displacement < s.displacement → Waterlines d (k + 1) s rest → Waterlines d k r (s ∷ rest)

pub record Usable (t : Table) : Type 0 where
  pub afloat : 0 < t.first.displacement
  pub spaced : 0 < spacing t
  pub waterlines : Waterlines (spacing t) 2 t.first t.rest

-- KM is the unrounded KM rounded down.
pub record SoundReading (reading : KMRule) : Type 0 where
  pub rounds : (W : ℕ) (p : Place) → Stands W p → RoundedDown (reading.unrounded p W).top (reading.unrounded p W).bottom (reading.given p W)

-- An empty tank has no surface, and none grows when its tank is lowered.
pub record SoundSurface (surface : Surface) : Type 0 where
  pub unit_some : 0 < surface.unit
  pub empty : (t : Tank) → t.contents ≡ 0 → surface.parts t ≡ 0
  pub lowered : (s t : Tank) → LoweredTank s t → surface.parts s ≤ surface.parts t

pub record Sound (rules : Rules) : Type 0 where
  pub reading : SoundReading rules.reading
  pub surface : SoundSurface rules.surface
