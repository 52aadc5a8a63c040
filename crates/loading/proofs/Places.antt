-- Where a weight falls in a table: on a row of its own weight, or strictly between two neighbours.
--     Falls, place_falls        the place found among the rows, step by step from the first
--     Stands, place_stands      what a place says of its weight
-- Assumes nothing.
use mathlib.Core.Path.{◌≡◌, refl}
use mathlib.Core.Bool.{Bool, true, false}
use mathlib.Core.List.{List, [], ◌∷◌}
use Prim.Native.Nat.{ℕ, ◌≤◌, ◌<◌}
use native.Mathlib.Omega.{arith}
use borrow.Author.Tests.{ltb-true, ltb-false, eqb-true, eqb-false}
use lib.Dec.{eqb, ltb}
use Rattle.arithmetic.specs.Choice.{when◌then◌else◌}
use Rattle.hydrostatics.specs.declared.Row.{Row}
use Rattle.loading.specs.Private.Afloat.{Within}
use Rattle.loading.specs.Table.{Table, last_from, Place, on, between, place_from, place_of}

-- W falls at this place among the rows from r on
pub data Falls (W : ℕ) : Row → List Row → Place → Type 0 where
  here : {r : Row} {rest : List Row} → W ≡ r.displacement → Falls W r rest (on r)
  inside : {r s : Row} {rest : List Row} → r.displacement < W → W < s.displacement → Falls W r (s ∷ rest) (between r s)
  further : {r s : Row} {rest : List Row} {p : Place} → s.displacement ≤ W → Falls W s rest p → Falls W r (s ∷ rest) p

apart : (a b : ℕ) → b ≤ a → (a ≡ b → ⊥) → b < a
apart a b l n = omega arith

module _ (W : ℕ) (r s : Row) (rest : List Row) (p : Place) (l : r.displacement ≤ W) (f : s.displacement ≤ W → Falls W s rest p) where
  falls_by : (a b : Bool) → ltb W s.displacement ≡ a → eqb W r.displacement ≡ b → Falls W r (s ∷ rest) (when a then (when b then on r else between r s) else p)
  unfolding when◌then◌else◌
  falls_by true true g h = here (eqb-true W r.displacement h)
  falls_by true false g h =
      inside (apart W r.displacement l (eqb-false W r.displacement h)) (ltb-true W s.displacement g)
  falls_by false b g h = let k = ltb-false W s.displacement g in further k (f k)

falls : (W : ℕ) (r : Row) (rest : List Row) → r.displacement ≤ W → W ≤ (last_from r rest).displacement → Falls W r rest (place_from r rest W)
unfolding place_from
falls W r [] l m = let e : W ≡ r.displacement = omega arith in here e
falls W r (s ∷ rest) l m =
    falls_by W r s rest (place_from s rest W) l (λ k. falls W s rest k m) (ltb W s.displacement) (eqb W r.displacement) refl refl

pub place_falls : (t : Table) (W : ℕ) → Within t W → Falls W t.first t.rest (place_of t W)
place_falls t W w = falls W t.first t.rest w.least w.most

-- what a place says of its weight
abbrev pub Stands : ℕ → Place → Type 0
Stands W (on r) = W ≡ r.displacement
Stands W (between r s) = (r.displacement < W) × (W < s.displacement)

falls_stands : {W : ℕ} {r : Row} {rest : List Row} {p : Place} → Falls W r rest p → Stands W p
falls_stands (here e) = e
falls_stands (inside a b) = (a, b)
falls_stands (further k f) = falls_stands f

pub place_stands : (t : Table) (W : ℕ) → Within t W → Stands W (place_of t W)
place_stands t W w = falls_stands (place_falls t W w)
