-- What a condition refuses has one of the paper's numbers.
--     tanks_numbered         the tanks, one after another
--     floats_numbered        the weight against the table
--     condition_numbered     the condition
-- Assumes nothing.
use Prim.Native.Nat.{ℕ, ◌+◌, ◌/◌}
use mathlib.Core.List.{List, [], ◌∷◌}
use lib.IntN.{ℤ}
use lib.ListN.{length}
use Rattle.ranges.specs.Outcome.{Numbered}
use Rattle.ranges.specs.Sizes.{tank_width, row_width}
use Rattle.ranges.proofs.Numbered.{numbered}
use Rattle.hydrostatics.proofs.Numbered.{usable_numbered}
use Rattle.loading.specs.Condition.{tanks_from, floats, condition_by}
use Rattle.loading.specs.Load.{Load}
use Rattle.loading.specs.Records.{load_of}
use Rattle.loading.specs.Table.{Table, hull}
use Rattle.loading.specs.declared.Reading.{Reading}

pub tanks_numbered : (place : ℕ) (tanks : List ℤ) → Numbered (tanks_from place tanks)
unfolding tanks_from
tanks_numbered place (contents ∷ capacity ∷ x ∷ y ∷ z ∷ length ∷ breadth ∷ density ∷ rest) =
    let further = tanks_numbered (place + tank_width) rest in search numbered
tanks_numbered place (contents ∷ capacity ∷ x ∷ y ∷ z ∷ length ∷ breadth ∷ []) = search numbered
tanks_numbered place (contents ∷ capacity ∷ x ∷ y ∷ z ∷ length ∷ []) = search numbered
tanks_numbered place (contents ∷ capacity ∷ x ∷ y ∷ z ∷ []) = search numbered
tanks_numbered place (contents ∷ capacity ∷ x ∷ y ∷ []) = search numbered
tanks_numbered place (contents ∷ capacity ∷ x ∷ []) = search numbered
tanks_numbered place (contents ∷ capacity ∷ []) = search numbered
tanks_numbered place (contents ∷ []) = search numbered
tanks_numbered place [] = search numbered

pub floats_numbered : (reading : Reading) (t : Table) (l : Load) → Numbered (floats reading t l)
unfolding floats
floats_numbered reading t l = search numbered

pub condition_numbered : (reading : Reading) (items tanks : List ℤ) (rows : List ℕ) → Numbered (condition_by reading items tanks rows)
unfolding condition_by
condition_numbered reading items tanks rows =
    let usable = usable_numbered rows (length rows / row_width) in
    let tanks_are = tanks_numbered 0 tanks in
    let afloat = floats_numbered reading (hull rows) (load_of items tanks) in
    search numbered depth 10
