-- What a step or the condition refuses has one of the paper's numbers.
--     loads_numbered, discharges_numbered, shifts_numbered     the three steps
--     condition_numbered                                       the condition of what is aboard
-- Assumes nothing.
use mathlib.Core.List.{List}
use Prim.Native.Nat.{ℕ}
use lib.IntN.{ℤ}
use Rattle.ranges.specs.Outcome.{Numbered}
use Rattle.ranges.proofs.Numbered.{numbered}
use Rattle.loading.specs.Paper.{default_reading}
use Rattle.loading.proofs.Numbered as Loading
use Rattle.tally.specs.Condition.{condition_aboard}
use Rattle.tally.specs.Steps.{loads, discharges, shifts}
use Rattle.tally.specs.Tally.{aboard, table_of}
use Rattle.tally.specs.declared.Item.{Item}
use Rattle.tally.specs.declared.Place.{Place}
use Rattle.tally.specs.declared.Tally.{Tally}

pub loads_numbered : (slot : ℕ) (i : Item) (t : Tally) → Numbered (loads slot i t)
unfolding loads
loads_numbered slot i t = search numbered depth 7

pub discharges_numbered : (slot : ℕ) (t : Tally) → Numbered (discharges slot t)
unfolding discharges
discharges_numbered slot t = search numbered depth 7

pub shifts_numbered : (slot : ℕ) (p : Place) (t : Tally) → Numbered (shifts slot p t)
unfolding shifts
shifts_numbered slot p t = search numbered depth 7

pub condition_numbered : (t : Tally) (tanks : List ℤ) (rows : List ℕ) → Numbered (condition_aboard t tanks rows)
unfolding condition_aboard
condition_numbered t tanks rows =
    let of-items = Loading.condition_numbered default_reading (table_of (aboard t.slots)) tanks rows in search numbered
