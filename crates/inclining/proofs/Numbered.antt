-- What is refused has one of the paper's numbers.
--     inclined_numbered        of an inclining test
-- Assumes nothing.
use mathlib.Core.List.{List}
use Prim.Native.Nat.{ℕ}
use lib.IntN.{ℤ}
use Rattle.ranges.specs.Outcome.{Numbered}
use Rattle.ranges.proofs.Numbered.{numbered, with_numbered}
use Rattle.loading.specs.Items.{totals_of_items}
use Rattle.loading.specs.declared.Totals.{Totals}
use Rattle.inclining.specs.Inclining.{Inclined, inclined_of}
use Rattle.inclining.specs.Light.{lightened}
use Rattle.inclining.specs.Measured.{shifts_of, gm_measured, own_gms}
use Rattle.inclining.specs.declared.Test.{Test}

lightened_numbered : (test : Test) (off on : Totals) (gm : ℕ) → Numbered (lightened test off on gm)
unfolding lightened
lightened_numbered test off on gm = search numbered

pub inclined_numbered : (test : Test) (shifts : List ℕ) (off on : List ℤ) (room : ℕ) → Numbered (inclined_of test shifts off on room)
unfolding inclined_of
inclined_numbered test shifts off on room =
    let rest = with_numbered {B = Inclined} (λ ship. record { gms = own_gms test (shifts_of shifts); light = ship }) _ (lightened_numbered test (totals_of_items off) (totals_of_items on) (gm_measured test (shifts_of shifts))) in
    search numbered depth 8
