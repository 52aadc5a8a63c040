-- Each return is what its tests tell; a remainder by 0 is the number itself. Assumes nothing.
use Prim.Native.Nat.{ℕ}
use mathlib.Core.Bool.{and-true}
use mathlib.Core.Path.{◌≡◌, sym}
use native.Mathlib.Nat.{mod-zero, div-zero}
use native.Mathlib.Omega.{arith}
use borrow.Author.Tests.{eq-eqb, ne_eqb, le-leb}
use lib.Dec.{eqb}
use Rattle.ranges.specs.Sizes.{whole_records}
use Rattle.ranges.proofs.whole_records.Goals as goal

of_no_width : (allowed count : ℕ) → whole_records 0 allowed count ≡ eqb count 0
unfolding whole_records
of_no_width allowed count = rw (mod-zero count, div-zero count, le-leb 0 allowed (omega arith)) (and-true (eqb count 0))

pub returns-then-width-eq0 : goal.returns-then-width-eq0
returns-then-width-eq0 c = rw c.if-width-eq0.true (sym (of_no_width c.args.allowed c.args.count))

pub returns-then-count-width-eq0 : goal.returns-then-count-width-eq0
unfolding whole_records
returns-then-count-width-eq0 c = rw (eq-eqb _ _ c.if-count-width-eq0.true)

pub returns-else-count-width-eq0 : goal.returns-else-count-width-eq0
unfolding whole_records
returns-else-count-width-eq0 c = rw (ne_eqb _ _ c.if-count-width-eq0.false)
