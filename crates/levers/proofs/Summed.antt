-- Multiplied sums over parts of the tables.
--     sum_most                                   how large one is
--     sum_made                                   what the sum over a part of a table comes to
--     lever_sum                                  the sum of levers by those of their tables
-- Assumes nothing.
use Prim.Native.Nat.{ℕ, ◌+◌, ◌-◌, ◌^◌, ◌≤◌}
use mathlib.Core.Path.{◌≡◌, sym, ap, ap₂, ◌∙◌}
use mathlib.Core.List.{List}
use native.Mathlib.Omega.{arith}
use borrow.Author.Tests.{lt-ltb, le-ltb}
use lib.IntN.{pos, ◌-ℤ◌}
use lib.ListN.{length, take, drop, get_or, length-drop}
use lib.Seq.{length-take-le, get_or-take, get_or-drop}
use Rattle.std.specs.Prelude.{Result, Ok}
use Rattle.arithmetic.proofs.Choice.{chosen}
use Rattle.ranges.specs.Fields.{most, metacentre}
use Rattle.simpson.specs.Curve.{curve, curve_ℤ, curve_sum_of}
use Rattle.simpson.specs.declared.CurveError.{CurveError}
use Rattle.simpson.proofs.Curves.{curve_same, curve_ℤ_less}
use Rattle.simpson.proofs.Moments.{curve_le}
use Rattle.levers.specs.Levers.{lever}
use Rattle.levers.specs.Private.Tables.{sum_over, most_sum, TableInRange, Between}

module _ {table : List ℕ} {from to : ℕ} (so : TableInRange table) (b : Between from to) where
  pub sum_most : sum_over table from to ≤ most_sum
  sum_most = omega (arith, curve_le (to - from) (most metacentre) (λ i. get_or table (from + i) 0) (λ i l. so.none_higher (from + i)), b.within)

  -- the part of the table that is summed, and its sum
  abbrev part : List ℕ
  part = take (to + 1 - from) (drop from table)

  part_length : length part ≡ to + 1 - from
  part_length = length-take-le (to + 1 - from) (drop from table) (omega (arith, length-drop from table, so.as_many, b.within))

  part_sum : curve (length part - 1) (λ i. get_or part i 0) ≡ sum_over table from to
  part_sum =
      let n : length part - 1 ≡ to - from = omega (arith, part_length) in
      ap (λ n. curve n (λ i. get_or part i 0)) n
      ∙ curve_same (to - from) (λ i. get_or part i 0) (λ i. get_or table (from + i) 0)
      (λ i l. get_or-take (to + 1 - from) (drop from table) i 0 (omega (arith, b.two)) ∙ get_or-drop from table i 0)

  pub sum_made : {r : Result ℕ CurveError} → r ≡ curve_sum_of part → r ≡ Ok (sum_over table from to)
  unfolding curve_sum_of
  sum_made e =
      e
      ∙ simp (le-ltb (length part) 3 (omega (arith, part_length, b.two)), part_sum, lt-ltb (sum_over table from to) (2 ^ 64) (omega (arith, sum_most)), chosen)

pub ok_same : {a b : ℕ} → ◌≡◌ {A = Result ℕ CurveError} (Ok a) (Ok b) → a ≡ b
ok_same e = cc

pub lever_sum : (kn off : List ℕ) (from to : ℕ) {a b : ℕ} → a ≡ sum_over kn from to → b ≡ sum_over off from to → pos a -ℤ pos b ≡ curve_ℤ (to - from) (λ i. lever kn off (from + i))
unfolding lever
lever_sum kn off from to e f =
    ap₂ (λ a b. pos a -ℤ pos b) e f
    ∙ sym (curve_ℤ_less (to - from) (λ i. get_or kn (from + i) 0) (λ i. get_or off (from + i) 0))
