-- The sums are those of the stations passed, whose half-breadths are in range; so they are small. Assumes nothing.
use Prim.Native.Nat.{ℕ, ◌+◌, ◌*◌, ◌≤◌}
use mathlib.Core.Path.{sym, subst, ◌∙◌}
use native.Mathlib.Omega.{arith}
use borrow.Author.Count.{below_none, below_more}
use lib.ListN.{get_or}
use Rattle.arithmetic.proofs.Products.{powers_le}
use Rattle.ranges.specs.Fields.{range_of, most}
use Rattle.ranges.proofs.Facts.{within_whole}
use Rattle.simpson.proofs.Sweep.{swept_none, swept_more, swept_moment, swept_cube, swept_all}
use Rattle.hydrostatics.specs.Hull.{half_breadth}
use Rattle.hydrostatics.specs.Private.Sums.{most_q, most_c}
use Rattle.hydrostatics.specs.Private.Waterplanes.{most_x}
use Rattle.hydrostatics.proofs.Exchange.{Q_is, X_is, C_is}
use Rattle.hydrostatics.proofs.Sweep.{q_most, x_most, c_most}
use Rattle.hydrostatics.proofs.Tried.{line_outside}
use Rattle.hydrostatics.proofs.Keeping.{line_same}
use Rattle.hydrostatics.proofs.hull.Hull.waterline_sums.Goals as goal
use Rattle.hydrostatics.proofs.hull.Hull.waterline_sums.Goals.{After-row_known-1}

pub loop-i-init : goal.loop-i-init
loop-i-init c =
    let hull = c.args.self.now in
    (below_none (λ k. half_breadth hull.half_breadths.now hull.particulars k c.args.j ≤ most (range_of 5)), swept_none, swept_none, swept_none)

pub returns-then-not-is_within : goal.returns-then-not-is_within
returns-then-not-is_within c =
    let given = c.requires in
    line_outside c.args.self.now.complete (omega arith) given.1 c.half_breadth_at-y.ensures (sym c.is_within.ensures ∙ c.if-not-is_within.true)

y_most : (c : After-row_known-1) → c.half_breadth_at-y.result ≤ most (range_of 5)
y_most c =
    (within_whole (range_of 5) _ (sym c.is_within.ensures ∙ c.if-not-is_within.false)).1

pub loop-i-preserved : goal.loop-i-preserved
loop-i-preserved c =
    let u = c.requires.0.each.at c.loop-i.i (omega (arith, c.requires.0.long)) in
    let y = c.half_breadth_at-y.ensures in
    let line : ℕ → ℕ = λ i. half_breadth c.args.self.now.half_breadths.now c.args.self.now.particulars i c.args.j in (
      below_more (λ k. line k ≤ most (range_of 5)) c.loop-i.i c.loop-i.invariant.0 (subst (λ v. v ≤ most (range_of 5)) y (y_most c)),
      swept_more c.loop-i.invariant.1 (omega arith) u y,
      swept_moment line c.loop-i.invariant.2 (omega arith) u y,
      swept_cube line c.loop-i.invariant.3 (omega arith) u y,
    )

-- so none of the three sums is too large with this station's terms
sums_most :
    (c : After-row_known-1)
    → let l = c.loop-i in
    let y = c.half_breadth_at-y.result in
    let uy = get_or c.args.stations.now l.i 0 * y in
    (l.q + uy ≤ most_q) × (l.x + uy * l.i ≤ most_x) × (l.c + uy * (y * y) ≤ most_c)
sums_most c =
    let range = c.args.self.now.complete.particulars in
    let next = loop-i-preserved c in
    (q_most c.args.self.now.half_breadths.now range c.args.j next.0 next.1, x_most c.args.self.now.half_breadths.now range c.args.j next.0 next.2, c_most c.args.self.now.half_breadths.now range c.args.j next.0 next.3)

pub overflow_mul-uy : goal.overflow_mul-uy
overflow_mul-uy c = omega (arith, (sums_most c).0)

pub overflow_add-q : goal.overflow_add-q
overflow_add-q c = omega (arith, (sums_most c).0)

pub overflow_mul-x : goal.overflow_mul-x
overflow_mul-x c = omega (arith, (sums_most c).1)

pub overflow_add-x : goal.overflow_add-x
overflow_add-x c = omega (arith, (sums_most c).1)

pub overflow_mul-c : goal.overflow_mul-c
overflow_mul-c c = omega (arith, powers_le (y_most c))

pub overflow_mul-c-in-loop-i : goal.overflow_mul-c-in-loop-i
overflow_mul-c-in-loop-i c = omega (arith, (sums_most c).2)

pub overflow_add-c : goal.overflow_add-c
overflow_add-c c = omega (arith, (sums_most c).2)

pub returns : goal.returns
returns c =
    let table = c.args.self.now.half_breadths.now in
    let p = c.args.self.now.particulars in
    let inv = c.loop-i.invariant in
    let long = c.requires.0.long in
    record {
      is_in_range = λ i h. inv.0 i (omega (arith, long));
      is =
          line_same (swept_all inv.1 (omega (arith, long)) ∙ sym (Q_is table p c.args.j)) (swept_all inv.2 (omega (arith, long)) ∙ sym (X_is table p c.args.j))
          (swept_all inv.3 (omega (arith, long)) ∙ sym (C_is table p c.args.j));
    }
