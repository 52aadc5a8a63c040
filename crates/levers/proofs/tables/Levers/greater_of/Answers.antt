-- Two levers are compared by the sums of their parts. Assumes nothing.
use native.Mathlib.Omega.{arith}
use Rattle.levers.proofs.Peak.{later_greater, first_greater}
use Rattle.levers.proofs.tables.Levers.greater_of.Goals as goal

pub overflow_add-self : goal.overflow_add-self
overflow_add-self c = let s = c.args.self.now in omega (arith, s.kn_in_range.none_higher c.args.first, s.off_in_range.none_higher c.args.i)

pub overflow_add-self-2 : goal.overflow_add-self-2
overflow_add-self-2 c = let s = c.args.self.now in omega (arith, s.kn_in_range.none_higher c.args.i, s.off_in_range.none_higher c.args.first)

pub returns-then-self-first : goal.returns-then-self-first
returns-then-self-first c = later_greater _ _ _ _ (omega arith)

pub returns-else-self-first : goal.returns-else-self-first
returns-else-self-first c = first_greater _ _ _ _ (omega arith)
