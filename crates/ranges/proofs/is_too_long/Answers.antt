-- n·s is above a length where s is above its quotient by n. Assumes nothing.
use Prim.Native.Nat.{ℕ, ◌*◌, ◌/◌, ◌≤◌, ◌<◌}
use mathlib.Core.Logic.{◌⊎◌, inl, inr, ◌↔◌}
use mathlib.Core.Path.{◌≡◌, refl, sym, ◌∙◌}
use native.Mathlib.Nat.{mul_comm, zero-mul}
use native.Mathlib.Omega.{arith}
use borrow.Author.Tests.{lt-ltb, le-ltb}
use lib.Dec.{ltb}
use Rattle.arithmetic.proofs.Rounding.{down_of, down_greatest}
use Rattle.arithmetic.proofs.Tests.{less_or_not}
use Rattle.ranges.specs.Limits.{limits}
use Rattle.ranges.specs.Outside.{too_long}
use Rattle.ranges.proofs.is_too_long.Goals as goal

by_quotient : (length n s : ℕ) → 0 < n → ltb (length / n) s ≡ ltb length (n * s)
by_quotient length n s some = told (less_or_not length (n * s))
  where
    least : (s ≤ length / n) ↔ (s * n ≤ length)
    least = down_greatest (down_of length n some) s

    told : (length < n * s) ⊎ (n * s ≤ length) → ltb (length / n) s ≡ ltb length (n * s)
    told (inl above) = lt-ltb _ _ (beyond (less_or_not (length / n) s)) ∙ sym (lt-ltb _ _ above)
      where
        beyond : (length / n < s) ⊎ (s ≤ length / n) → length / n < s
        beyond (inl h) = h
        beyond (inr h) = absurd (omega (arith, least.0 h, mul_comm n s))
    told (inr inside) = le-ltb _ _ (least.1 (omega (arith, mul_comm n s))) ∙ sym (le-ltb _ _ inside)

pub returns-else-n-ne0 : goal.returns-else-n-ne0
unfolding too_long
returns-else-n-ne0 c = rw (c.if-n-ne0.false, zero-mul) refl

pub returns-then-n-ne0 : goal.returns-then-n-ne0
unfolding too_long
returns-then-n-ne0 c = let p = c.args.p in by_quotient limits.longest_hull p.n p.s (omega (arith, c.if-n-ne0.true))
