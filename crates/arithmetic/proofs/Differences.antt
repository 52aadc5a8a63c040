-- A number of either sign as a difference of two whole numbers: what follows for order and multiples by moving terms across.
--     Less, less                             z is a − b, and a − b is
--     difference_le_z, difference_lt_z         a − b against c − d, as tests: by a + d against c + b
--     whole_le_z                              and a whole number against it
--     difference_le, difference_lt           and as facts
--     lt_le, le_lt                           of any numbers of either sign: below is not above, and not above what is below is below
--     difference_times                       x · (a − b)
--     difference_more                        (a − b) + k
--     difference_size                        how far a − b is from 0, at most
--     difference_near                        64 bits hold it
-- Assumes nothing.
use mathlib.Core.Path.{◌≡◌, refl, sym, ap, subst, ◌∙◌}
use mathlib.Core.Bool.{Bool, true, false, cond, not}
use Prim.Native.Nat.{ℕ, zero, suc, ◌+◌, ◌-◌, ◌*◌, ◌^◌, ◌≤◌, ◌<◌}
use native.Mathlib.Nat.{mul-add}
use native.Mathlib.Omega.{arith}
use borrow.Author.Tests.{ltb-true, ltb-false, leb-true, leb-false, lt-ltb, le-ltb, le-leb, lt-leb}
use lib.Dec.{T, leb, ltb, le→leb, ltb→lt}
use lib.IntN.{ℤ, pos, negsuc, neg_ℤ, nat_abs, ◌+ℤ◌, ◌-ℤ◌, ◌*ℤ◌}
use lib.Signed.{le_z, lt_z, ◌≤ℤ◌, ◌<ℤ◌, le_z_yes, lt_z_yes, lt_z_no, <ℤ-≤ℤ_trans, clash_ℤ}
use Rattle.arithmetic.specs.Signed.{nearest}
use Rattle.arithmetic.proofs.Crossing.{mag_le, nearest_of_small}
use Rattle.arithmetic.proofs.Tests.{by_test, same_test}

-- z is a less b
pub data Less (a b : ℕ) : ℤ → Type 0 where
  over : (n : ℕ) → a ≡ b + n → Less a b (pos n)
  under : (n : ℕ) → b ≡ a + suc n → Less a b (negsuc n)

less_by : (a b : ℕ) (t : Bool) → ltb a b ≡ t → Less a b (cond t (negsuc (b - suc a)) (pos (a - b)))
less_by a b true e = under (b - suc a) (omega (arith, ltb-true a b e))
less_by a b false e = over (a - b) (omega (arith, ltb-false a b e))

pub less : (a b : ℕ) → Less a b (pos a -ℤ pos b)
less a zero = over (a + 0) (omega arith)
less a (suc b) = less_by a (suc b) (ltb a (suc b)) refl

-- and nothing else is
less_unique : {a b : ℕ} {y z : ℤ} → Less a b y → Less a b z → y ≡ z
less_unique (over m e) (over n f) = ap pos (omega arith)
less_unique (over m e) (under n f) = absurd (omega arith)
less_unique (under m e) (over n f) = absurd (omega arith)
less_unique (under m e) (under n f) = ap negsuc (omega arith)

-- ---- order, as tests and as facts
same_leb : (m n p q : ℕ) → (m ≤ n → p ≤ q) → (p ≤ q → m ≤ n) → leb m n ≡ leb p q
same_leb m n p q f g =
    same_test (leb m n) (leb p q) (λ e. le-leb p q (f (leb-true m n e))) (λ e. le-leb m n (g (leb-true p q e)))

le_z_across : {a b c d : ℕ} {y z : ℤ} → Less a b y → Less c d z → le_z y z ≡ leb (a + d) (c + b)
le_z_across {a} {b} {c} {d} (over m e) (over n f) = same_leb m n (a + d) (c + b) (λ h. omega arith) (λ h. omega arith)
le_z_across {a} {b} {c} {d} (over m e) (under n f) = sym (lt-leb (a + d) (c + b) (omega arith))
le_z_across {a} {b} {c} {d} (under m e) (over n f) = sym (le-leb (a + d) (c + b) (omega arith))
le_z_across {a} {b} {c} {d} (under m e) (under n f) = same_leb n m (a + d) (c + b) (λ h. omega arith) (λ h. omega arith)

-- below is: not at least
below_leb : (m n : ℕ) → ltb m n ≡ not (leb n m)
below_leb m n =
    by_test (leb n m)
    (λ e. le-ltb m n (leb-true n m e) ∙ ap not (sym e))
    (λ e. lt-ltb m n (leb-false n m e) ∙ ap not (sym e))

below_le_z : (y z : ℤ) → lt_z y z ≡ not (le_z z y)
below_le_z (pos m) (pos n) = below_leb m n
below_le_z (pos m) (negsuc n) = refl
below_le_z (negsuc m) (pos n) = refl
below_le_z (negsuc m) (negsuc n) = below_leb n m

pub whole_le_z : (n a b : ℕ) → le_z (pos n) (pos a -ℤ pos b) ≡ leb (n + b) (a + 0)
whole_le_z n a b = le_z_across itself (less a b)
  where
    itself : Less n 0 (pos n)
    itself = over n (omega arith)

module _ (a b c d : ℕ) where
  pub difference_le_z : le_z (pos a -ℤ pos b) (pos c -ℤ pos d) ≡ leb (a + d) (c + b)
  difference_le_z = le_z_across (less a b) (less c d)

  pub difference_lt_z : lt_z (pos a -ℤ pos b) (pos c -ℤ pos d) ≡ ltb (a + d) (c + b)
  difference_lt_z =
      below_le_z (pos a -ℤ pos b) (pos c -ℤ pos d) ∙ ap not (le_z_across (less c d) (less a b)) ∙ sym (below_leb (a + d) (c + b))

  pub difference_le : a + d ≤ c + b → (pos a -ℤ pos b) ≤ℤ (pos c -ℤ pos d)
  difference_le h = record { le = subst T (sym (difference_le_z ∙ le-leb (a + d) (c + b) h)) tt }

  pub difference_lt : a + d < c + b → (pos a -ℤ pos b) <ℤ (pos c -ℤ pos d)
  difference_lt h = record { lt = subst T (sym (difference_lt_z ∙ lt-ltb (a + d) (c + b) h)) tt }

lt_le_z : (y z : ℤ) → T (lt_z y z) → T (le_z y z)
lt_le_z (pos m) (pos n) t = le→leb m n (omega (arith, ltb→lt m n t))
lt_le_z (pos m) (negsuc n) t = absurd t
lt_le_z (negsuc m) (pos n) t = tt
lt_le_z (negsuc m) (negsuc n) t = le→leb n m (omega (arith, ltb→lt n m t))

pub lt_le : {y z : ℤ} → y <ℤ z → y ≤ℤ z
lt_le {y} {z} h = le_z_yes (lt_le_z y z h.lt)

pub le_lt : {x y z : ℤ} → x ≤ℤ y → y <ℤ z → x <ℤ z
le_lt {x} {z} h k =
    by_test (lt_z x z) (λ t. lt_z_yes (subst T (sym t) tt))
    (λ t. let not_less : z ≤ℤ x = lt_z_no (subst (λ t. T (not t)) (sym t) tt) in clash_ℤ (<ℤ-≤ℤ_trans k not_less) h)

-- ---- multiples and sums
taken : {a b : ℕ} (k : ℕ) → b ≡ a + k → Less a b (neg_ℤ (pos k))
taken zero e = over 0 (omega arith)
taken (suc k) e = under k e

times : (x : ℕ) {a b : ℕ} {z : ℤ} → Less a b z → Less (x * a) (x * b) (pos x *ℤ z)
times x (over n e) = over (x * n) (ap (λ m. x * m) e ∙ mul-add x _ n)
times x (under n e) = taken (x * suc n) (ap (λ m. x * m) e ∙ mul-add x _ (suc n))

-- both moved along by the same
moved : {a b c d : ℕ} {z : ℤ} → Less c d z → a + d ≡ b + c → Less a b z
moved (over n e) h = over n (omega arith)
moved (under n e) h = under n (omega arith)

raised : (k : ℕ) {a b : ℕ} {z : ℤ} → Less a b z → Less (a + k) b (z +ℤ pos k)
raised k (over n e) = over (n + k) (omega arith)
raised k (under n e) = moved (less k (suc n)) (omega arith)

module _ (a b : ℕ) where
  pub difference_times : (x : ℕ) → pos x *ℤ (pos a -ℤ pos b) ≡ pos (x * a) -ℤ pos (x * b)
  difference_times x = less_unique (times x (less a b)) (less (x * a) (x * b))

  pub difference_more : (k : ℕ) → (pos a -ℤ pos b) +ℤ pos k ≡ pos (a + k) -ℤ pos b
  difference_more k = less_unique (raised k (less a b)) (less (a + k) b)

-- how large a difference can be
less_size : {a b : ℕ} {z : ℤ} → Less a b z → nat_abs z ≤ a + b
less_size (over n e) = omega arith
less_size (under n e) = omega arith

module _ (a b : ℕ) where
  pub difference_size : nat_abs (pos a -ℤ pos b) ≤ a + b
  difference_size = less_size (less a b)

  -- one that 64 bits hold
  pub difference_near : a < 2 ^ 62 → b < 2 ^ 62 → nearest (pos a -ℤ pos b) ≡ pos a -ℤ pos b
  difference_near h k = nearest_of_small (pos a -ℤ pos b) (omega (arith, difference_size, mag_le (pos a -ℤ pos b)))
