-- Laws of sums over an index, once for every commutative semiring; cited as `sum_same natural`, `sum_same integer`.
--     sum_none, sum_step, sum_more     no term; one term more, at `suc n` and in the code's `n + 1`
--     sum_same                         equal terms below n, equal sums
--     sum_front                        the first term taken off
--     sum_split                        a sum over m + n terms in two
--     sum_of_none                      terms that are all none
--     sum_plus                         a sum of sums
--     sum_times, times_sum             a factor taken out, on the right and on the left
--     weighted_plus, weighted_times    a sum of weighted terms is linear in the terms
--     sum_swap, weighted_sum           two sums exchanged, and a weighted sum of sums
-- Over ℕ alone:
--     sum_le, sum_mono                 a bound on each term; terms never larger
--     sum_grows, term_le_sum           more terms, never less; one term among them
-- Assumes nothing.
use mathlib.Core.Path.{◌≡◌, refl, sym, ap, ap₂, ◌∙◌, subst}
use Prim.Native.Nat.{ℕ, zero, suc, ◌+◌, ◌*◌, ◌-◌, ◌≤◌, ◌<◌}
use native.Mathlib.Nat.{add-suc, add-zero, suc-mul}
use native.Mathlib.Numerals.{add-one}
use native.Mathlib.Omega.{arith}
use Rattle.arithmetic.specs.Sum.{sum_by, sum_to}
use Rattle.arithmetic.proofs.Algebra.{Semiring, natural}

module _ {R : Type 0} (S : Semiring R) where
  open S use {none, one, ◌⊕◌, ◌⊗◌, ⊕_assoc, ⊕_comm, ⊕_none, ⊗_assoc, ⊗_comm, ⊗_none, ⊗_⊕}

  abbrev sum : ℕ → (ℕ → R) → R
  sum = sum_by ◌⊕◌ none

  pub sum_none : (f : ℕ → R) → sum_by ◌⊕◌ none 0 f ≡ none
  unfolding sum_by
  sum_none f = refl

  pub sum_step : (n : ℕ) (f : ℕ → R) → sum_by ◌⊕◌ none (suc n) f ≡ sum_by ◌⊕◌ none n f ⊕ f n
  unfolding sum_by
  sum_step n f = refl

  -- what a loop that adds one term a turn asks
  pub sum_more : (n : ℕ) (f : ℕ → R) {s t : R} → s ≡ sum_by ◌⊕◌ none n f → t ≡ f n → s ⊕ t ≡ sum_by ◌⊕◌ none (n + 1) f
  sum_more n f e h = ap₂ ◌⊕◌ e h ∙ sym (ap (λ k. sum k f) (add-one n) ∙ sum_step n f)

  pub sum_same : (n : ℕ) (f g : ℕ → R) → ((i : ℕ) → i < n → f i ≡ g i) → sum_by ◌⊕◌ none n f ≡ sum_by ◌⊕◌ none n g
  sum_same zero f g h = sum_none f ∙ sym (sum_none g)
  sum_same (suc n) f g h =
      sum_step n f ∙ ap₂ ◌⊕◌ (sum_same n f g (λ i l. h i (omega arith))) (h n (omega arith)) ∙ sym (sum_step n g)

  pub sum_front : (n : ℕ) (f : ℕ → R) → sum_by ◌⊕◌ none (suc n) f ≡ f 0 ⊕ sum_by ◌⊕◌ none n (λ i. f (suc i))
  sum_front zero f =
      sum_step 0 f ∙ ap (λ x. x ⊕ f 0) (sum_none f) ∙ ⊕_comm none (f 0) ∙ ap (λ x. f 0 ⊕ x) (sym (sum_none (λ i. f (suc i))))
  sum_front (suc n) f =
      sum_step (suc n) f ∙ ap (λ x. x ⊕ f (suc n)) (sum_front n f) ∙ ⊕_assoc _ _ _ ∙ ap (λ x. f 0 ⊕ x) (sym (sum_step n (λ i. f (suc i))))

  pub sum_split : (m n : ℕ) (f : ℕ → R) → sum_by ◌⊕◌ none (m + n) f ≡ sum_by ◌⊕◌ none m f ⊕ sum_by ◌⊕◌ none n (λ i. f (m + i))
  sum_split m zero f =
      ap (λ k. sum k f) (add-zero m) ∙ sym (ap (λ x. sum m f ⊕ x) (sum_none (λ i. f (m + i))) ∙ ⊕_none (sum m f))
  sum_split m (suc n) f =
      ap (λ k. sum k f) (add-suc m n) ∙ sum_step (m + n) f ∙ ap (λ x. x ⊕ f (m + n)) (sum_split m n f) ∙ ⊕_assoc _ _ _
      ∙ ap (λ x. sum m f ⊕ x) (sym (sum_step n (λ i. f (m + i))))

  pub sum_of_none : (n : ℕ) → sum_by ◌⊕◌ none n (λ i. none) ≡ none
  sum_of_none zero = sum_none (λ i. none)
  sum_of_none (suc n) = sum_step n (λ i. none) ∙ ⊕_none _ ∙ sum_of_none n

  -- the middle two of four exchanged
  middle : (a b c d : R) → (a ⊕ b) ⊕ (c ⊕ d) ≡ (a ⊕ c) ⊕ (b ⊕ d)
  middle a b c d =
      ⊕_assoc a b (c ⊕ d) ∙ ap (λ x. a ⊕ x) (sym (⊕_assoc b c d) ∙ ap (λ x. x ⊕ d) (⊕_comm b c) ∙ ⊕_assoc c b d) ∙ sym (⊕_assoc a c (b ⊕ d))

  pub sum_plus : (n : ℕ) (f g : ℕ → R) → sum_by ◌⊕◌ none n (λ i. f i ⊕ g i) ≡ sum_by ◌⊕◌ none n f ⊕ sum_by ◌⊕◌ none n g
  sum_plus zero f g = sum_none (λ i. f i ⊕ g i) ∙ sym (ap₂ ◌⊕◌ (sum_none f) (sum_none g) ∙ ⊕_none none)
  sum_plus (suc n) f g =
      sum_step n (λ i. f i ⊕ g i) ∙ ap (λ x. x ⊕ (f n ⊕ g n)) (sum_plus n f g) ∙ middle _ _ _ _ ∙ sym (ap₂ ◌⊕◌ (sum_step n f) (sum_step n g))

  pub times_sum : (n : ℕ) (a : R) (f : ℕ → R) → sum_by ◌⊕◌ none n (λ i. a ⊗ f i) ≡ a ⊗ sum_by ◌⊕◌ none n f
  times_sum zero a f = sum_none (λ i. a ⊗ f i) ∙ sym (ap (λ x. a ⊗ x) (sum_none f) ∙ ⊗_none a)
  times_sum (suc n) a f =
      sum_step n (λ i. a ⊗ f i) ∙ ap (λ x. x ⊕ a ⊗ f n) (times_sum n a f) ∙ sym (ap (λ x. a ⊗ x) (sum_step n f) ∙ ⊗_⊕ a (sum n f) (f n))

  pub sum_times : (n : ℕ) (f : ℕ → R) (a : R) → sum_by ◌⊕◌ none n (λ i. f i ⊗ a) ≡ sum_by ◌⊕◌ none n f ⊗ a
  sum_times n f a =
      sum_same n (λ i. f i ⊗ a) (λ i. a ⊗ f i) (λ i l. ⊗_comm (f i) a) ∙ times_sum n a f ∙ ⊗_comm a (sum n f)

  pub weighted_plus : (n : ℕ) (u f g : ℕ → R) → sum_by ◌⊕◌ none n (λ i. u i ⊗ (f i ⊕ g i)) ≡ sum_by ◌⊕◌ none n (λ i. u i ⊗ f i) ⊕ sum_by ◌⊕◌ none n (λ i. u i ⊗ g i)
  weighted_plus n u f g =
      sum_same n (λ i. u i ⊗ (f i ⊕ g i)) (λ i. u i ⊗ f i ⊕ u i ⊗ g i) (λ i l. ⊗_⊕ (u i) (f i) (g i)) ∙ sum_plus n (λ i. u i ⊗ f i) (λ i. u i ⊗ g i)

  -- a factor taken in front of a weight
  in_front : (u a y : R) → u ⊗ (a ⊗ y) ≡ a ⊗ (u ⊗ y)
  in_front u a y = sym (⊗_assoc u a y) ∙ ap (λ x. x ⊗ y) (⊗_comm u a) ∙ ⊗_assoc a u y

  pub weighted_times : (n : ℕ) (u : ℕ → R) (a : R) (f : ℕ → R) → sum_by ◌⊕◌ none n (λ i. u i ⊗ (a ⊗ f i)) ≡ a ⊗ sum_by ◌⊕◌ none n (λ i. u i ⊗ f i)
  weighted_times n u a f =
      sum_same n (λ i. u i ⊗ (a ⊗ f i)) (λ i. a ⊗ (u i ⊗ f i)) (λ i l. in_front (u i) a (f i)) ∙ times_sum n a (λ i. u i ⊗ f i)

  pub sum_swap : (m n : ℕ) (f : ℕ → ℕ → R) → sum_by ◌⊕◌ none m (λ i. sum_by ◌⊕◌ none n (λ j. f i j)) ≡ sum_by ◌⊕◌ none n (λ j. sum_by ◌⊕◌ none m (λ i. f i j))
  sum_swap zero n f =
      sum_none (λ i. sum n (f i)) ∙ sym (sum_same n (λ j. sum 0 (λ i. f i j)) (λ j. none) (λ j l. sum_none (λ i. f i j)) ∙ sum_of_none n)
  sum_swap (suc m) n f =
      sum_step m (λ i. sum n (f i))
      ∙ ap (λ x. x ⊕ sum n (f m)) (sum_swap m n f)
      ∙ sym (sum_plus n (λ j. sum m (λ i. f i j)) (λ j. f m j))
      ∙ sum_same n _ (λ j. sum (suc m) (λ i. f i j)) (λ j l. sym (sum_step m (λ i. f i j)))

  pub weighted_sum : (m n : ℕ) (u : ℕ → R) (f : ℕ → ℕ → R) → sum_by ◌⊕◌ none m (λ i. u i ⊗ sum_by ◌⊕◌ none n (λ j. f i j)) ≡ sum_by ◌⊕◌ none n (λ j. sum_by ◌⊕◌ none m (λ i. u i ⊗ f i j))
  weighted_sum m n u f =
      sum_same m _ (λ i. sum n (λ j. u i ⊗ f i j)) (λ i l. sym (times_sum n (u i) (f i))) ∙ sum_swap m n (λ i j. u i ⊗ f i j)

-- ---- over ℕ
pub sum_le : (n k : ℕ) (f : ℕ → ℕ) → ((i : ℕ) → i < n → f i ≤ k) → sum_to n f ≤ n * k
sum_le zero k f h = omega (arith, sum_none natural f)
sum_le (suc n) k f h =
    omega (arith, sum_step natural n f, suc-mul n k, h n (omega arith), sum_le n k f (λ i l. h i (omega arith)))

pub sum_mono : (n : ℕ) (f g : ℕ → ℕ) → ((i : ℕ) → i < n → f i ≤ g i) → sum_to n f ≤ sum_to n g
sum_mono zero f g h = omega (arith, sum_none natural f)
sum_mono (suc n) f g h =
    omega (arith, sum_step natural n f, sum_step natural n g, h n (omega arith), sum_mono n f g (λ i l. h i (omega arith)))

-- a sum of more terms is never less
pub sum_grows : (m n : ℕ) (f : ℕ → ℕ) → m ≤ n → sum_to m f ≤ sum_to n f
sum_grows m n f h =
    let k : n ≡ m + (n - m) = omega arith in
    subst (λ x. sum_to m f ≤ sum_to x f) (sym k) (omega (arith, sum_split natural m (n - m) f))

-- no term is more than its sum
pub term_le_sum : (n i : ℕ) (f : ℕ → ℕ) → i < n → f i ≤ sum_to n f
term_le_sum n i f h = omega (arith, sum_step natural i f, sum_grows (suc i) n f h)
