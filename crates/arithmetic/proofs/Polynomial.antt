-- A solver for equations of polynomials over a semiring: both sides are brought to Horner form, and `refl` compares the forms.
--     Poly           a polynomial in Horner form: a constant, or p + x₀ · q with p in x₁, x₂, …
--     Exp            what is written: variables, constants, sums, products, negations, powers
--     norm, sound    the Horner form of an expression, and that it has the expression's value
--     solve          n variables, the two sides as functions of them, and the proof that their forms are the same
-- Its use over ℤ, and examples: `Integer`. Over ℕ the rule set `ring` of `Ring` with `omega` needs no solver. Assumes nothing.
use mathlib.Core.Path.{◌≡◌, refl, ap, ap₂, sym, ◌∙◌}
use mathlib.Core.Bool.{Bool, true, false}
use mathlib.Core.List.{List, [], ◌∷◌}
use Prim.Native.Nat.{ℕ, zero, suc}
use Rattle.arithmetic.proofs.Algebra.{Semiring}

pub data Poly (R : Type 0) : Type 0 where
  cst : R → Poly R
  hor : Poly R → Poly R → Poly R

pub data Exp (R : Type 0) : Type 0 where
  var : ℕ → Exp R
  con : R → Exp R
  ◌:+◌ : Exp R → Exp R → Exp R
  ◌:*◌ : Exp R → Exp R → Exp R
  :-◌ : Exp R → Exp R
  ◌:^◌ : Exp R → ℕ → Exp R

infixl 6 ◌:+◌
infixl 7 ◌:*◌
infixl 8 ◌:^◌
infixl 9 :-◌
-- functions of n arguments, such a function at the variables from x_i on, and a statement about every list of n values
abbrev pub Of : ℕ → Type 0 → Type 0 → Type 0
Of zero A B = B
Of (suc n) A B = A → Of n A B

abbrev pub at_vars : {R : Type 0} (n i : ℕ) → Of n (Exp R) (Exp R) → Exp R
at_vars zero i f = f
at_vars (suc n) i f = at_vars n (suc i) (f (var i))

abbrev pub All : {R : Type 0} (n : ℕ) → (List R → Type 0) → Type 0
All zero P = P []
All {R} (suc n) P = (x : R) → All n (λ xs. P (x ∷ xs))

all : {R : Type 0} (n : ℕ) (P : List R → Type 0) → ((xs : List R) → P xs) → All n P
all zero P h = h []
all (suc n) P h = λ x. all n (λ xs. P (x ∷ xs)) (λ xs. h (x ∷ xs))

-- `lit` makes a constant whose number is computed: forms that are kept uncomputed grow with the degree
module _ {R : Type 0} (S : Semiring R) (lit : R → Poly R) (lit_is : (a : R) → lit a ≡ cst a) where
  open S use {none, one, minus_one, ◌⊕◌, ◌⊗◌, minus, power, is_none, ⊕_assoc, ⊕_comm, ⊕_none, ⊗_assoc, ⊗_comm, ⊗_one, ⊗_none, ⊗_⊕, minus_is, power_zero, power_suc, is_none_sound}

  abbrev pub look : List R → ℕ → R
  look [] n = none
  look (x ∷ xs) zero = x
  look (x ∷ xs) (suc n) = look xs n

  abbrev pub eval : Exp R → (ℕ → R) → R
  eval (var i) ρ = ρ i
  eval (con c) ρ = c
  eval (a :+ b) ρ = eval a ρ ⊕ eval b ρ
  eval (a :* b) ρ = eval a ρ ⊗ eval b ρ
  eval (:- a) ρ = minus (eval a ρ)
  eval (a :^ n) ρ = power (eval a ρ) n

  -- ---- polynomials in Horner form; the value of hor p q at x₀ is p + x₀ · q
  abbrev pub make : Poly R → Poly R → Poly R
  make (hor p q) r = hor (hor p q) r
  make (cst a) (hor p q) = hor (cst a) (hor p q)
  make (cst a) (cst b) = elim (is_none b) [ true ↦ cst a | false ↦ hor (cst a) (cst b) ]

  abbrev pub add_to : R → Poly R → Poly R
  add_to a (cst b) = lit (a ⊕ b)
  add_to a (hor p q) = hor (add_to a p) q

  abbrev pub add : Poly R → Poly R → Poly R
  add (cst a) q = add_to a q
  add (hor p q) (cst b) = hor (add_to b p) q
  add (hor p q) (hor p' q') = make (add p p') (add q q')

  abbrev pub scale : R → Poly R → Poly R
  scale a (cst b) = lit (a ⊗ b)
  scale a (hor p q) = make (scale a p) (scale a q)

  abbrev pub each : (Poly R → Poly R) → Poly R → Poly R
  each f (cst b) = make (f (cst b)) (cst none)
  each f (hor p q) = make (f p) (each f q)

  abbrev pub mul : Poly R → Poly R → Poly R
  mul (cst a) r = scale a r
  mul (hor p q) r = add (each (λ s. mul p s) r) (make (cst none) (mul q r))

  abbrev pub raise : Poly R → ℕ → Poly R
  raise p zero = cst one
  raise p (suc n) = mul (raise p n) p

  abbrev pub variable : ℕ → Poly R
  variable zero = hor (cst none) (cst one)
  variable (suc n) = hor (variable n) (cst none)

  abbrev pub norm : Exp R → Poly R
  norm (var i) = variable i
  norm (con c) = cst c
  norm (a :+ b) = add (norm a) (norm b)
  norm (a :* b) = mul (norm a) (norm b)
  norm (:- a) = scale minus_one (norm a)
  norm (a :^ n) = raise (norm a) n

  abbrev pub val : Poly R → (ℕ → R) → R
  val (cst c) ρ = c
  val (hor p q) ρ = val p (λ n. ρ (suc n)) ⊕ ρ zero ⊗ val q ρ

  -- ---- each operation has the value it should
  left_comm : (a b c : R) → a ⊗ (b ⊗ c) ≡ b ⊗ (a ⊗ c)
  left_comm a b c = sym (⊗_assoc a b c) ∙ ap (λ x. x ⊗ c) (⊗_comm a b) ∙ ⊗_assoc b a c

  make_val : (p q : Poly R) (ρ : ℕ → R) → val (make p q) ρ ≡ val p (λ n. ρ (suc n)) ⊕ ρ zero ⊗ val q ρ
  make_val (hor p q) r ρ = refl
  make_val (cst a) (hor p q) ρ = refl
  make_val (cst a) (cst b) ρ = go (is_none b) refl
    where
      go : (t : Bool) → is_none b ≡ t → val (elim t [ true ↦ cst a | false ↦ hor (cst a) (cst b) ]) ρ ≡ a ⊕ ρ zero ⊗ b
      go true e = sym (ap (λ x. a ⊕ ρ zero ⊗ x) (is_none_sound b e) ∙ ap (λ x. a ⊕ x) (⊗_none (ρ zero)) ∙ ⊕_none a)
      go false e = refl

  add_to_val : (a : R) (p : Poly R) (ρ : ℕ → R) → val (add_to a p) ρ ≡ a ⊕ val p ρ
  add_to_val a (cst b) ρ = ap (λ p. val p ρ) (lit_is (a ⊕ b))
  add_to_val a (hor p q) ρ = ap (λ x. x ⊕ ρ zero ⊗ val q ρ) (add_to_val a p (λ n. ρ (suc n))) ∙ ⊕_assoc _ _ _

  add_val : (p q : Poly R) (ρ : ℕ → R) → val (add p q) ρ ≡ val p ρ ⊕ val q ρ
  add_val (cst a) q ρ = add_to_val a q ρ
  add_val (hor p q) (cst b) ρ =
      ap (λ x. x ⊕ ρ zero ⊗ val q ρ) (add_to_val b p (λ n. ρ (suc n))) ∙ ⊕_assoc _ _ _ ∙ ⊕_comm _ _
  add_val (hor p q) (hor p' q') ρ =
      make_val (add p p') (add q q') ρ
      ∙ ap₂ (λ x y. x ⊕ ρ zero ⊗ y) (add_val p p' (λ n. ρ (suc n))) (add_val q q' ρ)
      ∙ simp (⊗_⊕, ⊕_assoc, ⊕_comm)

  scale_val : (a : R) (p : Poly R) (ρ : ℕ → R) → val (scale a p) ρ ≡ a ⊗ val p ρ
  scale_val a (cst b) ρ = ap (λ p. val p ρ) (lit_is (a ⊗ b))
  scale_val a (hor p q) ρ =
      make_val (scale a p) (scale a q) ρ
      ∙ ap₂ (λ x y. x ⊕ ρ zero ⊗ y) (scale_val a p (λ n. ρ (suc n))) (scale_val a q ρ)
      ∙ simp (⊗_⊕, left_comm)

  each_val : (f : Poly R → Poly R) (v : R) (ρ : ℕ → R) → ((s : Poly R) → val (f s) (λ n. ρ (suc n)) ≡ v ⊗ val s (λ n. ρ (suc n))) → (r : Poly R) → val (each f r) ρ ≡ v ⊗ val r ρ
  each_val f v ρ h (cst b) =
      make_val (f (cst b)) (cst none) ρ ∙ ap₂ (λ x y. x ⊕ y) (h (cst b)) (⊗_none (ρ zero)) ∙ ⊕_none _
  each_val f v ρ h (hor p q) =
      make_val (f p) (each f q) ρ
      ∙ ap₂ (λ x y. x ⊕ ρ zero ⊗ y) (h p) (each_val f v ρ h q)
      ∙ simp (⊗_⊕, left_comm)

  mul_val : (p q : Poly R) (ρ : ℕ → R) → val (mul p q) ρ ≡ val p ρ ⊗ val q ρ
  mul_val (cst a) q ρ = scale_val a q ρ
  mul_val (hor p q) r ρ =
      add_val (each (λ s. mul p s) r) (make (cst none) (mul q r)) ρ
      ∙ ap₂ (λ x y. x ⊕ y)
      (each_val (λ s. mul p s) (val p (λ n. ρ (suc n))) ρ (λ s. mul_val p s (λ n. ρ (suc n))) r)
      (make_val (cst none) (mul q r) ρ ∙ ap (λ x. none ⊕ ρ zero ⊗ x) (mul_val q r ρ) ∙ ⊕_comm _ _ ∙ ⊕_none _)
      ∙ sym (⊗_comm _ _ ∙ ⊗_⊕ _ _ _ ∙ ap₂ (λ x y. x ⊕ y) (⊗_comm _ _) (⊗_comm _ _ ∙ ⊗_assoc _ _ _))

  raise_val : (p : Poly R) (n : ℕ) (ρ : ℕ → R) → val (raise p n) ρ ≡ power (val p ρ) n
  raise_val p zero ρ = sym (power_zero _)
  raise_val p (suc n) ρ = mul_val (raise p n) p ρ ∙ ap (λ x. x ⊗ val p ρ) (raise_val p n ρ) ∙ sym (power_suc _ n)

  variable_val : (i : ℕ) (ρ : ℕ → R) → val (variable i) ρ ≡ ρ i
  variable_val zero ρ = ⊕_comm _ _ ∙ ⊕_none _ ∙ ⊗_one _
  variable_val (suc i) ρ = ap₂ (λ x y. x ⊕ y) (variable_val i (λ n. ρ (suc n))) (⊗_none _) ∙ ⊕_none _

  sound : (e : Exp R) (ρ : ℕ → R) → val (norm e) ρ ≡ eval e ρ
  sound (var i) ρ = variable_val i ρ
  sound (con c) ρ = refl
  sound (a :+ b) ρ = add_val (norm a) (norm b) ρ ∙ ap₂ (λ x y. x ⊕ y) (sound a ρ) (sound b ρ)
  sound (a :* b) ρ = mul_val (norm a) (norm b) ρ ∙ ap₂ (λ x y. x ⊗ y) (sound a ρ) (sound b ρ)
  sound (:- a) ρ = scale_val minus_one (norm a) ρ ∙ ⊗_comm _ _ ∙ ap (λ x. x ⊗ minus_one) (sound a ρ) ∙ sym (minus_is _)
  sound (a :^ n) ρ = raise_val (norm a) n ρ ∙ ap (λ x. power x n) (sound a ρ)

  pub solve : (n : ℕ) (f g : Of n (Exp R) (Exp R)) → norm (at_vars n 0 f) ≡ norm (at_vars n 0 g) → All n (λ xs. eval (at_vars n 0 f) (look xs) ≡ eval (at_vars n 0 g) (look xs))
  solve n f g h =
      all n (λ xs. eval (at_vars n 0 f) (look xs) ≡ eval (at_vars n 0 g) (look xs))
      (λ xs. sym (sound (at_vars n 0 f) (look xs)) ∙ ap (λ p. val p (look xs)) h ∙ sound (at_vars n 0 g) (look xs))
