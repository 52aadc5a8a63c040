-- A rectangle of constant widths p and q and n intervals has its exact inertia l·b³/12 before rounding, with b = p+q and l = n·h, wherever the middle line lies.
--     rectangle_a, rectangle_numerator     A is 24·n·b, and the numerator 576·n²·b⁴
--     rectangle_exact                      (4·A·I − 3·M²)/(288·A), times h, is l·b³/12
--     rectangle_inertia                    so the inertia is n·b³/12, rounded up, times h
--     rectangle_beside                     the moment beside one that is rounded up once
-- Assumes nothing.
use mathlib.Core.Path.{◌≡◌, refl, sym, ap, ap₂, ◌∙◌}
use mathlib.Core.List.{List}
use Prim.Native.Nat.{ℕ, ◌+◌, ◌-◌, ◌*◌, ◌^◌, ◌≤◌}
use native.Mathlib.Nat.{mul-pos, mul-zero, mul_assoc, mul_comm, mul-le-mul, mul-le-mul_right, add-mul, le_trans}
use native.Mathlib.Omega.{arith}
use lib.IntN.{ℤ, pos, nat_abs, ◌+ℤ◌, ◌-ℤ◌, ◌*ℤ◌, pow}
use lib.ListN.{length, get_or, replicate, length-replicate, get_or-replicate}
use Rattle.arithmetic.specs.Rounding.{rounded_up}
use Rattle.arithmetic.proofs.Integer.{solve_ℤ, *ℤ_pos_one}
use Rattle.arithmetic.proofs.Polynomial.{con, ◌:+◌, ◌:*◌, :-◌, ◌:^◌}
use Rattle.arithmetic.proofs.Ring.{ring}
use Rattle.arithmetic.proofs.Rounding.{up_scaled, up_by_none, up_of, up_zero, up_least}
use Rattle.arithmetic.proofs.Tests.{same_or_other}
use Rattle.arithmetic.proofs.Whole.{pos_pow}
use Rattle.ranges.specs.Fields.{range_of, most}
use Rattle.simpson.specs.Curve.{curve, curve_ℤ}
use Rattle.simpson.proofs.Curves.{curve_same, curve_times, curve_ℤ_same, curve_ℤ_times, pos_curve}
use Rattle.simpson.proofs.Moments.{curve_of_one}
use Rattle.hoppers.specs.Surface.{moment_unit, A, M, I, numerator, inertia, moment}
use Rattle.hoppers.proofs.Inertia.{inertia_is}

module _ (n : ℕ) (enough : 2 ≤ n) where
  -- a curve that is constant
  constant : (y : ℕ → ℕ) (c : ℕ) → ((i : ℕ) → i ≤ n → y i ≡ c) → curve n y ≡ c * (24 * n)
  constant y c is =
      curve_same n y (λ i. c * 1) (λ i l. is i l ∙ omega arith) ∙ curve_times n c (λ i. 1) ∙ ap (λ s. c * s) (curve_of_one n enough)

  constant_ℤ : (y : ℕ → ℤ) (c : ℤ) → ((i : ℕ) → i ≤ n → y i ≡ c) → curve_ℤ n y ≡ c *ℤ pos (24 * n)
  constant_ℤ y c is =
      curve_ℤ_same n y (λ i. c *ℤ pos 1) (λ i l. is i l ∙ sym (*ℤ_pos_one c))
      ∙ curve_ℤ_times n c (λ i. pos 1)
      ∙ ap (λ s. c *ℤ s) (sym (pos_curve n (λ i. 1)) ∙ ap pos (curve_of_one n enough))

  module _ (p q : ℕ) where
    abbrev port : List ℕ
    port = replicate (n + 1) p

    abbrev starboard : List ℕ
    starboard = replicate (n + 1) q

    abbrev b : ℕ
    b = p + q

    count_is : length port - 1 ≡ n
    count_is = omega (arith, length-replicate (n + 1) p)

    p_is : (i : ℕ) → i ≤ n → get_or port i 0 ≡ p
    p_is i l = get_or-replicate (n + 1) i p 0 (omega arith)

    q_is : (i : ℕ) → i ≤ n → get_or starboard i 0 ≡ q
    q_is i l = get_or-replicate (n + 1) i q 0 (omega arith)

    pub rectangle_a : A (replicate (n + 1) p) (replicate (n + 1) q) ≡ (p + q) * (24 * n)
    unfolding A
    rectangle_a =
        ap (λ n. curve n (λ i. get_or port i 0 + get_or starboard i 0)) count_is
        ∙ constant (λ i. get_or port i 0 + get_or starboard i 0) b (λ i l. ap₂ ◌+◌ (p_is i l) (q_is i l))

    rectangle_i : I port starboard ≡ (p ^ 3 + q ^ 3) * (24 * n)
    unfolding I
    rectangle_i =
        ap (λ n. curve n (λ i. get_or port i 0 ^ 3 + get_or starboard i 0 ^ 3)) count_is
        ∙ constant (λ i. get_or port i 0 ^ 3 + get_or starboard i 0 ^ 3) (p ^ 3 + q ^ 3) (λ i l. ap₂ (λ p q. p ^ 3 + q ^ 3) (p_is i l) (q_is i l))

    rectangle_m : M port starboard ≡ (pos (q ^ 2) -ℤ pos (p ^ 2)) *ℤ pos (24 * n)
    unfolding M
    rectangle_m =
        ap (λ n. curve_ℤ n (λ i. pos (get_or starboard i 0 ^ 2) -ℤ pos (get_or port i 0 ^ 2))) count_is
        ∙ constant_ℤ (λ i. pos (get_or starboard i 0 ^ 2) -ℤ pos (get_or port i 0 ^ 2)) (pos (q ^ 2) -ℤ pos (p ^ 2)) (λ i l. ap₂ (λ p q. pos (q ^ 2) -ℤ pos (p ^ 2)) (p_is i l) (q_is i l))

    pub rectangle_numerator : numerator (replicate (n + 1) p) (replicate (n + 1) q) ≡ pos (576 * n ^ 2 * (p + q) ^ 4)
    unfolding numerator
    rectangle_numerator =
        ap₂ (λ a i. pos 4 *ℤ pos a *ℤ pos i -ℤ pos 3 *ℤ pow (M port starboard) 2) rectangle_a rectangle_i
        ∙ ap (λ m. pos 4 *ℤ pos (b * (24 * n)) *ℤ pos ((p ^ 3 + q ^ 3) * (24 * n)) -ℤ pos 3 *ℤ pow m 2) rectangle_m
        ∙ ap₂ (λ s t. pos 4 *ℤ pos (b * (24 * n)) *ℤ ((s +ℤ t) *ℤ pos (24 * n)) -ℤ pos 3 *ℤ pow ((pos (q ^ 2) -ℤ pos (p ^ 2)) *ℤ pos (24 * n)) 2) (pos_pow p 3) (pos_pow q 3)
        ∙ ap₂ (λ s t. pos 4 *ℤ pos (b * (24 * n)) *ℤ ((pow (pos p) 3 +ℤ pow (pos q) 3) *ℤ pos (24 * n)) -ℤ pos 3 *ℤ pow ((s -ℤ t) *ℤ pos (24 * n)) 2) (pos_pow q 2) (pos_pow p 2)
        ∙ solve_ℤ 3
        (λ n p q. con (pos 4) :* ((p :+ q) :* (con (pos 24) :* n)) :* ((p :^ 3 :+ q :^ 3) :* (con (pos 24) :* n)) :+ :- (con (pos 3) :* ((q :^ 2 :+ :- (p :^ 2)) :* (con (pos 24) :* n)) :^ 2))
        (λ n p q. con (pos 576) :* n :^ 2 :* (p :+ q) :^ 4) refl (pos n) (pos p) (pos q)
        ∙ sym (ap₂ (λ s t. pos 576 *ℤ s *ℤ t) (pos_pow n 2) (pos_pow b 4))

    -- both sides of (numerator / 288·A) · h = l·b³ / 12, multiplied out
    pub rectangle_exact : (h : ℕ) → numerator (replicate (n + 1) p) (replicate (n + 1) q) *ℤ pos (12 * h) ≡ pos (n * h * (p + q) ^ 3 * (288 * A (replicate (n + 1) p) (replicate (n + 1) q)))
    rectangle_exact h =
        ap (λ s. s *ℤ pos (12 * h)) rectangle_numerator
        ∙ ap₂ (λ s t. pos 576 *ℤ s *ℤ t *ℤ (pos 12 *ℤ pos h)) (pos_pow n 2) (pos_pow b 4)
        ∙ solve_ℤ 3 (λ n h b. con (pos 576) :* n :^ 2 :* b :^ 4 :* (con (pos 12) :* h)) (λ n h b. n :* h :* b :^ 3 :* (con (pos 288) :* (b :* (con (pos 24) :* n)))) refl (pos n) (pos h) (pos b)
        ∙ sym (ap (λ s. pos n *ℤ pos h *ℤ s *ℤ (pos 288 *ℤ (pos b *ℤ (pos 24 *ℤ pos n)))) (pos_pow b 3))
        ∙ sym (ap (λ a. pos (n * h * b ^ 3 * (288 * a))) rectangle_a)

    -- numerator and divisor have the factor 576·n·b, which is 0 only of a surface without breadth
    top : nat_abs (numerator port starboard) ≡ 576 * (n * b) * (n * b ^ 3)
    top = ap nat_abs rectangle_numerator ∙ simp ring (omega arith)

    bottom : 288 * A port starboard ≡ 576 * (n * b) * 12
    bottom = ap (λ a. 288 * a) rectangle_a ∙ simp ring (omega arith)

    rounded : rounded_up (nat_abs (numerator port starboard)) (288 * A port starboard) ≡ rounded_up (n * b ^ 3) 12
    rounded =
        same_or_other b 0
        (λ none.
        let no-divisor : 288 * A port starboard ≡ 0 = bottom ∙ omega (arith, ap (λ b. n * b) none, mul-zero n) in
        let no-breadth : n * b ^ 3 ≡ 0 = ap (λ b. n * b ^ 3) none ∙ mul-zero n in
        ap (λ k. rounded_up (nat_abs (numerator port starboard)) k) no-divisor
        ∙ up_by_none (nat_abs (numerator port starboard))
        ∙ sym (ap (λ k. rounded_up k 12) no-breadth ∙ up_zero (up_of 0 12 (omega arith))))
        (λ some. ap₂ rounded_up top bottom ∙ up_scaled (576 * (n * b)) (n * b ^ 3) 12 (mul-pos (omega arith) (mul-pos (omega (arith, enough)) (omega (arith, some)))) (omega arith))

    pub rectangle_inertia : (h : ℕ) → inertia (replicate (n + 1) p) (replicate (n + 1) q) h ≡ rounded_up (n * (p + q) ^ 3) 12 * h
    rectangle_inertia h = sym (inertia_is port starboard h) ∙ ap (λ r. r * h) rounded

    -- beside l·b³·density/12,000,000,000 rounded up once, as a condition has it: never less, and at most 1 more
    pub rectangle_beside :
        (h density : ℕ) → h ≤ most (range_of 26) → density ≤ most (range_of 17)
        → let once = rounded_up (n * h * (p + q) ^ 3 * density) (12 * moment_unit) in
        (once ≤ moment (replicate (n + 1) p) (replicate (n + 1) q) h density) × (moment (replicate (n + 1) p) (replicate (n + 1) q) h density ≤ once + 1)
    unfolding moment
    rectangle_beside h density short light =
        let c = n * b ^ 3 in
        let r = rounded_up c 12 in
        let k = h * density in
        let once = rounded_up (n * h * b ^ 3 * density) (12 * moment_unit) in
        let twice = rounded_up (inertia port starboard h * density) moment_unit in
        let rounded-c = up_of c 12 (omega arith) in
        let first = up_of (n * h * b ^ 3 * density) (12 * moment_unit) (omega arith) in
        let second = up_of (inertia port starboard h * density) moment_unit (omega arith) in
        let y_is : n * h * b ^ 3 * density ≡ c * k = simp (mul_assoc, mul_comm) in
        let x_is : inertia port starboard h * density ≡ r * k = ap (λ i. i * density) (rectangle_inertia h) ∙ mul_assoc r h density in
        let twelve : r * 12 * k ≡ 12 * (r * k) = ap (λ m. m * k) (mul_comm r 12) ∙ mul_assoc 12 r k in
        let low = mul-le-mul_right k rounded-c.low in
        let whole : r * 12 ≤ c + 11 = omega (arith, rounded-c.high) in
        let high : r * 12 * k ≤ c * k + 11 * k = le_trans (mul-le-mul_right k whole) (omega (arith, add-mul c 11 k)) in
        let most-k : k ≤ most (range_of 26) * most (range_of 17) = mul-le-mul short light in (
          (up_least first twice).1 (omega (arith, y_is, x_is, twelve, low, second.low)),
          (up_least second (once + 1)).1 (omega (arith, y_is, x_is, twelve, high, most-k, first.low)),
        )
