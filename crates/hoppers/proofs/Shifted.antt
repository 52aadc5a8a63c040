-- The middle line moved by one width k: k added to every p and taken from every q. A stays, M is less by 2k·A, and I by 3k·M − 3k²·A, so that the numerator stays, and with it inertia and moment.
--     numerator_shifted                    the numerator
--     inertia_shifted, moment_shifted      the two values
-- Assumes nothing.
use mathlib.Core.Path.{◌≡◌, refl, sym, ap, ap₂, ◌∙◌}
use mathlib.Core.List.{List, [], ◌∷◌, map}
use Prim.Native.Nat.{ℕ, zero, suc, ◌+◌, ◌-◌, ◌*◌, ◌^◌, ◌≤◌, ◌<◌}
use native.Mathlib.Omega.{arith}
use lib.IntN.{ℤ, pos, neg_ℤ, nat_abs, ◌+ℤ◌, ◌-ℤ◌, ◌*ℤ◌, pow}
use lib.ListN.{length, get_or, length-map}
use Rattle.arithmetic.specs.Rounding.{rounded_up}
use Rattle.arithmetic.proofs.Integer.{solve_ℤ}
use Rattle.arithmetic.proofs.Polynomial.{con, ◌:+◌, ◌:*◌, :-◌, ◌:^◌}
use Rattle.arithmetic.proofs.Whole.{pos_pow}
use Rattle.simpson.specs.Curve.{curve, curve_ℤ}
use Rattle.simpson.proofs.Curves.{curve_same, curve_ℤ_same, curve_ℤ_plus, curve_ℤ_times, pos_curve}
use Rattle.hoppers.specs.Surface.{moment_unit, A, M, I, numerator, inertia, moment}
use Rattle.hoppers.proofs.Inertia.{inertia_is}

-- ---- one ordinate: p and q' + k before, p + k and q' after
module _ (p q' k : ℕ) where
  squares_shifted : pos (q' ^ 2) -ℤ pos ((p + k) ^ 2) ≡ (pos ((q' + k) ^ 2) -ℤ pos (p ^ 2)) +ℤ neg_ℤ (pos 2 *ℤ pos k) *ℤ pos (p + (q' + k))
  squares_shifted =
      ap₂ ◌-ℤ◌ (pos_pow q' 2) (pos_pow (p + k) 2)
      ∙ solve_ℤ 3 (λ p q k. q :^ 2 :+ :- ((p :+ k) :^ 2)) (λ p q k. (q :+ k) :^ 2 :+ :- (p :^ 2) :+ :- (con (pos 2) :* k) :* (p :+ (q :+ k))) refl (pos p) (pos q') (pos k)
      ∙ sym (ap₂ (λ s t. (s -ℤ t) +ℤ neg_ℤ (pos 2 *ℤ pos k) *ℤ pos (p + (q' + k))) (pos_pow (q' + k) 2) (pos_pow p 2))

  cubes_shifted : pos ((p + k) ^ 3 + q' ^ 3) ≡ pos (p ^ 3 + (q' + k) ^ 3) +ℤ (neg_ℤ (pos 3 *ℤ pos k) *ℤ (pos ((q' + k) ^ 2) -ℤ pos (p ^ 2)) +ℤ pos 3 *ℤ pow (pos k) 2 *ℤ pos (p + (q' + k)))
  cubes_shifted =
      ap₂ ◌+ℤ◌ (pos_pow (p + k) 3) (pos_pow q' 3)
      ∙ solve_ℤ 3 (λ p q k. (p :+ k) :^ 3 :+ q :^ 3)
      (λ p q k. p :^ 3 :+ (q :+ k) :^ 3 :+ (:- (con (pos 3) :* k) :* ((q :+ k) :^ 2 :+ :- (p :^ 2)) :+ con (pos 3) :* k :^ 2 :* (p :+ (q :+ k)))) refl (pos p) (pos q') (pos k)
      ∙ sym (ap₂ (λ s t. s +ℤ t +ℤ (neg_ℤ (pos 3 *ℤ pos k) *ℤ (pos ((q' + k) ^ 2) -ℤ pos (p ^ 2)) +ℤ pos 3 *ℤ pow (pos k) 2 *ℤ pos (p + (q' + k)))) (pos_pow p 3) (pos_pow (q' + k) 3)
      ∙ ap₂ (λ s t. pow (pos p) 3 +ℤ pow (pos (q' + k)) 3 +ℤ (neg_ℤ (pos 3 *ℤ pos k) *ℤ (s -ℤ t) +ℤ pos 3 *ℤ pow (pos k) 2 *ℤ pos (p + (q' + k)))) (pos_pow (q' + k) 2) (pos_pow p 2))

-- a number added to every number of a table
added_at : (k : ℕ) (table : List ℕ) (i : ℕ) → i < length table → get_or (map (λ w. w + k) table) i 0 ≡ get_or table i 0 + k
added_at k [] i h = absurd (omega arith)
added_at k (w ∷ rest) zero h = refl
added_at k (w ∷ rest) (suc i) h = added_at k rest i (omega arith)

-- ---- over the surface: `port` and `starboard`, and with the middle line moved `port'` and `starboard'`
module _
    (k : ℕ) (port starboard' : List ℕ) (as_many : length port ≡ length starboard') (some : 0 < length port)
    {port' starboard : List ℕ} (to_port : port' ≡ map (λ p. p + k) port) (to_starboard : starboard ≡ map (λ q. q + k) starboard')
  where
    abbrev n : ℕ
    n = length port - 1

    abbrev p : ℕ → ℕ
    p i = get_or port i 0

    abbrev q' : ℕ → ℕ
    q' i = get_or starboard' i 0

    count_is : length port' - 1 ≡ n
    count_is = ap (λ table. length table - 1) to_port ∙ ap (λ m. m - 1) (length-map port (λ p. p + k))

    p'_is : (i : ℕ) → i ≤ n → get_or port' i 0 ≡ p i + k
    p'_is i l = ap (λ table. get_or table i 0) to_port ∙ added_at k port i (omega arith)

    q_is : (i : ℕ) → i ≤ n → get_or starboard i 0 ≡ q' i + k
    q_is i l = ap (λ table. get_or table i 0) to_starboard ∙ added_at k starboard' i (omega arith)

    -- the three sums before and after, by p and q'
    A_before : A port starboard ≡ curve n (λ i. p i + (q' i + k))
    unfolding A
    A_before = curve_same n _ _ (λ i l. ap (λ q. p i + q) (q_is i l))

    A_after : A port' starboard' ≡ A port starboard
    unfolding A
    A_after =
        ap (λ n. curve n (λ i. get_or port' i 0 + q' i)) count_is
        ∙ curve_same n _ _ (λ i l. omega (arith, p'_is i l))
        ∙ sym A_before

    abbrev m : ℕ → ℤ
    m i = pos ((q' i + k) ^ 2) -ℤ pos (p i ^ 2)

    abbrev a : ℕ → ℤ
    a i = pos (p i + (q' i + k))

    A_whole : pos (A port starboard) ≡ curve_ℤ n a
    A_whole = ap pos A_before ∙ pos_curve n _

    M_before : M port starboard ≡ curve_ℤ n m
    unfolding M
    M_before = curve_ℤ_same n _ _ (λ i l. ap (λ q. pos (q ^ 2) -ℤ pos (p i ^ 2)) (q_is i l))

    M_after : M port' starboard' ≡ M port starboard +ℤ neg_ℤ (pos 2 *ℤ pos k) *ℤ pos (A port starboard)
    unfolding M
    M_after =
        ap (λ n. curve_ℤ n (λ i. pos (q' i ^ 2) -ℤ pos (get_or port' i 0 ^ 2))) count_is
        ∙ curve_ℤ_same n _ (λ i. m i +ℤ neg_ℤ (pos 2 *ℤ pos k) *ℤ a i)
        (λ i l. ap (λ p. pos (q' i ^ 2) -ℤ pos (p ^ 2)) (p'_is i l) ∙ squares_shifted (p i) (q' i) k)
        ∙ curve_ℤ_plus n m (λ i. neg_ℤ (pos 2 *ℤ pos k) *ℤ a i)
        ∙ ap (λ s. curve_ℤ n m +ℤ s) (curve_ℤ_times n (neg_ℤ (pos 2 *ℤ pos k)) a)
        ∙ sym (ap₂ (λ s t. s +ℤ neg_ℤ (pos 2 *ℤ pos k) *ℤ t) M_before A_whole)

    I_before : pos (I port starboard) ≡ curve_ℤ n (λ i. pos (p i ^ 3 + (q' i + k) ^ 3))
    unfolding I
    I_before = ap pos (curve_same n _ _ (λ i l. ap (λ q. p i ^ 3 + q ^ 3) (q_is i l))) ∙ pos_curve n _

    I_after : pos (I port' starboard') ≡ pos (I port starboard) +ℤ (neg_ℤ (pos 3 *ℤ pos k) *ℤ M port starboard +ℤ pos 3 *ℤ pow (pos k) 2 *ℤ pos (A port starboard))
    unfolding I
    I_after =
        ap (λ n. pos (curve n (λ i. get_or port' i 0 ^ 3 + q' i ^ 3))) count_is
        ∙ ap pos (curve_same n _ (λ i. (p i + k) ^ 3 + q' i ^ 3) (λ i l. ap (λ p. p ^ 3 + q' i ^ 3) (p'_is i l)))
        ∙ pos_curve n _
        ∙ curve_ℤ_same n _ _ (λ i l. cubes_shifted (p i) (q' i) k)
        ∙ curve_ℤ_plus n (λ i. pos (p i ^ 3 + (q' i + k) ^ 3)) (λ i. neg_ℤ (pos 3 *ℤ pos k) *ℤ m i +ℤ pos 3 *ℤ pow (pos k) 2 *ℤ a i)
        ∙ ap₂ ◌+ℤ◌ (sym I_before)
        (curve_ℤ_plus n (λ i. neg_ℤ (pos 3 *ℤ pos k) *ℤ m i) (λ i. pos 3 *ℤ pow (pos k) 2 *ℤ a i)
        ∙ ap₂ ◌+ℤ◌
        (curve_ℤ_times n (neg_ℤ (pos 3 *ℤ pos k)) m ∙ ap (λ s. neg_ℤ (pos 3 *ℤ pos k) *ℤ s) (sym M_before))
        (curve_ℤ_times n (pos 3 *ℤ pow (pos k) 2) a ∙ ap (λ s. pos 3 *ℤ pow (pos k) 2 *ℤ s) (sym A_whole)))

    pub numerator_shifted : numerator port' starboard' ≡ numerator port starboard
    unfolding numerator
    numerator_shifted =
        ap (λ a. pos 4 *ℤ pos a *ℤ pos (I port' starboard') -ℤ pos 3 *ℤ pow (M port' starboard') 2) A_after
        ∙ ap₂ (λ i m. pos 4 *ℤ pos (A port starboard) *ℤ i -ℤ pos 3 *ℤ pow m 2) I_after M_after
        ∙ solve_ℤ 4 (λ A M I k. con (pos 4) :* A :* (I :+ (:- (con (pos 3) :* k) :* M :+ con (pos 3) :* k :^ 2 :* A)) :+ :- (con (pos 3) :* (M :+ :- (con (pos 2) :* k) :* A) :^ 2))
        (λ A M I k. con (pos 4) :* A :* I :+ :- (con (pos 3) :* M :^ 2)) refl
        (pos (A port starboard)) (M port starboard) (pos (I port starboard)) (pos k)

    pub inertia_shifted : (h : ℕ) → inertia port' starboard' h ≡ inertia port starboard h
    inertia_shifted h =
        sym (inertia_is port' starboard' h)
        ∙ ap₂ (λ top a. rounded_up (nat_abs top) (288 * a) * h) numerator_shifted A_after
        ∙ inertia_is port starboard h

    pub moment_shifted : (h density : ℕ) → moment port' starboard' h density ≡ moment port starboard h density
    unfolding moment
    moment_shifted h density = ap (λ i. rounded_up (i * density) moment_unit) (inertia_shifted h)
