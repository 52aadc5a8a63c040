-- A number's decimal digits, as they are printed.
--     decimal_of_digit, decimal_of_more           its equations: below ten one digit; else the digits of its tenth, and the last
--     decimal_induction                           what holds of one digit, and still with one digit more, holds of every number and its digits
--     all_of_decimal, value_of_decimal            they are digits, and their value is the number
--     some_of_decimal, length_of_decimal          at least one, and at most k where the number is below 10 ^ k
--     below_of_decimal, length_of_decimal_mono    a number of k digits is below 10 ^ k; a smaller number has no more digits
--     first_of_decimal                            a number above 0 does not begin with the digit 0
--     decimal_is_digits                           they are the digits that `io::decimal` writes
-- Assumes nothing.
use Prim.Native.Nat.{ℕ, zero, suc, ◌+◌, ◌-◌, ◌*◌, ◌/◌, ◌%◌, ◌^◌, ◌≤◌, ◌<◌}
use mathlib.Core.Bool.{true}
use mathlib.Core.Path.{◌≡◌, refl, sym, ap, subst, ◌∙◌}
use mathlib.Core.List.{List, [], ◌∷◌, ◌++◌}
use mathlib.Core.Logic.{⊎_elim}
use native.Mathlib.Nat.{pow-suc, one-le-pow}
use native.Mathlib.Omega.{arith}
use borrow.Author.Tests.{lt-ltb, le-ltb}
use lib.ListN.{length, get_or, length-append, get_or-append}
use Rattle.arithmetic.proofs.Choice.{chosen}
use Rattle.io.specs.Digits.{hex_digit_ascii, last_digits, IsDigitCount}
use Rattle.numerals.specs.Number.{zero_digit, all_digits, value}
use Rattle.numerals.specs.Printed.{decimal_in, decimal}
use Rattle.arithmetic.proofs.Tests.{less_or_not}
use Rattle.numerals.proofs.Wholes.{all_of_digit, all_of_append, value_of_digit, value_step}

-- ---- its equations: fuel above n never matters
in_of_digit : (fuel n : ℕ) → n < 10 → decimal_in fuel n ≡ (zero_digit + n) ∷ []
unfolding decimal_in
in_of_digit zero n h = refl
in_of_digit (suc fuel) n h = simp (lt-ltb _ _ h, chosen)

in_of_more : (fuel n : ℕ) → 10 ≤ n → decimal_in (suc fuel) n ≡ decimal_in fuel (n / 10) ++ (zero_digit + n % 10) ∷ []
unfolding decimal_in
in_of_more fuel n h = simp (le-ltb _ _ h, chosen)

fuel_spared : (f g n : ℕ) → n ≤ f → n ≤ g → decimal_in f n ≡ decimal_in g n
fuel_spared zero g n h k = in_of_digit zero n (omega arith) ∙ sym (in_of_digit g n (omega arith))
fuel_spared (suc f) zero n h k = in_of_digit (suc f) n (omega arith) ∙ sym (in_of_digit zero n (omega arith))
fuel_spared (suc f) (suc g) n h k =
    ⊎_elim
    (λ few. in_of_digit (suc f) n few ∙ sym (in_of_digit (suc g) n few))
    (λ more. in_of_more f n more ∙ ap (λ l. l ++ (zero_digit + n % 10) ∷ []) (fuel_spared f g (n / 10) (omega arith) (omega arith)) ∙ sym (in_of_more g n more))
    (less_or_not n 10)

pub decimal_of_digit : (n : ℕ) → n < 10 → decimal n ≡ (zero_digit + n) ∷ []
unfolding decimal
decimal_of_digit n h = in_of_digit n n h

pub decimal_of_more : (n : ℕ) → 10 ≤ n → decimal n ≡ decimal (n / 10) ++ (zero_digit + n % 10) ∷ []
unfolding decimal
decimal_of_more n h =
    fuel_spared n (suc n) n (omega arith) (omega arith) ∙ in_of_more n n h
    ∙ ap (λ l. l ++ (zero_digit + n % 10) ∷ []) (fuel_spared n (n / 10) (n / 10) (omega arith) (omega arith))

-- ---- induction
module _
    (P : ℕ → List ℕ → Type 0)
    (one : (d : ℕ) → d < 10 → P d ((zero_digit + d) ∷ []))
    (more : (n d : ℕ) (l : List ℕ) → 0 < n → d < 10 → P n l → P (n * 10 + d) (l ++ (zero_digit + d) ∷ []))
  where
    step : (n : ℕ) → 10 ≤ n → P (n / 10) (decimal (n / 10)) → P n (decimal n)
    step n many tenth =
        let parts : n / 10 * 10 + n % 10 ≡ n = omega arith in
        let some : 0 < n / 10 = omega arith in
        let small : n % 10 < 10 = omega arith in
        rw (decimal_of_more n many) (subst (λ k. P k (decimal (n / 10) ++ (zero_digit + n % 10) ∷ [])) parts (more _ _ _ some small tenth))

    below : (most n : ℕ) → n ≤ most → P n (decimal n)
    below zero n h = rw (decimal_of_digit n (omega arith)) (one n (omega arith))
    below (suc most) n h =
        ⊎_elim
        (λ few. rw (decimal_of_digit n few) (one n few))
        (λ many. step n many (below most (n / 10) (omega arith)))
        (less_or_not n 10)

    pub decimal_induction : (n : ℕ) → P n (decimal n)
    decimal_induction n = below n n (omega arith)

-- ---- what its digits are
pub all_of_decimal : (n : ℕ) → all_digits (decimal n) ≡ true
all_of_decimal =
    decimal_induction (λ n l. all_digits l ≡ true) all_of_digit
    (λ n d l some small e. all_of_append l ((zero_digit + d) ∷ []) e (all_of_digit d small))

pub value_of_decimal : (n : ℕ) → value (decimal n) ≡ n
value_of_decimal =
    decimal_induction (λ n l. value l ≡ n) (λ d small. value_of_digit 0 d ∙ omega arith)
    (λ n d l some small e. value_step 0 d l ∙ ap (λ k. k * 10 + d) e)

pub some_of_decimal : (n : ℕ) → 1 ≤ length (decimal n)
some_of_decimal =
    decimal_induction (λ n l. 1 ≤ length l) (λ d small. omega arith)
    (λ n d l some small e. omega (arith, length-append l ((zero_digit + d) ∷ [])))

pub length_of_decimal : (n k : ℕ) → 1 ≤ k → n < 10 ^ k → length (decimal n) ≤ k
length_of_decimal =
    decimal_induction (λ n l. (k : ℕ) → 1 ≤ k → n < 10 ^ k → length l ≤ k) (λ d small k some fits. some)
    (λ n d l some small short. one_more n d l some short)
  where
    one_more : (n d : ℕ) (l : List ℕ) → 0 < n → ((k : ℕ) → 1 ≤ k → n < 10 ^ k → length l ≤ k) → (k : ℕ) → 1 ≤ k → n * 10 + d < 10 ^ k → length (l ++ (zero_digit + d) ∷ []) ≤ k
    one_more n d l some short zero h fits = absurd (omega arith)
    one_more n d l some short (suc zero) h fits = absurd (omega arith)
    one_more n d l some short (suc (suc k)) h fits =
        omega (arith, length-append l ((zero_digit + d) ∷ []), short (suc k) (omega arith) (omega (arith, pow-suc 10 (suc k))))

pub below_of_decimal : (n : ℕ) → n < 10 ^ length (decimal n)
below_of_decimal =
    decimal_induction (λ n l. n < 10 ^ length l) (λ d small. omega (arith, pow-suc 10 0))
    (λ n d l some small e.
    let more : length (l ++ (zero_digit + d) ∷ []) ≡ suc (length l) = length-append l ((zero_digit + d) ∷ []) ∙ omega arith in
    rw more (omega (arith, pow-suc 10 (length l))))

pub length_of_decimal_mono : {m n : ℕ} → m ≤ n → length (decimal m) ≤ length (decimal n)
length_of_decimal_mono {m} {n} h = length_of_decimal m (length (decimal n)) (some_of_decimal n) (omega (arith, below_of_decimal n))

-- a number above 0 begins with another digit, and so does that number with more digits after it
pub first_of_decimal : (n : ℕ) → 0 < n → get_or (decimal n) 0 0 ≡ zero_digit → ⊥
first_of_decimal n =
    (decimal_induction (λ n l. (1 ≤ length l) × (0 < n → get_or l 0 0 ≡ zero_digit → ⊥))
    (λ d small. (omega arith, λ some e. omega arith))
    (λ n d l some small e.
    let r = (zero_digit + d) ∷ [] in
    (omega (arith, length-append l r), λ more z. e.1 some (sym (get_or-append l r 0 0 e.0) ∙ z)))
    n).1

-- ---- the digits of `io`
glyph_is : (d : ℕ) → d < 10 → hex_digit_ascii d ≡ zero_digit + d
glyph_is d h = rw (lt-ltb d 10 h)

pub decimal_is_digits : (n k : ℕ) → IsDigitCount 10 1 n k → last_digits 10 k n ≡ decimal n
decimal_is_digits n zero h = absurd (omega arith)
decimal_is_digits n (suc zero) h =
    let few : n < 10 = omega arith in
    let last : n % 10 ≡ n = omega arith in
    rw (last, glyph_is n few) (sym (decimal_of_digit n few))
decimal_is_digits n (suc (suc k)) h =
    let low : 10 ^ suc k ≤ n = subst (λ j. 10 ^ j ≤ n) (omega arith) (h.2 (omega arith)) in
    let many : 10 ≤ n = omega (arith, pow-suc 10 k, one-le-pow k 10 (omega arith)) in
    let tenth_low : 10 ^ k ≤ n / 10 = omega (arith, pow-suc 10 k) in
    let tenth_high : n / 10 < 10 ^ suc k = omega (arith, pow-suc 10 (suc k)) in
    let less : k ≡ suc k - 1 = omega arith in
    let tenth = decimal_is_digits (n / 10) (suc k) (omega arith, tenth_high, λ more. subst (λ j. 10 ^ j ≤ n / 10) less tenth_low) in
    ap (λ l. l ++ hex_digit_ascii (n % 10) ∷ []) tenth ∙ ap (λ b. decimal (n / 10) ++ b ∷ []) (glyph_is (n % 10) (omega arith))
    ∙ sym (decimal_of_more n many)
