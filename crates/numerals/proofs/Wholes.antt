-- Digits in a list, the number that they make, and whether it is whole.
--     digit_range, digit_is               a digit is a byte from 48 to 57
--     digit_in, no_digit                  a byte in that range is one, and any other is none
--     all_of_digit, all_of_append         one digit; digits after digits
--     every_digit, first_not_minus        what holds of a digit holds of each of them; so none is taken for a minus
--     value_of_digit, value_of_append     the value goes on where it stood
--     value_step                          one digit more
--     value_lt                            k digits make a number below 10 ^ k
--     Whole, whole_is, is_whole_of           the parts of a whole number, from the test and back
--     whole_by_count                      the test, by the count of digits
-- Assumes nothing.
use Prim.Native.Nat.{ℕ, zero, suc, ◌+◌, ◌-◌, ◌*◌, ◌^◌, ◌≤◌, ◌<◌}
use mathlib.Core.Bool.{true, false}
use mathlib.Core.Path.{◌≡◌, refl, ◌∙◌}
use mathlib.Core.List.{List, [], ◌∷◌, ◌++◌}
use native.Mathlib.Nat.{pow-succ', pow-zero, mul-le-mul_right, mul_assoc, lt_of_lt_of_le}
use native.Mathlib.Omega.{arith}
use borrow.Author.Tests.{le-leb, leb-true}
use lib.Dec.{leb}
use lib.ListN.{length, get_or}
use Rattle.numerals.specs.Number.{minus, zero_digit, is_digit, all_digits, value_from, value, most_digits, is_digit_count, is_whole}
use Rattle.arithmetic.proofs.Tests.{both, by_test}

pub digit_range : (b : ℕ) → is_digit b ≡ true → (zero_digit ≤ b) × (b ≤ zero_digit + 9)
unfolding is_digit
digit_range b e =
    let t = both (leb zero_digit b) (leb b (zero_digit + 9)) e in (leb-true zero_digit b t.0, leb-true b (zero_digit + 9) t.1)

pub digit_in : (b : ℕ) → zero_digit ≤ b → b ≤ zero_digit + 9 → is_digit b ≡ true
unfolding is_digit
digit_in b low high = rw (le-leb _ _ low, le-leb _ _ high)

pub no_digit : (b : ℕ) → (zero_digit ≤ b → b ≤ zero_digit + 9 → ⊥) → is_digit b ≡ false
no_digit b h = by_test (is_digit b) (λ t. let r = digit_range b t in absurd (h r.0 r.1)) (λ e. e)

pub digit_is : (d : ℕ) → d < 10 → is_digit (zero_digit + d) ≡ true
unfolding is_digit
digit_is d h =
    let low : zero_digit ≤ zero_digit + d = omega arith in
    let high : zero_digit + d ≤ zero_digit + 9 = omega arith in
    rw (le-leb _ _ low, le-leb _ _ high)

pub all_of_digit : (d : ℕ) → d < 10 → all_digits ((zero_digit + d) ∷ []) ≡ true
unfolding all_digits
all_of_digit d h = rw (digit_is d h)

pub all_of_append : (l m : List ℕ) → all_digits l ≡ true → all_digits m ≡ true → all_digits (l ++ m) ≡ true
unfolding all_digits
all_of_append [] m e f = f
all_of_append (b ∷ l) m e f =
    let t = both (is_digit b) (all_digits l) e in rw t.0 (all_of_append l m t.1 f)

pub every_digit : (P : ℕ → Type 0) → ((b : ℕ) → is_digit b ≡ true → P b) → (l : List ℕ) → all_digits l ≡ true → (k : ℕ) → k < length l → P (get_or l k 0)
unfolding all_digits
every_digit P h [] e k m = absurd (omega arith)
every_digit P h (b ∷ l) e zero m = h b (both (is_digit b) (all_digits l) e).0
every_digit P h (b ∷ l) e (suc k) m = every_digit P h l (both (is_digit b) (all_digits l) e).1 k (omega arith)

pub first_not_minus : (l : List ℕ) → all_digits l ≡ true → get_or l 0 0 ≡ minus → ⊥
unfolding all_digits
first_not_minus [] e m = omega arith
first_not_minus (b ∷ l) e m = omega (arith, digit_range b (both (is_digit b) (all_digits l) e).0)

pub value_of_digit : (n d : ℕ) → value_from n ((zero_digit + d) ∷ []) ≡ n * 10 + d
unfolding value_from
value_of_digit n d = omega arith

pub value_of_append : (n : ℕ) (l m : List ℕ) → value_from n (l ++ m) ≡ value_from (value_from n l) m
unfolding value_from
value_of_append n [] m = refl
value_of_append n (b ∷ l) m = value_of_append (n * 10 + (b - zero_digit)) l m

pub value_step : (n d : ℕ) (l : List ℕ) → value_from n (l ++ (zero_digit + d) ∷ []) ≡ value_from n l * 10 + d
value_step n d l = value_of_append n l ((zero_digit + d) ∷ []) ∙ value_of_digit (value_from n l) d

value_from_lt : (n : ℕ) (l : List ℕ) → all_digits l ≡ true → value_from n l < (n + 1) * 10 ^ length l
unfolding all_digits value_from
value_from_lt n [] e = omega (arith, pow-zero 10)
value_from_lt n (b ∷ l) e =
    let t = both (is_digit b) (all_digits l) e in
    let low : n * 10 + (b - zero_digit) + 1 ≤ (n + 1) * 10 = omega (arith, digit_range b t.0) in
    rw (pow-succ' 10 (length l), ← mul_assoc) (lt_of_lt_of_le (value_from_lt (n * 10 + (b - zero_digit)) l t.1) (mul-le-mul_right (10 ^ length l) low))

pub value_lt : (l : List ℕ) → all_digits l ≡ true → value l < 10 ^ length l
value_lt l e = omega (arith, value_from_lt 0 l e)

-- "1 to 9 digits"
pub record Whole (l : List ℕ) : Type 0 where
  pub all : all_digits l ≡ true
  pub some : 1 ≤ length l
  pub few : length l ≤ most_digits

pub is_whole_of : (l : List ℕ) → Whole l → is_whole l ≡ true
unfolding is_whole
is_whole_of l w = rw (w.all, le-leb _ _ w.some, le-leb _ _ w.few)

pub whole_is : (l : List ℕ) → is_whole l ≡ true → Whole l
unfolding is_whole
whole_is l e =
    let t = both (all_digits l) (is_digit_count (length l)) e in
    let u = both (leb 1 (length l)) (leb (length l) most_digits) t.1 in
    record { all = t.0; some = leb-true _ _ u.0; few = leb-true _ _ u.1 }

pub whole_by_count : (l : List ℕ) → all_digits l ≡ true → is_whole l ≡ is_digit_count (length l)
unfolding is_whole
whole_by_count l e = rw e
