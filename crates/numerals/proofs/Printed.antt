-- A number as it is printed, and read back.
--     whole_of_decimal                    the digits of a number below 1,000,000,000 are whole
--     number_of_printed                   what is printed says the number again
--     printed_injective                   two numbers are never printed alike
--     length_of_printed                   at most k bytes and a minus where the number is k digits long
-- Assumes nothing.
use Prim.Native.Nat.{ℕ, suc, ◌+◌, ◌^◌, ◌≤◌, ◌<◌}
use mathlib.Core.Bool.{true, false, false≢true}
use mathlib.Core.Path.{◌≡◌, sym, ap, ◌∙◌}
use native.Mathlib.Omega.{arith}
use lib.IntN.{ℤ, pos, negsuc, neg_ℤ, nat_abs}
use lib.ListN.{length, drop, get_or}
use Rattle.numerals.specs.Number.{minus, most_digits, is_whole, value, number_of}
use Rattle.numerals.specs.Printed.{decimal, printed}
use Rattle.std.specs.Prelude.{Some}
use Rattle.numerals.proofs.Wholes.{is_whole_of, first_not_minus}
use Rattle.numerals.proofs.Decimal.{all_of_decimal, value_of_decimal, some_of_decimal, length_of_decimal}
use Rattle.numerals.proofs.Numbers.{number_of_minus, number_of_plain, said_is}

pub whole_of_decimal : (n : ℕ) → n < 10 ^ most_digits → is_whole (decimal n) ≡ true
whole_of_decimal n h =
    is_whole_of (decimal n)
    (record {
      all = all_of_decimal n;
      some = some_of_decimal n;
      few = length_of_decimal n most_digits (omega arith) h;
    })

-- no digits are taken for a minus
plain_decimal : (n : ℕ) → get_or (decimal n) 0 0 ≡ minus → ⊥
plain_decimal n = first_not_minus (decimal n) (all_of_decimal n)

pub number_of_printed : (v : ℤ) → nat_abs v < 10 ^ most_digits → number_of (printed v) ≡ Some v
unfolding printed
number_of_printed (pos n) h =
    number_of_plain (decimal n) (plain_decimal n) ∙ said_is false (decimal n) (whole_of_decimal n h) (λ t z. false≢true t) ∙ ap (λ k. Some (pos k)) (value_of_decimal n)
number_of_printed (negsuc n) h =
    let some : value (decimal (suc n)) ≡ 0 → ⊥ = λ z. omega (arith, value_of_decimal (suc n)) in
    number_of_minus (decimal (suc n)) ∙ said_is true (decimal (suc n)) (whole_of_decimal (suc n) h) (λ t. some)
    ∙ ap (λ k. Some (neg_ℤ (pos k))) (value_of_decimal (suc n))

pub printed_injective : (v w : ℤ) → printed v ≡ printed w → v ≡ w
unfolding printed
printed_injective (pos m) (pos n) e = ap pos (sym (value_of_decimal m) ∙ ap value e ∙ value_of_decimal n)
printed_injective (pos m) (negsuc n) e = absurd (plain_decimal m (ap (λ l. get_or l 0 0) e))
printed_injective (negsuc m) (pos n) e = absurd (plain_decimal n (sym (ap (λ l. get_or l 0 0) e)))
printed_injective (negsuc m) (negsuc n) e =
    let same : suc m ≡ suc n = sym (value_of_decimal (suc m)) ∙ ap (λ l. value (drop 1 l)) e ∙ value_of_decimal (suc n) in
    ap negsuc (omega arith)

pub length_of_printed : (v : ℤ) (k : ℕ) → 1 ≤ k → nat_abs v < 10 ^ k → length (printed v) ≤ k + 1
unfolding printed
length_of_printed (pos n) k h fits = omega (arith, length_of_decimal n k h fits)
length_of_printed (negsuc n) k h fits = omega (arith, length_of_decimal (suc n) k h fits)
