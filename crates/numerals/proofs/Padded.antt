-- Numbers padded with zeros.
--     value_of_zeros, all_of_zeros, whole_padded     digits with zeros in front of them: their value, and whether they are whole
--     padded                               within nine digits, zeros in front change nothing that digits say, after a minus or none
--     number_padded, minus_padded          so a token says the same number with zeros in front of its digits
--     minus_zeros                          a minus with only zeros says none, however many
--     beyond_nine, minus_beyond_nine       digits beyond the ninth say none, zeros or not
-- Assumes nothing.
use Prim.Native.Nat.{ℕ, zero, suc, ◌+◌, ◌≤◌, ◌<◌}
use mathlib.Core.Bool.{Bool, true, false, and-false}
use mathlib.Core.Path.{◌≡◌, refl, sym, ap, ◌∙◌}
use mathlib.Core.List.{List, [], ◌∷◌, ◌++◌, append-nil}
use native.Mathlib.Omega.{arith}
use borrow.Author.Tests.{le-leb, lt-leb}
use lib.ListN.{length, get_or, replicate, length-append, length-replicate}
use Rattle.numerals.specs.Number.{minus, zero_digit, is_digit, all_digits, value_from, value, most_digits, is_whole, number_of}
use Rattle.std.specs.Prelude.{None}
use Rattle.numerals.proofs.Numbers.{said_by, number_of_minus, number_of_plain, said_not, said_zero}

-- so many zeros in front of digits
abbrev pub zeros_before : ℕ → List ℕ → List ℕ
zeros_before k digits = replicate k zero_digit ++ digits

pub value_of_zeros : (k : ℕ) (digits : List ℕ) → value (zeros_before k digits) ≡ value digits
unfolding value_from
value_of_zeros zero digits = refl
value_of_zeros (suc k) digits = value_of_zeros k digits

pub all_of_zeros : (k : ℕ) (digits : List ℕ) → all_digits (zeros_before k digits) ≡ all_digits digits
unfolding all_digits is_digit
all_of_zeros zero digits = refl
all_of_zeros (suc k) digits = all_of_zeros k digits

module _ (k : ℕ) (digits : List ℕ) (some : 1 ≤ length digits) (few : k + length digits ≤ most_digits) where
  pub whole_padded : is_whole (zeros_before k digits) ≡ is_whole digits
  unfolding is_whole
  whole_padded =
      let long = length-append (replicate k zero_digit) digits ∙ ap (λ n. n + length digits) (length-replicate k zero_digit) in
      let most : length digits ≤ most_digits = omega arith in
      let more : 1 ≤ k + length digits = omega arith in
      rw (all_of_zeros k digits, long, le-leb _ _ few, le-leb _ _ most, le-leb _ _ more, le-leb _ _ some)

  pub padded : (sign : Bool) → said_by sign (zeros_before k digits) ≡ said_by sign digits
  unfolding said_by
  padded sign = rw (whole_padded, value_of_zeros k digits)

  pub minus_padded : number_of (minus ∷ zeros_before k digits) ≡ number_of (minus ∷ digits)
  minus_padded = number_of_minus (zeros_before k digits) ∙ padded true ∙ sym (number_of_minus digits)

  pub number_padded : (get_or digits 0 0 ≡ minus → ⊥) → number_of (zeros_before k digits) ≡ number_of digits
  number_padded plain = number_of_plain (zeros_before k digits) (no_minus k) ∙ padded false ∙ sym (number_of_plain digits plain)
    where
      no_minus : (k : ℕ) → get_or (zeros_before k digits) 0 0 ≡ minus → ⊥
      no_minus zero = plain
      no_minus (suc k) = λ e. omega arith

pub minus_zeros : (k : ℕ) → number_of (minus ∷ replicate k zero_digit) ≡ None
unfolding value_from
minus_zeros k =
    let none : value (replicate k zero_digit) ≡ 0 = ap value (sym (append-nil (replicate k zero_digit))) ∙ value_of_zeros k [] in
    number_of_minus (replicate k zero_digit) ∙ said_zero (replicate k zero_digit) none

module _ (digits : List ℕ) (many : most_digits < length digits) where
  not_whole : is_whole digits ≡ false
  unfolding is_whole
  not_whole = rw (lt-leb _ _ many) (simp and-false)

  pub beyond_nine : (get_or digits 0 0 ≡ minus → ⊥) → number_of digits ≡ None
  beyond_nine plain = number_of_plain digits plain ∙ said_not false digits not_whole

  pub minus_beyond_nine : number_of (minus ∷ digits) ≡ None
  minus_beyond_nine = number_of_minus digits ∙ said_not true digits not_whole
