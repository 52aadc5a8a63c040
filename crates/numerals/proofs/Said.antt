-- What the digits from a place of a text say, and the number at a place.
--     said_from                                       what they say, and the place after them
--     said_from_is, said_from_not, said_from_zero     what they say, by their count and value, as the machine holds it
--     numeral_past, numeral_within                    the number at a place: none beyond the end; else what the digits say, after a minus or none
-- Assumes nothing.
use Prim.Native.Nat.{ℕ, suc, ◌+◌, ◌-◌, ◌^◌, ◌≤◌, ◌<◌}
use mathlib.Core.Bool.{Bool, true, false}
use mathlib.Core.Path.{◌≡◌, refl, sym, ap, ap₂, ◌∙◌}
use mathlib.Core.List.{List, ◌∷◌}
use native.Mathlib.Nat.{add-zero}
use native.Mathlib.Omega.{arith}
use borrow.Author.Tests.{eqb-true, eqb-false}
use lib.Dec.{eqb}
use lib.IntN.{ℤ}
use lib.Signed.{mag}
use lib.ListN.{length, drop, get_or, drop_of_length-le}
use lib.Seq.{get_or-drop}
use mir.Val.{bool_byte}
use Rattle.arithmetic.specs.Signed.{nearest}
use Rattle.arithmetic.proofs.Crossing.{back, mag_le, nearest_back, nearest_of_small}
use Rattle.arithmetic.proofs.Parts.{drop_step}
use Rattle.numerals.specs.Number.{minus, is_digit_count, is_whole, value, number_of}
use Rattle.numerals.specs.Front.{enough_digits, front, ends_at, numeral_at}
use Rattle.numerals.specs.Private.Sign.{with_sign, digits_from, DigitsFrom}
use Rattle.numerals.specs.declared.reading.Digits.{Digits}
use Rattle.numerals.specs.declared.reading.Numeral.{Numeral}
use Rattle.std.specs.Prelude.{Option, Some, None}
use Rattle.numerals.proofs.Wholes.{first_not_minus, whole_by_count}
use Rattle.numerals.proofs.Numbers.{said_by, number_of_minus, number_of_plain, said_is, said_not, said_zero, said_lt}
use Rattle.numerals.proofs.Fronts.{all_of_digits, front_of_minus, front_of_plain}

-- what the digits from a place on say, after a minus or none, and the place after them
unfoldable pub said_from : List ℕ → ℕ → Bool → Option Numeral
said_from text from minus = ends_at (from + length (digits_from text from)) (said_by minus (digits_from text from))

module _ {text : List ℕ} {from : ℕ} {r : Digits} (d : DigitsFrom text from r) where
  -- so many digits were found
  abbrev count : ℕ
  count = r.stop - from

  whole_counted : is_whole (digits_from text from) ≡ is_digit_count count
  whole_counted =
      let many : count ≡ length (digits_from text from) = omega (arith, d.stop_is) in
      rw many (whole_by_count (digits_from text from) (all_of_digits enough_digits (drop from text)))

  not_said : (sign : Bool) → said_by sign (digits_from text from) ≡ None → None ≡ said_from text from sign
  unfolding said_from ends_at
  not_said sign e = rw e

  pub said_from_not : (sign : Bool) → is_digit_count count ≡ false → None ≡ said_from text from sign
  said_from_not sign e = not_said sign (said_not sign (digits_from text from) (whole_counted ∙ e))

  pub said_from_zero : r.value ≡ 0 → None ≡ said_from text from true
  said_from_zero z = not_said true (said_zero (digits_from text from) (sym d.value_is ∙ z))

  pub said_from_is :
      (sign : Bool)
      → is_digit_count count ≡ true
      → (sign ≡ true → r.value ≡ 0 → ⊥)
      → {v : ℤ}
      → v ≡ nearest (with_sign sign r.value)
      → Some (record { value = back v; stop = r.stop }) ≡ said_from text from sign
  unfolding said_from ends_at
  said_from_is sign e some {v} n =
      let digits = digits_from text from in
      let z = with_sign sign (value digits) in
      let says : said_by sign digits ≡ Some z = said_is sign digits (whole_counted ∙ e) (λ t o. some t (d.value_is ∙ o)) in
      let held : v ≡ nearest z = n ∙ ap (λ k. nearest (with_sign sign k)) d.value_is in
      let small : mag z < 2 ^ 63 = omega (arith, mag_le z, said_lt sign digits says) in
      rw says (ap₂ (λ k stop. Some (record { value = k; stop = stop })) (nearest_back z held ∙ nearest_of_small z small) d.stop_is)

-- ---- the number at a place of a text
module _ (text : List ℕ) (at : ℕ) where
  pub numeral_past : length text ≤ at → numeral_at text at ≡ None
  unfolding numeral_at front number_of ends_at
  numeral_past h = rw (drop_of_length-le text h)

  numeral_minus : at < length text → get_or text at 0 ≡ minus → numeral_at text at ≡ said_from text (at + 1) true
  unfolding numeral_at said_from
  numeral_minus h e =
      let after = digits_from text (at + 1) in
      let stands : drop at text ≡ minus ∷ drop (at + 1) text = drop_step text at 0 h ∙ ap (λ b. b ∷ drop (at + 1) text) e in
      let start : front (drop at text) ≡ minus ∷ after = ap front stands ∙ front_of_minus (drop (at + 1) text) in
      let place : at + suc (length after) ≡ at + 1 + length after = omega arith in
      rw (start, number_of_minus after) (ap (λ k. ends_at k (said_by true after)) place)

  numeral_plain : (get_or text at 0 ≡ minus → ⊥) → numeral_at text at ≡ said_from text at false
  unfolding numeral_at said_from
  numeral_plain h =
      let first : get_or (drop at text) 0 0 ≡ get_or text at 0 = get_or-drop at text 0 0 ∙ ap (λ k. get_or text k 0) (add-zero at) in
      let digits = digits_from text at in
      rw (front_of_plain (drop at text) (λ z. h (sym first ∙ z)), number_of_plain digits (first_not_minus digits (all_of_digits enough_digits (drop at text))))

  pub numeral_within : at < length text → numeral_at text at ≡ said_from text (at + bool_byte (eqb (get_or text at 0) minus)) (eqb (get_or text at 0) minus)
  numeral_within h = told (eqb (get_or text at 0) minus) refl
    where
      told : (sign : Bool) → eqb (get_or text at 0) minus ≡ sign → numeral_at text at ≡ said_from text (at + bool_byte sign) sign
      told true e = numeral_minus h (eqb-true _ _ e)
      told false e = numeral_plain (eqb-false _ _ e) ∙ ap (λ k. said_from text k false) (sym (add-zero at))
