-- Printing: a number's text in lent room.
--     prints_unique                       only one room and one length meet a promise to print
--     printed_by_sign, length_by_sign     its text is a minus or none, and the digits of its size
--     Spelled, spelled                    the digits that `io::decimal` wrote are the number's
--     prints_short                        what a call leaves where the room is too short
--     digits_fit, prints_fits             where it is not: the part that is lent for the digits is as long as they are; what is left once they are copied there
-- Assumes nothing.
use Prim.Native.Nat.{ℕ, zero, suc, ◌+◌, ◌-◌, ◌≤◌, ◌<◌}
use mathlib.Core.Bool.{Bool, true, false}
use mathlib.Core.Path.{◌≡◌, refl, sym, ap, ap₂, ◌∙◌}
use mathlib.Core.List.{List, [], ◌∷◌, ◌++◌, append_assoc}
use native.Mathlib.Omega.{arith}
use lib.IntN.{ℤ}
use lib.ListN.{length, take, drop, set, length-append, length-set}
use lib.Seq.{take_at, drop-set-lt}
use mir.Val.{bool_byte}
use borrow.Rule.Slice.PartMut.{mid_len, Post-is}
use Rattle.arithmetic.proofs.Room.{laid_fits, laid_short}
use Rattle.io.specs.Counts.{IsPrefixLen}
use Rattle.io.specs.Digits.{last_digits as digits, IsDigitCount}
use Rattle.numerals.specs.Number.{minus}
use Rattle.numerals.specs.Printed.{decimal, printed, Prints}
use Rattle.numerals.specs.Private.Sign.{with_sign}
use Rattle.numerals.proofs.Decimal.{decimal_is_digits, some_of_decimal}

pub prints_unique : {v : ℤ} {room after after' : List ℕ} {r r' : ℕ} → Prints v room after r → Prints v room after' r' → (after ≡ after') × (r ≡ r')
prints_unique p q = (p.left ∙ sym q.left, p.length_is ∙ sym q.length_is)

-- the part of a list from a place to another, as it is lent, and what lies after it
abbrev pub part : ℕ → ℕ → List ℕ → List ℕ
part a b l = take (b - a) (drop a l)

abbrev pub after_part : ℕ → ℕ → List ℕ → List ℕ
after_part a b l = drop (b - a) (drop a l)

-- ---- by sign and size
abbrev pub sign_text : Bool → List ℕ
sign_text true = minus ∷ []
sign_text false = []

length_of_sign : (sign : Bool) → length (sign_text sign) ≡ bool_byte sign
length_of_sign true = refl
length_of_sign false = refl

-- a minus in the first place stands there, or the digits go over it
sign_first : (sign : Bool) (room : List ℕ) → 0 < length room → set room 0 minus ≡ sign_text sign ++ drop (bool_byte sign) (set room 0 minus)
sign_first false room h = refl
sign_first true [] h = absurd (omega arith)
sign_first true (b ∷ room) h = refl

pub record Spelled (n count : ℕ) (digits : List ℕ) : Type 0 where
  pub text_is : take count digits ≡ decimal n
  pub count_is : count ≡ length (decimal n)

pub spelled : (n count : ℕ) (room : List ℕ) → IsPrefixLen count room → IsDigitCount 10 1 n count → take count room ≡ digits 10 count n → Spelled n count room
spelled n count room within few wrote =
    let text_is : take count room ≡ decimal n = wrote ∙ decimal_is_digits n count few in
    record { text_is = text_is; count_is = within.1 ∙ ap length text_is }

module _ (sign : Bool) (n : ℕ) (some : sign ≡ true → 0 < n) where
  pub printed_by_sign : printed (with_sign sign n) ≡ sign_text sign ++ decimal n
  unfolding printed
  printed_by_sign = go sign n some
    where
      go : (sign : Bool) (n : ℕ) → (sign ≡ true → 0 < n) → printed (with_sign sign n) ≡ sign_text sign ++ decimal n
      go false n h = refl
      go true zero h = absurd (omega (arith, h refl))
      go true (suc n) h = refl

  pub length_by_sign : length (printed (with_sign sign n)) ≡ bool_byte sign + length (decimal n)
  length_by_sign =
      ap length printed_by_sign ∙ length-append (sign_text sign) (decimal n) ∙ ap (λ k. k + length (decimal n)) (length_of_sign sign)

  module _ (room : List ℕ) {count : ℕ} {digits : List ℕ} (d : Spelled n count digits) where
    length_is : bool_byte sign + count ≡ length (printed (with_sign sign n))
    length_is = ap (λ k. bool_byte sign + k) d.count_is ∙ sym length_by_sign

    pub prints_short : length room < bool_byte sign + count → Prints (with_sign sign n) room room (bool_byte sign + count)
    prints_short h = record { length_is = length_is; left = sym (laid_short _ room (omega (arith, length_is))) }

    -- whatever is in the first place, the part from the digits' start on that is lent for them is as long as they are
    pub digits_fit : (b : ℕ) → bool_byte sign + count ≤ length room → length (part (bool_byte sign) (bool_byte sign + count) (set room 0 b)) ≡ length (take count digits)
    digits_fit b h =
        rw d.text_is
        (mid_len (bool_byte sign) (bool_byte sign + count) (set room 0 b) (omega (arith, length-set room 0 b)) ∙ omega (arith, d.count_is))

    -- a minus went into the first place, and the digits into that part, which came back
    pub prints_fits :
        (back : List ℕ)
        → bool_byte sign + count ≤ length room
        → back ≡ take count digits
        → Prints (with_sign sign n) room (take (bool_byte sign) (set room 0 minus) ++ (back ++ after_part (bool_byte sign) (bool_byte sign + count) (set room 0 minus))) (bool_byte sign + count)
    prints_fits back h e =
        let start = bool_byte sign in
        let signed = set room 0 minus in
        let text = printed (with_sign sign n) in
        let more : 0 < start + count = omega (arith, d.count_is, some_of_decimal n) in
        let front : take start signed ≡ sign_text sign =
        ap (take start) (sign_first sign room (omega arith)) ∙ take_at (sign_text sign) (drop start signed) start (length_of_sign sign) in
        let within : start ≤ start + count = omega arith in
        let behind : after_part start (start + count) signed ≡ drop (start + count) room =
        Post-is start (start + count) signed within ∙ drop-set-lt (start + count) room 0 minus more in
        record {
          length_is = length_is;
          left =
              ap₂ ◌++◌ front (ap₂ ◌++◌ (e ∙ d.text_is) (behind ∙ ap (λ j. drop j room) length_is))
              ∙ sym (append_assoc (sign_text sign) (decimal n) (drop (length text) room))
              ∙ ap (λ l. l ++ drop (length text) room) (sym printed_by_sign)
              ∙ sym (laid_fits text room (omega (arith, length_is)));
        }
