-- The loop that takes digits from a place of a text: what it has so far, and the digits still to come, are the whole.
--     Taken                        n is the value of the digits from place `from` up to, not including, place `stop`
--     taken_more                   one more
--     taken_all                    where no more come, those are the digits
--     other_to_come, past_end      no more come before another byte, nor past the end of the text or of the ten
-- Assumes nothing.
use Prim.Native.Nat.{ℕ, suc, ◌+◌, ◌-◌, ◌*◌, ◌^◌, ◌≤◌, ◌<◌, min}
use mathlib.Core.Path.{◌≡◌, sym, ap, ◌∙◌}
use mathlib.Core.Logic.{⊎_elim}
use mathlib.Core.List.{List, [], ◌∷◌}
use native.Mathlib.Nat.{pow-suc}
use native.Mathlib.Omega.{arith}
use lib.ListN.{length, drop, get_or, length-drop, drop_of_length-le}
use Rattle.arithmetic.proofs.Parts.{drop_step}
use Rattle.numerals.specs.Number.{zero_digit, value_from, value}
use Rattle.numerals.specs.Front.{digits_of, enough_digits}
use Rattle.numerals.specs.Private.Sign.{digits_from, DigitsFrom}
use Rattle.arithmetic.proofs.Tests.{less_or_not}
use Rattle.numerals.proofs.Wholes.{digit_in, no_digit}
use Rattle.numerals.proofs.Fronts.{ended, other, digits_more, digits_none, digits_at_zero, length_of_digits}

module _ (text : List ℕ) (from : ℕ) where
  -- the digits still to come from a place on
  abbrev pub to_come : ℕ → List ℕ
  to_come stop = digits_of (from + enough_digits - stop) (drop stop text)

  pub record Taken (n stop : ℕ) : Type 0 where
    pub past : from ≤ stop
    pub few : stop ≤ from + enough_digits
    pub small : n < 10 ^ (stop - from)
    pub value_goes_on : value_from n (to_come stop) ≡ value (digits_from text from)
    pub stop_goes_on : stop + length (to_come stop) ≡ from + length (digits_from text from)

  -- the next byte, where it is a digit
  module _ {stop : ℕ} (h : stop < length text) (room : stop < from + enough_digits) (low : zero_digit ≤ get_or text stop 0) (high : get_or text stop 0 ≤ zero_digit + 9) where
    next : to_come stop ≡ get_or text stop 0 ∷ to_come (stop + 1)
    next =
        let one : from + enough_digits - stop ≡ suc (from + enough_digits - (stop + 1)) = omega arith in
        rw (one, drop_step text stop 0 h) (digits_more _ _ _ (digit_in _ low high))

    pub taken_more : {n : ℕ} → Taken n stop → Taken (n * 10 + (get_or text stop 0 - zero_digit)) (stop + 1)
    unfolding value_from
    taken_more {n} t =
        let one : stop + 1 - from ≡ suc (stop - from) = omega (arith, t.past) in
        record {
          past = omega (arith, t.past);
          few = omega arith;
          small = rw (one, pow-suc) (omega (arith, t.small));
          value_goes_on = ap (value_from n) (sym next) ∙ t.value_goes_on;
          stop_goes_on = omega (arith, ap length next, t.stop_goes_on);
        }

  pub taken_all : {n stop : ℕ} → from ≤ length text → Taken n stop → to_come stop ≡ [] → DigitsFrom text from (record { value = n; stop = stop })
  unfolding value_from
  taken_all {n} {stop} h t e =
      let stop_is : stop ≡ from + length (digits_from text from) = omega (arith, ap length e, t.stop_goes_on) in
      record {
        value_is = sym (ap (value_from n) e) ∙ t.value_goes_on;
        stop_is = stop_is;
        within = omega (arith, length_of_digits enough_digits (drop from text), length-drop from text);
      }

  pub other_to_come : (stop : ℕ) → stop < length text → (zero_digit ≤ get_or text stop 0 → get_or text stop 0 ≤ zero_digit + 9 → ⊥) → to_come stop ≡ []
  other_to_come stop h e = rw (drop_step text stop 0 h) (digits_none _ (other (no_digit _ e)))

  pub past_end : (stop : ℕ) → min (length text) (from + enough_digits) ≤ stop → to_come stop ≡ []
  past_end stop h =
      ⊎_elim
      (λ within. let none : from + enough_digits - stop ≡ 0 = omega arith in rw none (digits_at_zero _))
      (λ past. rw (drop_of_length-le text {i = stop} past) (digits_none _ ended))
      (less_or_not stop (length text))
