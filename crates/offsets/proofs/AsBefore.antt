-- What document 01 alone lets a file hold, without request 3: a stricter grammar. Its limits: proofs/Longer.
--     Stricter, answered_still       what a stricter grammar reads is read as the same contents
--     separated_before                "Separators are the space (32) and the line feed (10)"
--     number_before                   "no leading zero unless the number is 0", and else a number as it is
--     answered_as_before             a text that the reader answers by these is answered the same
-- Assumes nothing.
use mathlib.Core.Path.{◌≡◌, ◌∙◌}
use mathlib.Core.Bool.{Bool, true, false, ◌||◌}
use mathlib.Core.List.{List, [], ◌∷◌}
use Prim.Native.Nat.{ℕ, ◌≤◌}
use native.Mathlib.Omega.{arith}
use lib.Dec.{eqb}
use lib.IntN.{ℤ}
use lib.ListN.{length}
use Rattle.arithmetic.specs.Choice.{when◌then◌else◌}
use Rattle.numerals.specs.Number.{minus, zero_digit, number_of}
use Rattle.std.specs.Prelude.{Option, Some, None}
use Rattle.ranges.specs.Outcome.{answered}
use Rattle.ranges.specs.Sizes.{longest_file, room_for_half_breadths, room_for_items, room_for_tanks}
use Rattle.offsets.specs.File.{Contents, file}
use Rattle.offsets.specs.Reader.{reader_of}
use Rattle.offsets.specs.Tokens.{Token, space, line_feed, is_separator, tokens_by}
use Rattle.offsets.proofs.Answers.{past_sizes}
use Rattle.offsets.proofs.Editors.{ReadAs, HoldsNumbers, held_is_read}
use Rattle.offsets.proofs.FileIn.{file_in}
use Rattle.offsets.proofs.Layouts.{Holds, nothing, separator, last, before, says_held}

-- what separates in one separates in the other, and a number of the one is the same number in the other
pub record Stricter (separates : ℕ → Bool) (says : List ℕ → Option ℤ) : Type 0 where
  pub separators : (b : ℕ) → separates b ≡ true → is_separator b ≡ true
  pub numbers : (token : List ℕ) {v : ℤ} → says token ≡ Some v → number_of token ≡ Some v

module _ {separates : ℕ → Bool} {says : List ℕ → Option ℤ} (stricter : Stricter separates says) where
  holds_still : {vs : List ℤ} {text : List ℕ} → Holds separates says vs text → HoldsNumbers vs text
  holds_still nothing = nothing
  holds_still (separator {b = b} e h) = separator (stricter.separators b e) (holds_still h)
  holds_still (last {token = token} n) = last (stricter.numbers token n)
  holds_still (before {token = token} {b = b} n e h) = before (stricter.numbers token n) (stricter.separators b e) (holds_still h)

  pub answered_still : (text : List ℕ) (c : Contents) → file (length text) (tokens_by separates says 0 [] text) ≡ answered c → ReadAs text c
  answered_still text c e =
      let f = file_in (length text) (tokens_by separates says 0 [] text) e in
      held_is_read text c f.sound (holds_still (says_held separates says text 0 [] f.says))

-- ---- document 01's
unfoldable pub separated_before : ℕ → Bool
separated_before b = eqb b space || eqb b line_feed

unfoldable pub leading_zero : List ℕ → Bool
leading_zero [] = false
leading_zero (b ∷ []) = false
leading_zero (b ∷ c ∷ rest) = eqb b zero_digit

-- the digits, after a minus or none
unfoldable pub without_minus : List ℕ → List ℕ
without_minus [] = []
without_minus (b ∷ rest) = when eqb b minus then rest else b ∷ rest

unfoldable pub number_before : List ℕ → Option ℤ
number_before token = when leading_zero (without_minus token) then None else number_of token

abbrev pub tokens_before : List ℕ → List Token
tokens_before text = tokens_by separated_before number_before 0 [] text

-- ---- it is stricter
number_left : (t : Bool) {n : Option ℤ} {v : ℤ} → (when t then None else n) ≡ Some v → n ≡ Some v
unfolding when◌then◌else◌
number_left true e = let z : ◌≡◌ {A = ℕ} 0 1 = cc in absurd (omega arith)
number_left false e = e

stricter : Stricter separated_before number_before
unfolding separated_before number_before is_separator
stricter = record { separators = λ b e. rw e; numbers = λ token. number_left (leading_zero (without_minus token)) }

-- The reader's own tests, of room and length, stand before the first token, and are the same.
pub answered_as_before : (text : List ℕ) (h i t : ℕ) (c : Contents) → room_for_half_breadths ≤ h → room_for_items ≤ i → room_for_tanks ≤ t → length text ≤ longest_file
    → file (length text) (tokens_before text) ≡ answered c → reader_of text h i t ≡ answered c
answered_as_before text h i t c half items tanks short e = past_sizes text h i t half items tanks short ∙ answered_still stricter text c e
