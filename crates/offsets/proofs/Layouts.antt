-- The numbers that a text holds, however it is laid out.
--     Says, says_same                tokens that say some numbers, wherever they stand; they say no others
--     Holds                          a text that holds some numbers: separators in any number, and each number in a token that says it
--     says_held                      numbers that a text's tokens say are held by it
--     holds_says                     numbers that a text holds are said by its tokens
-- `Holds` and `says_held` are for any grammar: whichever bytes separate, and whatever a token says. Assumes nothing.
use mathlib.Core.Path.{◌≡◌, refl, sym, ap, ◌∙◌}
use mathlib.Core.Bool.{Bool, true, false}
use mathlib.Core.List.{List, [], ◌∷◌, ◌++◌, append_assoc, append-nil}
use Prim.Native.Nat.{ℕ, zero, suc, ◌+◌, ◌-◌, ◌<◌}
use native.Mathlib.Omega.{arith}
use lib.IntN.{ℤ}
use lib.ListN.{length, get_or}
use Rattle.arithmetic.proofs.Choice.{chosen, if_either}
use Rattle.numerals.specs.Number.{number_of}
use Rattle.std.specs.Prelude.{Option, Some, None}
use Rattle.numerals.proofs.Numbers.{every_byte, some_of_number}
use Rattle.offsets.specs.Tokens.{Token, number, is_separator, said, closed, tokens_by, tokens_from}
use Rattle.offsets.proofs.Words.{Clear, none, more, digit_no_separator, run_takes, closed_is}

pub data Says : List ℤ → List Token → Type 0 where
  silent : Says [] []
  followed : {v : ℤ} {vs : List ℤ} {place : ℕ} {ts : List Token} → Says vs ts → Says (v ∷ vs) (number place v ∷ ts)

pub says_same : {vs ws : List ℤ} {ts : List Token} → Says vs ts → Says ws ts → vs ≡ ws
says_same silent silent = refl
says_same (followed {v = v} s) (followed t) = ap (λ l. v ∷ l) (says_same s t)

module _ (separates : ℕ → Bool) (says : List ℕ → Option ℤ) where
  -- a number is the last thing in the text, or stands before a separator
  pub data Holds : List ℤ → List ℕ → Type 0 where
    nothing : Holds [] []
    separator : {b : ℕ} {vs : List ℤ} {text : List ℕ} → separates b ≡ true → Holds vs text → Holds vs (b ∷ text)
    last : {token : List ℕ} {v : ℤ} → says token ≡ Some v → Holds (v ∷ []) token
    before : {token : List ℕ} {v : ℤ} {b : ℕ} {vs : List ℤ} {text : List ℕ} → says token ≡ Some v → separates b ≡ true → Holds vs text → Holds (v ∷ vs) (token ++ b ∷ text)

-- ---- from the tokens to the text
-- the first of the tokens says the first of the numbers
record First (n : Option ℤ) (vs : List ℤ) (ts : List Token) : Type 0 where
  v : ℤ
  more_numbers : List ℤ
  number_is : n ≡ Some v
  numbers_are : vs ≡ v ∷ more_numbers
  rest_says : Says more_numbers ts

first_said : (n : Option ℤ) (place : ℕ) {vs : List ℤ} {ts : List Token} → Says vs (said place n ∷ ts) → First n vs ts
unfolding said
first_said (Some v) place (followed {vs = vs} s) = record { v = v; more_numbers = vs; number_is = refl; numbers_are = refl; rest_says = s }
first_said None place x = elim x [ ]

module _ (separates : ℕ → Bool) (says : List ℕ → Option ℤ) where
  -- a run of bytes at the end of the text
  run_last : (place : ℕ) (run : List ℕ) {vs : List ℤ} → Says vs (closed separates says place run []) → Holds separates says vs (run ++ [])
  unfolding closed
  run_last place [] silent = nothing
  run_last place (b ∷ run) s =
      let f = first_said (says (b ∷ run)) (place - length (b ∷ run)) s in
      rw (append-nil, f.numbers_are) (alone f.rest_says (last f.number_is))
    where
      alone : {v : ℤ} {vs : List ℤ} → Says vs [] → Holds separates says (v ∷ []) (b ∷ run) → Holds separates says (v ∷ vs) (b ∷ run)
      alone silent h = h

  -- a run of bytes before a separator
  run_before : (place : ℕ) (run : List ℕ) (b : ℕ) (text : List ℕ) {ts : List Token} → separates b ≡ true → ((vs : List ℤ) → Says vs ts → Holds separates says vs text)
      → {vs : List ℤ} → Says vs (closed separates says place run ts) → Holds separates says vs (run ++ b ∷ text)
  unfolding closed
  run_before place [] b text e h s = separator e (h _ s)
  run_before place (c ∷ run) b text e h s =
      let f = first_said (says (c ∷ run)) (place - length (c ∷ run)) s in
      rw f.numbers_are (before f.number_is e (h f.more_numbers f.rest_says))

  pub says_held : (text : List ℕ) (place : ℕ) (run : List ℕ) {vs : List ℤ} → Says vs (tokens_by separates says place run text) → Holds separates says vs (run ++ text)
  unfolding tokens_by
  says_held [] place run s = run_last place run s
  says_held (b ∷ text) place run {vs} s =
      if_either (λ ts. Says vs ts → Holds separates says vs (run ++ b ∷ text)) (separates b)
      (λ e. run_before place run b text e (λ ws. says_held text (place + 1) [] {vs = ws}))
      (λ e t. rw append_assoc at (says_held text (place + 1) (run ++ b ∷ []) t)) s

-- ---- from the text to the tokens
clear_of : (l : List ℕ) → ((k : ℕ) → k < length l → is_separator (get_or l k 0) ≡ false) → Clear l
clear_of [] h = none
clear_of (b ∷ l) h = more (h zero (omega arith)) (clear_of l (λ k lt. h (suc k) (omega arith)))

-- no byte of a number is a separator
pub clear_number : (token : List ℕ) {v : ℤ} → number_of token ≡ Some v → Clear token
unfolding is_separator
clear_number token e = clear_of token (every_byte (λ b. is_separator b ≡ false) refl digit_no_separator token e)

-- a run that is a number is one token
closed_number : (place : ℕ) (run : List ℕ) {v : ℤ} (rest : List Token) → number_of run ≡ Some v → closed is_separator number_of (place + length run) run rest ≡ number place v ∷ rest
unfolding said
closed_number place run rest e = closed_is place run rest (some_of_number run e) ∙ rw e

module _ (place : ℕ) (token : List ℕ) {v : ℤ} (e : number_of token ≡ Some v) where
  token_last : tokens_from place [] token ≡ number place v ∷ []
  unfolding tokens_by
  token_last =
      ap (tokens_from place []) (sym (append-nil token)) ∙ run_takes (clear_number token e) place [] []
      ∙ closed_number place token [] e

  token_before : (b : ℕ) (text : List ℕ) → is_separator b ≡ true → tokens_from place [] (token ++ b ∷ text) ≡ number place v ∷ tokens_from (place + length token + 1) [] text
  unfolding tokens_by
  token_before b text s =
      run_takes (clear_number token e) place [] (b ∷ text)
      ∙ rw s (simp chosen (closed_number place token (tokens_from (place + length token + 1) [] text) e))

pub holds_says : {vs : List ℤ} {text : List ℕ} → Holds is_separator number_of vs text → (place : ℕ) → Says vs (tokens_from place [] text)
unfolding tokens_by closed
holds_says nothing place = silent
holds_says (separator e h) place = rw e (simp chosen (holds_says h (place + 1)))
holds_says (last {token = token} e) place = rw (token_last place token e) (followed silent)
holds_says (before {token = token} {b = b} {text = text} e s h) place =
    rw (token_before place token e b text s) (followed (holds_says h (place + length token + 1)))
