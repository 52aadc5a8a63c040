-- Files from other editors: what is read does not depend on the layout.
--     held_is_read, read_is_held         a text is read as contents exactly where it holds their numbers
--     laid_alike                         so two texts that hold the same numbers are read alike
--     Editor, edited, edited_alike       as are a text and what an editor makes of it that puts separators for separators
--     tabbed, tabbing                    such as one that puts tabs for spaces and ends its lines with carriage returns
-- Assumes nothing.
use mathlib.Core.Path.{◌≡◌, refl, sym, ap, ◌∙◌}
use mathlib.Core.Bool.{true, false}
use mathlib.Core.List.{List, [], ◌∷◌, ◌++◌, append-nil}
use Prim.Native.Nat.{ℕ}
use lib.Dec.{eqb}
use lib.IntN.{ℤ}
use lib.ListN.{length}
use Rattle.arithmetic.specs.Choice.{when◌then◌else◌}
use Rattle.arithmetic.proofs.Choice.{if_either}
use Rattle.arithmetic.proofs.Tests.{never}
use Rattle.numerals.specs.Number.{number_of}
use Rattle.std.specs.Prelude.{Some}
use Rattle.ranges.specs.Outcome.{answered}
use Rattle.offsets.specs.File.{Contents, file}
use Rattle.offsets.specs.Tokens.{space, line_feed, tab, carriage_return, is_separator, tokens}
use Rattle.offsets.proofs.FileIn.{file_in}
use Rattle.offsets.proofs.Layouts.{says_same, Holds, nothing, separator, last, before, says_held, holds_says, clear_number}
use Rattle.offsets.proofs.Sound.{Sound, numbers_in, file_of_said}
use Rattle.offsets.proofs.Words.{Clear, none, more}

-- a text is read as these contents
abbrev pub ReadAs : List ℕ → Contents → Type 0
ReadAs text c = file (length text) (tokens text) ≡ answered c

-- a text holds these numbers, as the paper has it
abbrev pub HoldsNumbers : List ℤ → List ℕ → Type 0
HoldsNumbers = Holds is_separator number_of

-- ---- any layout
pub held_is_read : (text : List ℕ) (c : Contents) → Sound c → HoldsNumbers (numbers_in c) text → ReadAs text c
held_is_read text c s h = file_of_said (length text) c (tokens text) s (holds_says h 0)

pub read_is_held : (text : List ℕ) (c : Contents) → ReadAs text c → HoldsNumbers (numbers_in c) text
read_is_held text c e = says_held is_separator number_of text 0 [] (file_in (length text) (tokens text) e).says

pub laid_alike : (text other : List ℕ) (c : Contents) {vs : List ℤ} → HoldsNumbers vs text → HoldsNumbers vs other → ReadAs text c → ReadAs other c
laid_alike text other c h o e =
    let f = file_in (length text) (tokens text) e in
    let same = says_same (holds_says h 0) f.says in
    file_of_said (length other) c (tokens other) f.sound (rw same at (holds_says o 0))

-- ---- an editor's layout
-- one separator or more
pub data Separators : List ℕ → Type 0 where
  one : {b : ℕ} → is_separator b ≡ true → Separators (b ∷ [])
  and : {b : ℕ} {l : List ℕ} → is_separator b ≡ true → Separators l → Separators (b ∷ l)

-- an editor that puts separators for each separator, and leaves every other byte
pub record Editor (puts : ℕ → List ℕ) : Type 0 where
  pub for_separator : (b : ℕ) → is_separator b ≡ true → Separators (puts b)
  pub for_other : (b : ℕ) → is_separator b ≡ false → puts b ≡ b ∷ []

unfoldable pub edited : (ℕ → List ℕ) → List ℕ → List ℕ
edited puts [] = []
edited puts (b ∷ text) = puts b ++ edited puts text

separators_before : {l : List ℕ} → Separators l → {vs : List ℤ} {text : List ℕ} → HoldsNumbers vs text → HoldsNumbers vs (l ++ text)
separators_before (one e) h = separator e h
separators_before (and e s) h = separator e (separators_before s h)

number_before : {l : List ℕ} → Separators l → (token : List ℕ) {v : ℤ} {vs : List ℤ} {text : List ℕ} → number_of token ≡ Some v → HoldsNumbers vs text → HoldsNumbers (v ∷ vs) (token ++ (l ++ text))
number_before (one e) token n h = before n e h
number_before (and e s) token n h = before n e (separators_before s h)

module _ {puts : ℕ → List ℕ} (editor : Editor puts) where
  token_left : {token : List ℕ} → Clear token → (text : List ℕ) → edited puts (token ++ text) ≡ token ++ edited puts text
  unfolding edited
  token_left none text = refl
  token_left (more {b = b} {l = l} e c) text = rw (editor.for_other b e) (ap (λ m. b ∷ m) (token_left c text))

  token_kept : {token : List ℕ} → Clear token → edited puts token ≡ token
  unfolding edited
  token_kept {token} c = ap (edited puts) (sym (append-nil token)) ∙ token_left c [] ∙ append-nil token

  pub edited_holds : {vs : List ℤ} {text : List ℕ} → HoldsNumbers vs text → HoldsNumbers vs (edited puts text)
  unfolding edited
  edited_holds nothing = nothing
  edited_holds (separator {b = b} e h) = separators_before (editor.for_separator b e) (edited_holds h)
  edited_holds (last {token = token} n) = rw (token_kept (clear_number token n)) (last n)
  edited_holds (before {token = token} {b = b} {text = text} n e h) =
      rw (token_left (clear_number token n) (b ∷ text)) (number_before (editor.for_separator b e) token n (edited_holds h))

  pub edited_alike : (text : List ℕ) (c : Contents) → ReadAs text c → ReadAs (edited puts text) c
  edited_alike text c e = let h = read_is_held text c e in laid_alike text (edited puts text) c h (edited_holds h) e

-- tabs for spaces, and a carriage return before each line feed
unfoldable pub tabbed : ℕ → List ℕ
tabbed b = when eqb b space then tab ∷ [] else when eqb b line_feed then carriage_return ∷ line_feed ∷ [] else b ∷ []

pub tabbing : Editor tabbed
unfolding tabbed is_separator
tabbing = record {
  for_separator = λ b e.
      if_either Separators (eqb b space) (λ s. one refl)
      (λ s. if_either Separators (eqb b line_feed) (λ l. and refl (one refl)) (λ l. one e));
  for_other = λ b e.
      if_either (λ l. l ≡ b ∷ []) (eqb b space) (λ s. never (sym e ∙ rw s))
      (λ s. if_either (λ l. l ≡ b ∷ []) (eqb b line_feed) (λ l. never (sym e ∙ rw (s, l))) (λ l. refl));
}
