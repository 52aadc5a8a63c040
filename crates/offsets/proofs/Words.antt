-- Tokens by place.
--     at_separator, at_end           a separator is passed over; beyond the end there are none
--     digit_no_separator             no digit is a separator
--     Clear, run_takes, closed_is    bytes that are no separators go into the run, and make one token where it is closed
--     TokenAt, token_at              where a byte stands that is no separator, a token begins: its bytes, and the tokens after it
--     finds_number, finds_other, finds_none          what is read at its first byte tells what it says
-- Assumes nothing.
use mathlib.Core.Path.{◌≡◌, refl, sym, ap, subst, ◌∙◌}
use mathlib.Core.Bool.{Bool, true, false}
use mathlib.Core.List.{List, [], ◌∷◌, ◌++◌, append_assoc, append-nil}
use Prim.Native.Nat.{ℕ, zero, suc, ◌+◌, ◌-◌, ◌≤◌, ◌<◌}
use native.Mathlib.Nat.{add-zero}
use native.Mathlib.Omega.{arith}
use borrow.Author.Tests.{eqb-true, ltb-true, ltb-false, lt-ltb, le-ltb, ne_eqb}
use lib.Dec.{eqb, ltb}
use lib.IntN.{ℤ}
use lib.ListN.{length, drop, get_or, length-drop, take-append-drop, drop_of_length-le}
use lib.Seq.{drop-drop, drop_at, get_or-drop}
use Rattle.arithmetic.specs.Choice.{when◌then◌else◌}
use Rattle.arithmetic.proofs.Choice.{chosen, if_either}
use Rattle.arithmetic.proofs.Parts.{drop_step}
use Rattle.arithmetic.proofs.Tests.{never}
use Rattle.numerals.specs.Number.{minus, number_of, is_digit}
use Rattle.numerals.specs.Front.{digits_of, enough_digits, front, numeral_at}
use Rattle.std.specs.Prelude.{Some, None}
use Rattle.numerals.proofs.Fronts as Fronts
use Rattle.numerals.proofs.Wholes.{digit_range}
use Rattle.offsets.specs.Tokens.{Token, number, no_number, space, line_feed, tab, carriage_return, is_separator, said, closed, tokens_by, tokens_from}
use Rattle.offsets.specs.Private.Steps.{tokens_at, ends_here, Begins, IsByte}

-- ---- separators, and the end
module _ (text : List ℕ) (i : ℕ) where
  pub at_separator : i < length text → is_separator (get_or text i 0) ≡ true → tokens_at text (i + 1) ≡ tokens_at text i
  unfolding tokens_at tokens_by closed
  at_separator h e = sym (rw (drop_step text i 0 h, e) (simp chosen))

  pub at_end : length text ≤ i → tokens_at text i ≡ []
  unfolding tokens_at tokens_by closed
  at_end h = rw (drop_of_length-le text h)

-- ---- a run of bytes that are no separators
unfoldable word : List ℕ → List ℕ
word [] = []
word (b ∷ text) = when is_separator b then [] else b ∷ word text

unfoldable beyond : List ℕ → List ℕ
beyond [] = []
beyond (b ∷ text) = when is_separator b then b ∷ text else beyond text

-- bytes that are no separators
pub data Clear : List ℕ → Type 0 where
  none : Clear []
  more : {b : ℕ} {l : List ℕ} → is_separator b ≡ false → Clear l → Clear (b ∷ l)

clear_word : (text : List ℕ) → Clear (word text)
unfolding word
clear_word [] = none
clear_word (b ∷ text) = if_either Clear (is_separator b) (λ e. none) (λ e. more e (clear_word text))

-- a text that begins with no byte of a token
pub data Parted : List ℕ → Type 0 where
  nothing : Parted []
  separated : {b : ℕ} {text : List ℕ} → is_separator b ≡ true → Parted (b ∷ text)

both : (text : List ℕ) → word text ++ beyond text ≡ text
unfolding word beyond
both [] = refl
both (b ∷ text) = by_test (is_separator b) (both text)
  where
    by_test : (t : Bool) → word text ++ beyond text ≡ text → (when t then [] else b ∷ word text) ++ (when t then b ∷ text else beyond text) ≡ b ∷ text
    by_test true e = simp chosen
    by_test false e = simp chosen (ap (λ l. b ∷ l) e)

parted : (text : List ℕ) → Parted (beyond text)
unfolding beyond
parted [] = nothing
parted (b ∷ text) = if_either Parted (is_separator b) (λ e. separated e) (λ e. parted text)

-- a run that is followed by no byte of its token is closed there
run_ends : (place : ℕ) (run : List ℕ) {rest : List ℕ} → Parted rest → tokens_from place run rest ≡ closed is_separator number_of place run (tokens_from place [] rest)
unfolding tokens_by closed
run_ends place run nothing = refl
run_ends place run (separated e) = rw e (simp chosen)

-- bytes that are no separators go into the run
pub run_takes : {w : List ℕ} → Clear w → (place : ℕ) (run rest : List ℕ) → tokens_from place run (w ++ rest) ≡ tokens_from (place + length w) (run ++ w) rest
unfolding tokens_by
run_takes none place run rest = simp (add-zero, append-nil)
run_takes (more {b = b} {l = l} e c) place run rest =
    let end : place + 1 + length l ≡ place + suc (length l) = omega arith in
    rw e (simp chosen (run_takes c (place + 1) (run ++ b ∷ []) rest ∙ rw (end, append_assoc run (b ∷ []) l)))

pub closed_is : (place : ℕ) (run : List ℕ) (rest : List Token) → 0 < length run → closed is_separator number_of (place + length run) run rest ≡ said place (number_of run) ∷ rest
unfolding closed
closed_is place [] rest h = absurd (omega arith)
closed_is place (b ∷ run) rest h = let start : place + suc (length run) - suc (length run) ≡ place = omega arith in rw start

-- ---- the token at a place
pub record TokenAt (text : List ℕ) (at : ℕ) : Type 0 where
  pub token : List ℕ
  pub rest : List ℕ
  pub stands : drop at text ≡ token ++ rest
  pub word_is : Clear token
  pub ends : Parted rest
  pub tokens_are : tokens_at text at ≡ said at (number_of token) ∷ tokens_at text (at + length token)

module _ (text : List ℕ) (at b : ℕ) (l : List ℕ) (d : drop at text ≡ b ∷ l) (e : is_separator b ≡ false) where
  abbrev here : List ℕ
  here = b ∷ word l

  whole : drop at text ≡ here ++ beyond l
  whole = d ∙ sym (ap (λ m. b ∷ m) (both l))

  after : drop (at + length here) text ≡ beyond l
  after = sym (drop-drop (length here) at text) ∙ ap (drop (length here)) whole ∙ drop_at here (beyond l) (length here) refl

  opened : tokens_at text at ≡ tokens_from (at + 1) (b ∷ []) l
  unfolding tokens_at tokens_by
  opened = rw (d, e) (simp chosen)

  taken : tokens_from (at + 1) (b ∷ []) l ≡ tokens_from (at + length here) here (beyond l)
  taken =
      let place : at + 1 + length (word l) ≡ at + length here = omega arith in
      ap (tokens_from (at + 1) (b ∷ [])) (sym (both l)) ∙ run_takes (clear_word l) (at + 1) (b ∷ []) (beyond l)
      ∙ ap (λ k. tokens_from k here (beyond l)) place

  shut : closed is_separator number_of (at + length here) here (tokens_from (at + length here) [] (beyond l)) ≡ said at (number_of here) ∷ tokens_at text (at + length here)
  unfolding tokens_at
  shut = closed_is at here (tokens_from (at + length here) [] (beyond l)) (omega arith) ∙ rw after

  begun : TokenAt text at
  begun = record {
    token = here;
    rest = beyond l;
    stands = whole;
    word_is = more e (clear_word l);
    ends = parted l;
    tokens_are = opened ∙ taken ∙ run_ends (at + length here) here (parted l) ∙ shut;
  }

pub token_at : (text : List ℕ) (at : ℕ) → IsByte text at → TokenAt text at
token_at text at b = begun text at (get_or text at 0) (drop (at + 1) text) (drop_step text at 0 b.there) b.word

-- ---- what is read at its first byte
pub digit_no_separator : (b : ℕ) → is_digit b ≡ true → is_separator b ≡ false
unfolding is_separator
digit_no_separator b e =
    let range = digit_range b e in
    rw (ne_eqb b space (λ z. omega arith), ne_eqb b line_feed (λ z. omega arith), ne_eqb b tab (λ z. omega arith), ne_eqb b carriage_return (λ z. omega arith))

clear_digits : (most : ℕ) (text : List ℕ) → Clear (digits_of most text)
unfolding digits_of
clear_digits zero text = none
clear_digits (suc most) [] = none
clear_digits (suc most) (b ∷ text) = if_either Clear (is_digit b) (λ e. more (digit_no_separator b e) (clear_digits most text)) (λ e. none)

minus_no_separator : (b : ℕ) → eqb b minus ≡ true → is_separator b ≡ false
unfolding is_separator
minus_no_separator b e = rw (eqb-true b minus e)

clear_front : (text : List ℕ) → Clear (front text)
unfolding front
clear_front [] = none
clear_front (b ∷ text) = if_either Clear (eqb b minus) (λ e. more (minus_no_separator b e) (clear_digits enough_digits text)) (λ e. clear_digits enough_digits (b ∷ text))

one_kind : {X : Type 0} {b c : ℕ} → b ≡ c → is_separator b ≡ true → is_separator c ≡ false → X
one_kind e s n = never (sym n ∙ sym (ap is_separator e) ∙ s)

-- a text is parted into bytes that are no separators, and the rest, in one way
one_word : {f g t rest : List ℕ} → Clear f → Parted g → Clear t → Parted rest → f ++ g ≡ t ++ rest → f ≡ t
one_word none g none r e = refl
one_word none nothing (more n t) r e = let o : ◌≡◌ {A = ℕ} 0 1 = cc in absurd (omega arith)
one_word none (separated s) (more n t) r e = one_kind (cc) s n
one_word (more n f) g none nothing e = let o : ◌≡◌ {A = ℕ} 0 1 = cc in absurd (omega arith)
one_word (more n f) g none (separated s) e = one_kind (cc) s n
one_word (more {b = b} {l = l} n f) g (more {b = c} {l = k} m t) r e =
    let first : b ≡ c = cc in
    let others : l ≡ k = one_word f g t r (cc) in
    cc

separator_no_digit : (b : ℕ) → is_separator b ≡ true → is_digit b ≡ false
separator_no_digit b e = by_test (is_digit b) refl
  where
    by_test : (t : Bool) → is_digit b ≡ t → t ≡ false
    by_test true d = one_kind refl e (digit_no_separator b d)
    by_test false d = refl

no_digit : {rest : List ℕ} → Parted rest → Fronts.NoDigit rest
no_digit nothing = Fronts.ended
no_digit (separated {b = b} e) = Fronts.other (separator_no_digit b e)

-- a token that ends at a place is followed by none of its bytes
ends_parted : (text : List ℕ) (place : ℕ) → ends_here text place ≡ true → Parted (drop place text)
unfolding ends_here
ends_parted text place h = by_test (ltb place (length text)) refl h
  where
    by_test : (t : Bool) → ltb place (length text) ≡ t → (when t then is_separator (get_or text place 0) else true) ≡ true → Parted (drop place text)
    by_test true l e = subst Parted (sym (drop_step text place 0 (ltb-true place (length text) l))) (separated (simp chosen at e))
    by_test false l e = subst Parted (sym (drop_of_length-le text (ltb-false place (length text) l))) nothing

parted_ends : (text : List ℕ) (place : ℕ) {rest : List ℕ} → drop place text ≡ rest → Parted rest → ends_here text place ≡ true
unfolding ends_here
parted_ends text place d nothing =
    let l : length text ≤ place = omega (arith, length-drop place text, ap length d) in
    simp (le-ltb place (length text) l, chosen)
parted_ends text place d (separated {b = b} {text = rest} e) =
    let l : place < length text = omega (arith, length-drop place text, ap length d) in
    let byte : get_or text place 0 ≡ b = rw add-zero at (sym (get_or-drop place text 0 0) ∙ ap (λ m. get_or m 0 0) d) in
    simp (lt-ltb place (length text) l, chosen) (rw byte e)

module _ (text : List ℕ) (at : ℕ) (t : TokenAt text at) where
  -- the number that is read ends where its token does, where no byte of a token follows it
  same_end : (v : ℤ) (stop : ℕ) → numeral_at text at ≡ Some (record { value = v; stop = stop }) → ends_here text stop ≡ true → stop ≡ at + length t.token
  unfolding numeral_at
  same_end v stop e h =
      let f = front (drop at text) in
      let place : at + length f ≡ stop = (Fronts.ends_parts (number_of f) e).1 in
      let follows : drop (length f) (drop at text) ≡ drop stop text = drop-drop (length f) at text ∙ ap (λ k. drop k text) place in
      let split : f ++ drop (length f) (drop at text) ≡ t.token ++ t.rest = ap (λ m. m ++ drop (length f) (drop at text)) (Fronts.front_is_prefix (drop at text)) ∙ take-append-drop (length f) (drop at text) ∙ t.stands in
      let token : f ≡ t.token = one_word (clear_front (drop at text)) (subst Parted (sym follows) (ends_parted text stop h)) t.word_is t.ends split in
      sym place ∙ ap (λ m. at + length m) token

  pub finds_number : (v : ℤ) (stop : ℕ) → numeral_at text at ≡ Some (record { value = v; stop = stop }) → ends_here text stop ≡ true → tokens_at text at ≡ number at v ∷ tokens_at text stop
  unfolding said
  finds_number v stop e h =
      let place = same_end v stop e h in
      t.tokens_are ∙ rw (Fronts.number_of_numeral text at t.token t.rest t.stands e place, ← place)

  abbrev later : List Token
  later = tokens_at text (at + length t.token)

  says_none : number_of t.token ≡ None → Begins (no_number at) (tokens_at text at)
  unfolding said
  says_none e = record { rest = later; is = t.tokens_are ∙ ap (λ n. said at n ∷ later) e }

  ends_there : ends_here text (at + length t.token) ≡ true
  ends_there =
      parted_ends text (at + length t.token)
      (sym (drop-drop (length t.token) at text) ∙ ap (drop (length t.token)) t.stands ∙ drop_at t.token t.rest (length t.token) refl)
      t.ends

  pub finds_other : (v : ℤ) (stop : ℕ) → numeral_at text at ≡ Some (record { value = v; stop = stop }) → ends_here text stop ≡ false → Begins (no_number at) (tokens_at text at)
  finds_other v stop e h =
      says_none (Fronts.not_of_other text at t.token t.rest t.stands (no_digit t.ends) e
      (λ place. never (sym h ∙ ap (ends_here text) place ∙ ends_there)))

  pub finds_none : numeral_at text at ≡ None → Begins (no_number at) (tokens_at text at)
  finds_none e = says_none (Fronts.not_of_none text at t.token t.rest t.stands (no_digit t.ends) e)
