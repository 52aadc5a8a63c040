-- The number at the front of a text.
--     digits_more, digits_at_zero          the digits that a text begins with: one and those after it; none where none may be taken
--     NoDigit, digits_none                 a text that ends, or goes on with another byte, begins with none
--     digits_prefix, length_of_digits, all_of_digits     they stand at the text's front, and are digits
--     digits_stop                          where no digit follows, digits are all there are
--     front_of_minus, front_of_plain       the front, by its sign
--     front_is_prefix                      it stands at the text's front
--     front_of_number                      a token that says a number, where no digit follows, is the front
-- Of a token t in a text, at place `at` and before `rest` (of a text in three parts: `drop-append_seam before (t ++ rest)`, of lib.Seq):
--     numeral_of_number                    a number that it says is found there, with the place after it
--     number_of_numeral                    a number found there that ends where it does is what it says
--     not_of_other, not_of_none            where one ends elsewhere, or none is found, it says none
--     token_says                           of a token by itself: what it says, by whether the number found ends it, as the machine holds it
-- Assumes nothing.
use Prim.Native.Nat.{ℕ, zero, suc, ◌+◌, ◌≤◌}
use mathlib.Core.Bool.{Bool, true, false}
use mathlib.Core.Path.{◌≡◌, refl, sym, ap, ◌∙◌}
use mathlib.Core.List.{List, [], ◌∷◌, ◌++◌, append-nil}
use native.Mathlib.Omega.{arith}
use borrow.Author.Tests.{ne_eqb}
use lib.IntN.{ℤ}
use lib.ListN.{length, take, drop, get_or, length-take, get_or-append}
use lib.Seq.{take_at}
use Rattle.arithmetic.proofs.Choice.{chosen, if_either}
use Rattle.arithmetic.proofs.Crossing.{back}
use Rattle.numerals.specs.Number.{minus, is_digit, all_digits, number_of}
use Rattle.numerals.specs.Front.{digits_of, enough_digits, front, ends_at, numeral_at}
use Rattle.std.specs.Prelude.{Option, Some, None}
use Rattle.std.specs.Bool.{then_some}
use Rattle.arithmetic.proofs.Tests.{both}
use Rattle.numerals.proofs.Numbers.{Signed, after_minus, plain, sign_of, number_of_minus, number_of_plain, said_parts, not_number, number_back}

-- ---- the digits that a text begins with
pub digits_more : (most b : ℕ) (l : List ℕ) → is_digit b ≡ true → digits_of (suc most) (b ∷ l) ≡ b ∷ digits_of most l
unfolding digits_of
digits_more most b l e = simp (e, chosen)

pub digits_at_zero : (l : List ℕ) → digits_of 0 l ≡ []
unfolding digits_of
digits_at_zero l = refl

-- a text that does not go on with a digit
pub data NoDigit : List ℕ → Type 0 where
  ended : NoDigit []
  other : {b : ℕ} {l : List ℕ} → is_digit b ≡ false → NoDigit (b ∷ l)

pub digits_none : (most : ℕ) {l : List ℕ} → NoDigit l → digits_of most l ≡ []
unfolding digits_of
digits_none zero n = refl
digits_none (suc most) ended = refl
digits_none (suc most) (other e) = simp (e, chosen)

pub digits_prefix : (most : ℕ) (l : List ℕ) → digits_of most l ≡ take (length (digits_of most l)) l
unfolding digits_of
digits_prefix zero l = refl
digits_prefix (suc most) [] = refl
digits_prefix (suc most) (b ∷ l) =
    if_either (λ m. m ≡ take (length m) (b ∷ l)) (is_digit b) (λ e. ap (λ m. b ∷ m) (digits_prefix most l)) (λ e. refl)

pub length_of_digits : (most : ℕ) (l : List ℕ) → length (digits_of most l) ≤ length l
length_of_digits most l = omega (arith, ap length (digits_prefix most l) ∙ length-take (length (digits_of most l)) l)

pub all_of_digits : (most : ℕ) (l : List ℕ) → all_digits (digits_of most l) ≡ true
unfolding digits_of all_digits
all_of_digits zero l = refl
all_of_digits (suc most) [] = refl
all_of_digits (suc most) (b ∷ l) =
    if_either (λ m. all_digits m ≡ true) (is_digit b) (λ e. rw e (all_of_digits most l)) (λ e. refl)

pub digits_stop : (most : ℕ) (l rest : List ℕ) → length l ≤ most → all_digits l ≡ true → NoDigit rest → digits_of most (l ++ rest) ≡ l
unfolding all_digits
digits_stop most [] rest h e n = digits_none most n
digits_stop zero (b ∷ l) rest h e n = absurd (omega arith)
digits_stop (suc most) (b ∷ l) rest h e n =
    let t = both (is_digit b) (all_digits l) e in
    digits_more most b (l ++ rest) t.0 ∙ ap (λ m. b ∷ m) (digits_stop most l rest (omega arith) t.1 n)

-- ---- the front
pub front_of_minus : (l : List ℕ) → front (minus ∷ l) ≡ minus ∷ digits_of enough_digits l
unfolding front
front_of_minus l = simp chosen

pub front_of_plain : (l : List ℕ) → (get_or l 0 0 ≡ minus → ⊥) → front l ≡ digits_of enough_digits l
unfolding front
front_of_plain [] h = sym (digits_none enough_digits ended)
front_of_plain (b ∷ l) h = simp (ne_eqb b minus h, chosen)

pub front_is_prefix : (l : List ℕ) → front l ≡ take (length (front l)) l
front_is_prefix l = go (sign_of l)
  where
    go : {l : List ℕ} → Signed l → front l ≡ take (length (front l)) l
    go (after_minus l) = rw (front_of_minus l) (ap (λ m. minus ∷ m) (digits_prefix enough_digits l))
    go (plain {l} h) = rw (front_of_plain l h) (digits_prefix enough_digits l)

pub front_of_number : (t rest : List ℕ) {v : ℤ} → number_of t ≡ Some v → NoDigit rest → front (t ++ rest) ≡ t
front_of_number t rest e n = go (sign_of t) e
  where
    go : {t : List ℕ} → Signed t → {v : ℤ} → number_of t ≡ Some v → front (t ++ rest) ≡ t
    go (after_minus l) e =
        let w = (said_parts true l (sym (number_of_minus l) ∙ e)).0 in
        front_of_minus (l ++ rest) ∙ ap (λ m. minus ∷ m) (digits_stop enough_digits l rest (omega arith) w.all n)
    go (plain {l} h) e =
        let w = (said_parts false l (sym (number_of_plain l h) ∙ e)).0 in
        front_of_plain (l ++ rest) (λ z. h (sym (get_or-append l rest 0 0 w.some) ∙ z))
        ∙ digits_stop enough_digits l rest (omega arith) w.all n

-- ---- a token in a text
none_not_some : {A : Type 0} {a : A} → ◌≡◌ {A = Option A} None (Some a) → ⊥
none_not_some e = let z : ◌≡◌ {A = ℕ} 0 1 = cc in omega arith

some_same : {A : Type 0} {a b : A} → ◌≡◌ {A = Option A} (Some a) (Some b) → a ≡ b
some_same e = cc

pub ends_parts : {stop stop' : ℕ} {v : ℤ} (n : Option ℤ) → ends_at stop n ≡ Some (record { value = v; stop = stop' }) → (n ≡ Some v) × (stop ≡ stop')
unfolding ends_at
ends_parts (Some w) e = let same = some_same e in (ap (λ n. Some n.value) same, ap (λ n. n.stop) same)
ends_parts None e = absurd (none_not_some e)

module _ (text : List ℕ) (at : ℕ) (t rest : List ℕ) (stands : drop at text ≡ t ++ rest) where
  pub numeral_of_number : {v : ℤ} → number_of t ≡ Some v → NoDigit rest → numeral_at text at ≡ Some (record { value = v; stop = at + length t })
  unfolding numeral_at ends_at
  numeral_of_number e n = rw (stands, front_of_number t rest e n, e)

  pub number_of_numeral : {v : ℤ} {stop : ℕ} → numeral_at text at ≡ Some (record { value = v; stop = stop }) → stop ≡ at + length t → number_of t ≡ Some v
  unfolding numeral_at
  number_of_numeral e same =
      let p = ends_parts (number_of (front (drop at text))) e in
      let l : length (front (t ++ rest)) ≡ length t = omega (arith, rw stands at p.1) in
      let whole : front (drop at text) ≡ t = ap front stands ∙ front_is_prefix (t ++ rest) ∙ take_at t rest _ (sym l) in
      ap number_of (sym whole) ∙ p.0

  pub not_of_other : {v : ℤ} {stop : ℕ} → NoDigit rest → numeral_at text at ≡ Some (record { value = v; stop = stop }) → (stop ≡ at + length t → ⊥) → number_of t ≡ None
  not_of_other n e elsewhere = not_number t (λ w f. elsewhere (ap (λ n. n.stop) (some_same (sym e ∙ numeral_of_number f n))))

  pub not_of_none : NoDigit rest → numeral_at text at ≡ None → number_of t ≡ None
  not_of_none n e = not_number t (λ w f. none_not_some (sym e ∙ numeral_of_number f n))

-- ---- a token by itself
module _ (token : List ℕ) {v : ℤ} {stop : ℕ} (found : numeral_at token 0 ≡ Some (record { value = v; stop = stop })) where
  pub token_says : (t : Bool) → (t ≡ true → stop ≡ length token) → (t ≡ false → stop ≡ length token → ⊥) → then_some t (back v) ≡ number_of token
  token_says true ends not_ends =
      let says = number_of_numeral token 0 token [] (sym (append-nil token)) found (omega (arith, ends refl)) in
      ap Some (number_back token says) ∙ sym says
  token_says false ends not_ends =
      sym (not_of_other token 0 token [] (sym (append-nil token)) ended found (λ same. not_ends refl (omega arith)))
