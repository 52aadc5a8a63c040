-- What a token says, by its sign.
--     Signed, sign_of                      a token begins with a minus, or it does not
--     number_of_minus, number_of_plain     what it says then
--     said_by                              what digits say, after a minus or none
--     said_is, said_not, said_zero         what digits say: whole ones their value with its sign; others nothing; nor does a minus zero
--     said_parts                           digits that say a number are whole, and it is their value with its sign
--     said_lt, number_lt                   a number that is said is below 1,000,000,000, whatever its sign
--     number_back                          so 64 bits hold it
--     not_number                           a token that says no number says `None`
--     some_of_number, every_byte           a number has a byte; what holds of a minus and of digits holds of each of them
-- Assumes nothing.
use Prim.Native.Nat.{ℕ, zero, suc, ◌^◌, ◌≤◌, ◌<◌}
use mathlib.Core.Bool.{Bool, true, false, not, ◌&&◌, and-true, and-false}
use mathlib.Core.Path.{◌≡◌, refl, sym, subst, ◌∙◌}
use mathlib.Core.List.{List, [], ◌∷◌}
use native.Mathlib.Nat.{pow-le-pow_right, lt_of_lt_of_le}
use native.Mathlib.Omega.{arith}
use borrow.Author.Tests.{eqb-true, eqb-false, eq-eqb, ne_eqb}
use lib.Dec.{eqb, lit<}
use lib.IntN.{ℤ, nat_abs}
use lib.ListN.{length, get_or}
use Rattle.arithmetic.specs.Choice.{when◌then◌else◌}
use Rattle.arithmetic.proofs.Choice.{chosen}
use Rattle.arithmetic.proofs.Crossing.{back, back_is, mag_le}
use Rattle.numerals.specs.Number.{minus, is_digit, most_digits, is_whole, value, all_digits, number_of}
use Rattle.numerals.specs.Private.Sign.{with_sign}
use Rattle.std.specs.Prelude.{Option, Some, None}
use Rattle.arithmetic.proofs.Tests.{both}
use Rattle.numerals.proofs.Wholes.{Whole, whole_is, value_lt, every_digit}

-- what digits say, after a minus or none: "no minus zero"
unfoldable pub said_by : Bool → List ℕ → Option ℤ
said_by minus digits =
    when is_whole digits && not (minus && eqb (value digits) 0) then Some (with_sign minus (value digits)) else None

pub data Signed : List ℕ → Type 0 where
  after_minus : (l : List ℕ) → Signed (minus ∷ l)
  plain : {l : List ℕ} → (get_or l 0 0 ≡ minus → ⊥) → Signed l

pub sign_of : (t : List ℕ) → Signed t
sign_of [] = plain {l = []} (λ e. omega arith)
sign_of (b ∷ l) = told (eqb b minus) refl
  where
    told : (test : Bool) → eqb b minus ≡ test → Signed (b ∷ l)
    told true e = subst (λ k. Signed (k ∷ l)) (sym (eqb-true b minus e)) (after_minus l)
    told false e = plain (eqb-false b minus e)

pub number_of_minus : (l : List ℕ) → number_of (minus ∷ l) ≡ said_by true l
unfolding number_of said_by
number_of_minus l = simp chosen

pub number_of_plain : (t : List ℕ) → (get_or t 0 0 ≡ minus → ⊥) → number_of t ≡ said_by false t
unfolding number_of said_by is_whole all_digits
number_of_plain [] h = simp chosen
number_of_plain (b ∷ l) h = simp (ne_eqb b minus h, and-true, chosen)

-- ---- what digits say, after a minus or none
pub said_is : (sign : Bool) (l : List ℕ) → is_whole l ≡ true → (sign ≡ true → value l ≡ 0 → ⊥) → said_by sign l ≡ Some (with_sign sign (value l))
unfolding said_by
said_is true l e h = simp (e, ne_eqb _ _ (h refl), chosen)
said_is false l e h = simp (e, chosen)

pub said_not : (sign : Bool) (l : List ℕ) → is_whole l ≡ false → said_by sign l ≡ None
unfolding said_by
said_not sign l e = simp (e, chosen)

pub said_zero : (l : List ℕ) → value l ≡ 0 → said_by true l ≡ None
unfolding said_by
said_zero l h = simp (eq-eqb _ _ h, and-false, chosen)

-- a choice that gives a number took it
chosen_is : (t : Bool) {v w : ℤ} → (when t then Some v else None) ≡ Some w → (t ≡ true) × (v ≡ w)
unfolding when◌then◌else◌
chosen_is true e = (refl, cc)
chosen_is false e = let z : ◌≡◌ {A = ℕ} 0 1 = cc in absurd (omega arith)

pub said_parts : (sign : Bool) (l : List ℕ) {v : ℤ} → said_by sign l ≡ Some v → Whole l × (with_sign sign (value l) ≡ v)
unfolding said_by
said_parts sign l e =
    let t = chosen_is (is_whole l && not (sign && eqb (value l) 0)) e in
    (whole_is l (both (is_whole l) (not (sign && eqb (value l) 0)) t.0).0, t.1)

-- ---- how large a number may be
size_is : (sign : Bool) (n : ℕ) → nat_abs (with_sign sign n) ≡ n
size_is false n = refl
size_is true zero = refl
size_is true (suc n) = refl

pub said_lt : (sign : Bool) (l : List ℕ) {v : ℤ} → said_by sign l ≡ Some v → nat_abs v < 10 ^ most_digits
said_lt sign l e =
    let t = said_parts sign l e in
    let nine : 10 ^ length l ≤ 10 ^ most_digits = pow-le-pow_right (lit< tt) t.0.few in
    rw (← t.1, size_is sign (value l)) (lt_of_lt_of_le (value_lt l t.0.all) nine)

pub number_lt : (t : List ℕ) {v : ℤ} → number_of t ≡ Some v → nat_abs v < 10 ^ most_digits
number_lt t e = go (sign_of t) e
  where
    go : {t : List ℕ} → Signed t → {v : ℤ} → number_of t ≡ Some v → nat_abs v < 10 ^ most_digits
    go (after_minus l) e = said_lt true l (sym (number_of_minus l) ∙ e)
    go (plain {l} h) e = said_lt false l (sym (number_of_plain l h) ∙ e)

-- such a number is held by 64 bits, and read back from them
pub number_back : (t : List ℕ) {v : ℤ} → number_of t ≡ Some v → back v ≡ v
number_back t {v} e = back_is (record { sfits = omega (arith, mag_le v, number_lt t e) })

pub not_number : (t : List ℕ) → ((v : ℤ) → number_of t ≡ Some v → ⊥) → number_of t ≡ None
not_number t h = told (number_of t) refl
  where
    told : (n : Option ℤ) → number_of t ≡ n → n ≡ None
    told (Some v) e = absurd (h v e)
    told None e = refl

pub some_of_number : (t : List ℕ) {v : ℤ} → number_of t ≡ Some v → 0 < length t
unfolding number_of
some_of_number [] e = let z : ◌≡◌ {A = ℕ} 0 1 = cc in absurd (omega arith)
some_of_number (b ∷ t) e = omega arith

pub every_byte : (P : ℕ → Type 0) → P minus → ((b : ℕ) → is_digit b ≡ true → P b) → (t : List ℕ) {v : ℤ} → number_of t ≡ Some v → (k : ℕ) → k < length t → P (get_or t k 0)
every_byte P first digit t e = go (sign_of t) e
  where
    go : {t : List ℕ} → Signed t → {v : ℤ} → number_of t ≡ Some v → (k : ℕ) → k < length t → P (get_or t k 0)
    go (after_minus l) e zero h = first
    go (after_minus l) e (suc k) h = every_digit P digit l (said_parts true l (sym (number_of_minus l) ∙ e)).0.all k (omega arith)
    go (plain {l} p) e k h = every_digit P digit l (said_parts false l (sym (number_of_plain l p) ∙ e)).0.all k h
