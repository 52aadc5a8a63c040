-- Names of readings.
--     neither          a word that is neither name is none's
--     names_unique     a word names one thing,
--     asks_unique      and a command line asks for one
-- Assumes nothing.
use mathlib.Core.Path.{◌≡◌, refl, sym, ap, ◌∙◌}
use mathlib.Core.List.{List}
use Prim.Native.Nat.{ℕ, ◌<◌}
use native.Mathlib.Decide.{dec_lt}
use native.Mathlib.Omega.{arith}
use lib.ListN.{length}
use Rattle.std.specs.Prelude.{Option, None, Some}
use Rattle.loading.specs.declared.Reading.{Reading}
use Rattle.loading.specs.declared.Reading.TheVariants.{Lesser, StraightLine}
use Rattle.sheet.specs.Names.{name_of, Names, Asks}

pub neither : (word : List ℕ) → (word ≡ name_of Lesser → ⊥) → (word ≡ name_of StraightLine → ⊥) → Names word None
neither word l s Lesser = l
neither word l s StraightLine = s

-- no two readings have one name
name_is_one : (a b : Reading) → name_of a ≡ name_of b → a ≡ b
name_is_one Lesser Lesser e = refl
name_is_one Lesser StraightLine e = absurd (omega (arith, ap length e))
name_is_one StraightLine Lesser e = absurd (omega (arith, ap length e))
name_is_one StraightLine StraightLine e = refl

pub names_unique : (word : List ℕ) (a b : Option Reading) → Names word a → Names word b → a ≡ b
names_unique word (Some a) (Some b) m n = ap Some (name_is_one a b (sym m ∙ n))
names_unique word (Some a) None m n = absurd (n a m)
names_unique word None (Some b) m n = absurd (m b n)
names_unique word None None m n = refl

pub asks_unique : (words : ℕ) (word : List ℕ) (a b : Option Reading) → Asks words word a → Asks words word b → a ≡ b
asks_unique words word a b m n = by_count (dec_lt words 2) (dec_lt 2 words)
  where
    by_count : Dec (words < 2) → Dec (2 < words) → a ≡ b
    by_count (yes few) more = m.without few ∙ sym (n.without few)
    by_count (no few) (yes more) = m.beyond more ∙ sym (n.beyond more)
    by_count (no few) (no more) =
        let two : words ≡ 2 = omega arith in
        names_unique word a b (m.by_name two) (n.by_name two)
