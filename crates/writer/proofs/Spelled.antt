-- Numbers spelled out in a text, as they are printed.
--     Spells                               a text of numbers, none of more than nine digits, each with a separator after it
--     spells_holds                         it holds the numbers that it spells
--     spells_append                        two such texts, one after the other
--     Short, short_take, short_drop        numbers of nine digits at the most, and parts of them
--     line_spells, lines_spell             a line and the lines of a table spell their numbers
--     Few, short_in_ranges                 ranges whose numbers have nine digits at the most
-- Assumes nothing.
use mathlib.Core.Path.{◌≡◌, refl}
use mathlib.Core.Bool.{true}
use mathlib.Core.List.{List, [], ◌∷◌, ◌++◌, append_assoc}
use Prim.Native.Nat.{ℕ, zero, suc, ◌*◌, ◌^◌, ◌<◌}
use native.Mathlib.Nat.{suc-mul, zero-mul}
use native.Mathlib.Omega.{arith}
use lib.IntN.{ℤ, nat_abs}
use lib.ListN.{length, take, drop, length-take, length-drop, take-append-drop}
use Rattle.numerals.specs.Number.{most_digits, number_of}
use Rattle.numerals.specs.Printed.{printed}
use Rattle.numerals.proofs.Printed.{number_of_printed}
use Rattle.ranges.specs.Fields.{Range, most}
use Rattle.ranges.proofs.Facts.{within_size}
use Rattle.offsets.specs.Tokens.{is_separator, space, line_feed}
use Rattle.offsets.proofs.InRanges.{InRanges, no_more, and_in, Every}
use Rattle.offsets.proofs.Layouts.{Holds, nothing, before}
use Rattle.writer.specs.Written.{line, lines}

pub data Spells : List ℤ → List ℕ → Type 0 where
  empty : Spells [] []
  next : {vs : List ℤ} {text : List ℕ} (v : ℤ) (b : ℕ) → nat_abs v < 10 ^ most_digits → is_separator b ≡ true → Spells vs text → Spells (v ∷ vs) (printed v ++ b ∷ text)

pub spells_holds : {vs : List ℤ} {text : List ℕ} → Spells vs text → Holds is_separator number_of vs text
spells_holds empty = nothing
spells_holds (next v b h e s) = before (number_of_printed v h) e (spells_holds s)

pub spells_append : {vs ws : List ℤ} {a b : List ℕ} → Spells vs a → Spells ws b → Spells (vs ++ ws) (a ++ b)
spells_append empty t = t
spells_append (next v b h e s) t = rw append_assoc (next v b h e (spells_append s t))

-- ---- lines
abbrev pub Short : List ℤ → Type 0
Short [] = Unit
Short (v ∷ vs) = (nat_abs v < 10 ^ most_digits) × Short vs

pub short_take : (n : ℕ) (vs : List ℤ) → Short vs → Short (take n vs)
short_take zero vs h = tt
short_take (suc n) [] h = tt
short_take (suc n) (v ∷ vs) h = (h.0, short_take n vs h.1)

pub short_drop : (n : ℕ) (vs : List ℤ) → Short vs → Short (drop n vs)
short_drop zero vs h = h
short_drop (suc n) [] h = tt
short_drop (suc n) (v ∷ vs) h = short_drop n vs h.1

pub line_spells : (vs : List ℤ) → 0 < length vs → Short vs → Spells vs (line vs)
unfolding line is_separator
line_spells [] some h = absurd (omega arith)
line_spells (v ∷ []) some h = next v line_feed h.0 refl empty
line_spells (v ∷ w ∷ vs) some h = next v space h.0 refl (line_spells (w ∷ vs) (omega arith) h.1)

pub lines_spell : (width k : ℕ) (table : List ℤ) → 0 < width → length table ≡ k * width → Short table → Spells table (lines width k table)
unfolding lines
lines_spell width zero [] some e h = empty
lines_spell width zero (v ∷ vs) some e h = absurd (omega (arith, zero-mul width))
lines_spell width (suc k) table some e h =
    let first : 0 < length (take width table) = rw length-take (omega (arith, suc-mul k width)) in
    let others : length (drop width table) ≡ k * width = rw length-drop (omega (arith, suc-mul k width)) in
    rw take-append-drop at
    (spells_append (line_spells (take width table) first (short_take width table h)) (lines_spell width k (drop width table) some others (short_drop width table h)))

-- a range of numbers of nine digits at the most
abbrev pub Few : Range → Type 0
Few r = most r < 10 ^ most_digits

pub short_in_ranges : {rs : List Range} {vs : List ℤ} → Every Few rs → InRanges rs vs → Short vs
short_in_ranges s no_more = tt
short_in_ranges s (and_in {r = r} {v = v} w i) = (omega (arith, (within_size r v w).1), short_in_ranges s.1 i)
