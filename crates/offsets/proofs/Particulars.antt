-- The particulars as they are read: five numbers in range, and where s stands if their hull is too long.
--     place_read                                after numbers that were read, the place of the token by its number
--     hull_refused, hull_long, hull_short       what numbers that were read, or refused, make of the particulars
--     hull_wholes, hull_named                   the numbers of particulars are whole, and those of the particulars that they make
--     hull_fits                                 n and m are not above the greatest
--     refused_before                            a file whose particulars are refused before their length is tried
--     refused_at_spacing                        a file that begins with five particulars in range, of a hull that is too long
-- Assumes nothing.
use mathlib.Core.Path.{◌≡◌, refl, sym, ap, ◌∙◌}
use mathlib.Core.Bool.{true, false}
use mathlib.Core.List.{List, [], ◌∷◌, map}
use Prim.Native.Nat.{ℕ, zero, suc, ◌≤◌, ◌<◌}
use native.Mathlib.Omega.{arith}
use lib.IntN.{ℤ, pos, nat_abs}
use lib.ListN.{length, get_or}
use Rattle.std.specs.Prelude.{Some}
use Rattle.arithmetic.specs.Choice.{when◌then◌else◌}
use Rattle.arithmetic.proofs.Choice.{chosen}
use Rattle.ranges.specs.Fields.{Range, most, range_of, particulars, spacing}
use Rattle.ranges.specs.Limits.{limits}
use Rattle.ranges.specs.Outcome.{answered, refused, and_then}
use Rattle.ranges.specs.Outside.{first_outside, numbers_of, particulars_of, too_long}
use Rattle.ranges.specs.Refusals.{out_of_range}
use Rattle.ranges.specs.declared.Particulars.{Particulars}
use Rattle.ranges.proofs.Facts.{all_within, whole_within}
use Rattle.ranges.proofs.Outcomes.{refused_not, answer_same, was_passed, answered_then}
use Rattle.offsets.specs.File.{hull_by, file_by, file}
use Rattle.offsets.specs.Reading.{one, numbers}
use Rattle.offsets.specs.Reading as Reading
use Rattle.offsets.specs.Private.Steps.{place_after}
use Rattle.offsets.specs.Tokens.{Token, number, no_number, place_of}
use Rattle.offsets.proofs.InRanges.{whole_in_ranges, hull_again}
use Rattle.offsets.proofs.Sound.{hull_most}
use Rattle.offsets.proofs.Within.{numbers_within, hull_within}

-- numbers that were read stand at the front of the tokens
pub place_read : (end len k : ℕ) (rs : List Range) (ts : List Token) {vs : List ℤ} {rest : List Token} → k < length rs → numbers len rs ts ≡ answered (vs, rest) → place_after k ts ≡ Some (place_of (get_or ts k (no_number end)))
unfolding place_after numbers one
place_read end len k [] ts l e = absurd (omega arith)
place_read end len k (r ∷ rs) [] l e = refused_not (answered_then e).1
place_read end len k (r ∷ rs) (no_number place ∷ ts) l e = refused_not (answered_then e).1
place_read end len zero (r ∷ rs) (number place v ∷ ts) l e = refl
place_read end len (suc k) (r ∷ rs) (number place v ∷ ts) l e =
    let o = answered_then e in
    let left : o.0.1 ≡ ts = sym (ap (λ read. read.1) (answer_same (was_passed out_of_range place o.1).1)) in
    place_read end len k rs ts (omega arith) (ap (numbers len rs) (sym left) ∙ (answered_then o.2).1)

-- ---- the particulars
module _ (len : ℕ) (ts : List Token) where
  pub hull_refused : {why place : ℕ} → numbers len particulars ts ≡ refused why place → hull_by len limits ts ≡ refused why place
  unfolding hull_by and_then
  hull_refused e = rw e

  module _ (hull : List ℤ) {rest : List Token} (read : numbers len particulars ts ≡ answered (hull, rest)) where
    pub hull_long : too_long limits (particulars_of hull) ≡ true → hull_by len limits ts ≡ refused out_of_range (place_of (get_or ts spacing (no_number len)))
    unfolding hull_by and_then
    hull_long long = rw (read, long) (simp chosen)

    pub hull_short : too_long limits (particulars_of hull) ≡ false → hull_by len limits ts ≡ answered (hull, rest)
    unfolding hull_by and_then
    hull_short short = rw (read, short) (simp chosen)

    pub hull_wholes : map pos (map nat_abs hull) ≡ hull
    hull_wholes = whole_in_ranges (tt, (tt, (tt, (tt, (tt, tt))))) (numbers_within len particulars ts read)

    pub hull_named : numbers_of (particulars_of hull) ≡ hull
    hull_named = hull_again limits (numbers_within len particulars ts read)

  pub hull_fits : (p : Particulars) {rest : List Token} → hull_by len limits ts ≡ answered (numbers_of p, rest) → (p.n ≤ most (range_of 0)) × (p.m ≤ most (range_of 1))
  hull_fits p e = hull_most (numbers_within len particulars ts (hull_within len limits ts e).0)

pub refused_before : (len : ℕ) {ts rest : List Token} {count why place : ℕ} → ts ≡ number count (pos (length particulars)) ∷ rest → numbers len particulars rest ≡ refused why place → file len ts ≡ refused why place
unfolding file_by hull_by Reading.count one and_then when◌then◌else◌
refused_before len e r = rw (e, whole_within (length particulars) (length particulars) (length particulars) (omega arith, omega arith), r)

pub refused_at_spacing : (len : ℕ) (p : Particulars) {ts : List Token} {count n m s d density : ℕ} {rest : List Token}
    → ts ≡ number count (pos (length particulars)) ∷ number n (pos p.n) ∷ number m (pos p.m) ∷ number s (pos p.s) ∷ number d (pos p.d) ∷ number density (pos p.density) ∷ rest
    → length particulars ≤ first_outside particulars (numbers_of p) → too_long limits p ≡ true → file len ts ≡ refused out_of_range s
unfolding file_by hull_by Reading.count numbers one and_then when◌then◌else◌
refused_at_spacing len p e is_in_range long =
    let at = all_within particulars (numbers_of p) is_in_range in
    rw (e, whole_within (length particulars) (length particulars) (length particulars) (omega arith, omega arith), at 0 (omega arith), at 1 (omega arith), at 2 (omega arith), at 3 (omega arith), at 4 (omega arith), long)
