-- Tables of whole records with every number in range.
--     InRanges                             as many numbers as ranges, and each within its own
--     in_ranges_length, in_ranges_at, in_ranges_of      the same by the places of the numbers
--     length_of_records, records_at        the ranges of so many records, by place
--     in_ranges_of_table, no_number_outside     a table of whole records with no number outside is in its ranges, and the other way
--     Every, every_records                 what holds of every range of a record holds of every range of the records
--     Whole, whole_in_ranges               ranges of whole numbers: each is the signed form of its size
--     hull_again                           so with the particulars
-- Assumes nothing.
use mathlib.Core.Path.{◌≡◌, refl, sym, ap, ap₂, ◌∙◌}
use mathlib.Core.Bool.{true}
use mathlib.Core.Logic.{⊎_elim}
use mathlib.Core.List.{List, [], ◌∷◌, ◌++◌, map}
use Prim.Native.Nat.{ℕ, zero, suc, ◌+◌, ◌-◌, ◌*◌, ◌%◌, ◌≤◌, ◌<◌}
use native.Mathlib.Nat.{suc-mul, zero-mul, mod-eq_of_lt, add-mod_left}
use native.Mathlib.Omega.{arith}
use lib.IntN.{ℤ, pos, nat_abs}
use lib.ListN.{length, get_or, length-append, get_or-append}
use lib.Seq.{get_or-append-add}
use Rattle.arithmetic.proofs.Tests.{less_or_not}
use Rattle.ranges.specs.Fields.{Range, ◌to◌, ±◌, within, particulars_by}
use Rattle.ranges.specs.Limits.{Limits}
use Rattle.ranges.specs.Outside.{first_outside, numbers_of, particulars_of}
use Rattle.ranges.proofs.Facts.{all_within, all_inside, within_positive}
use Rattle.offsets.specs.File.{records}

pub data InRanges : List Range → List ℤ → Type 0 where
  no_more : InRanges [] []
  and_in : {r : Range} {v : ℤ} {rs : List Range} {vs : List ℤ} → within r v ≡ true → InRanges rs vs → InRanges (r ∷ rs) (v ∷ vs)

pub in_ranges_length : {rs : List Range} {vs : List ℤ} → InRanges rs vs → length vs ≡ length rs
in_ranges_length no_more = refl
in_ranges_length (and_in w i) = ap suc (in_ranges_length i)

pub in_ranges_at : {rs : List Range} {vs : List ℤ} → InRanges rs vs → (k : ℕ) → k < length vs → within (get_or rs k (1 to 0)) (get_or vs k (pos 0)) ≡ true
in_ranges_at no_more k h = absurd (omega arith)
in_ranges_at (and_in w i) zero h = w
in_ranges_at (and_in w i) (suc k) h = in_ranges_at i k (omega arith)

pub in_ranges_of : (rs : List Range) (vs : List ℤ) → length vs ≡ length rs → ((k : ℕ) → k < length vs → within (get_or rs k (1 to 0)) (get_or vs k (pos 0)) ≡ true) → InRanges rs vs
in_ranges_of [] [] e h = no_more
in_ranges_of [] (v ∷ vs) e h = absurd (omega arith)
in_ranges_of (r ∷ rs) [] e h = absurd (omega arith)
in_ranges_of (r ∷ rs) (v ∷ vs) e h = and_in (h zero (omega arith)) (in_ranges_of rs vs (omega arith) (λ k l. h (suc k) (omega arith)))

-- ---- whole records
pub length_of_records : (k : ℕ) (section : List Range) → length (records k section) ≡ k * length section
unfolding records
length_of_records zero section = sym (zero-mul (length section))
length_of_records (suc k) section =
    length-append section (records k section) ∙ omega (arith, suc-mul k (length section), length_of_records k section)

-- a record's ranges, before more records
records_step : (section more : List Range) → ((j : ℕ) → j < length more → get_or more j (1 to 0) ≡ get_or section (j % length section) (1 to 0))
    → (i : ℕ) → i < length section + length more → get_or (section ++ more) i (1 to 0) ≡ get_or section (i % length section) (1 to 0)
records_step section more h i l = ⊎_elim here beyond (less_or_not i (length section))
  where
    here : i < length section → get_or (section ++ more) i (1 to 0) ≡ get_or section (i % length section) (1 to 0)
    here k = get_or-append section more (1 to 0) i k ∙ ap (λ j. get_or section j (1 to 0)) (sym (mod-eq_of_lt k))

    beyond : length section ≤ i → get_or (section ++ more) i (1 to 0) ≡ get_or section (i % length section) (1 to 0)
    beyond k =
        let on : length section + (i - length section) ≡ i = omega arith in
        ap (λ j. get_or (section ++ more) j (1 to 0)) (sym on) ∙ get_or-append-add section more (i - length section) (1 to 0) ∙ h (i - length section) (omega arith)
        ∙ ap (λ j. get_or section j (1 to 0)) (sym (add-mod_left (length section) (i - length section)) ∙ ap (λ j. j % length section) on)

pub records_at : (k : ℕ) (section : List Range) (i : ℕ) → i < length (records k section) → get_or (records k section) i (1 to 0) ≡ get_or section (i % length section) (1 to 0)
unfolding records
records_at zero section i h = absurd (omega arith)
records_at (suc k) section i h =
    records_step section (records k section) (records_at k section) i (omega (arith, length-append section (records k section)))

-- ---- no number outside
module _ (k : ℕ) (section : List Range) (table : List ℤ) where
  pub in_ranges_of_table : length table ≡ k * length section → length table ≤ first_outside section table → InRanges (records k section) table
  in_ranges_of_table e h =
      let whole : length table ≡ length (records k section) = e ∙ sym (length_of_records k section) in
      in_ranges_of (records k section) table whole (λ i l. rw (records_at k section i (omega arith)) (all_within section table h i l))

  pub no_number_outside : InRanges (records k section) table → first_outside section table ≡ length table
  no_number_outside r =
      let whole = in_ranges_length r in
      all_inside section table (λ i l. rw (records_at k section i (omega arith)) at (in_ranges_at r i l))

-- ---- what holds of every range
abbrev pub Every : (Range → Type 0) → List Range → Type 0
Every P [] = Unit
Every P (r ∷ rs) = P r × Every P rs

every_append : (P : Range → Type 0) (rs qs : List Range) → Every P rs → Every P qs → Every P (rs ++ qs)
every_append P [] qs h k = k
every_append P (r ∷ rs) qs h k = (h.0, every_append P rs qs h.1 k)

pub every_records : (P : Range → Type 0) (k : ℕ) (section : List Range) → Every P section → Every P (records k section)
unfolding records
every_records P zero section h = tt
every_records P (suc k) section h = every_append P section (records k section) h (every_records P k section h)

-- a range of whole numbers
abbrev pub Whole : Range → Type 0
Whole (a to b) = Unit
Whole (± b) = ⊥

positive_in : (r : Range) (v : ℤ) → Whole r → within r v ≡ true → pos (nat_abs v) ≡ v
positive_in (a to b) v w e = within_positive a b v e
positive_in (± b) v w e = absurd w

pub whole_in_ranges : {rs : List Range} {vs : List ℤ} → Every Whole rs → InRanges rs vs → map pos (map nat_abs vs) ≡ vs
whole_in_ranges h no_more = refl
whole_in_ranges h (and_in {r = r} {v = v} w i) = ap₂ ◌∷◌ (positive_in r v h.0 w) (whole_in_ranges h.1 i)

-- the particulars that five numbers make have those numbers
pub hull_again : (allowed : Limits) {hull : List ℤ} → InRanges (particulars_by allowed) hull → numbers_of (particulars_of hull) ≡ hull
hull_again allowed (and_in a (and_in b (and_in c (and_in d (and_in e no_more))))) =
    whole_in_ranges (tt, (tt, (tt, (tt, (tt, tt))))) (and_in a (and_in b (and_in c (and_in d (and_in e no_more)))))
