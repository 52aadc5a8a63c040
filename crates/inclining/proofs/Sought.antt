-- The first number outside of a table, sought record by record.
--     from_record                     counted from the start of a record, it stands as far on as from the first
--     record_passed, record_stops     a record, and what follows it: none of its numbers is outside, or one is
--     Sought, sought_start            the walk over the shifts: what is left has it where the whole table has it
--     sought_next, sought_here        a shift: none of its numbers is outside, or one is,
--     sought_fits                     which stands in the table
--     left_over, sought_left          no whole shift is left: how many numbers are, and which of them is outside
--     shift_told, no_shift_told       the place as the code answers it
-- Assumes nothing.
use mathlib.Core.Path.{◌≡◌, refl, sym, ap, ◌∙◌}
use mathlib.Core.List.{List, [], ◌∷◌, ◌++◌, map}
use Prim.Native.Nat.{ℕ, suc, ◌+◌, ◌*◌, ◌/◌, ◌%◌, ◌≤◌, ◌<◌}
use native.Mathlib.Nat.{add-zero}
use native.Mathlib.Omega.{arith}
use lib.IntN.{ℤ, pos}
use lib.ListN.{length, drop, get_or, length-map, length-drop}
use Rattle.std.specs.Prelude.{Some, None}
use Rattle.std.specs.Simd.{first_chunks}
use Rattle.std.proofs.Math.Nat.{mul-add-mod_self_left}
use Rattle.std.proofs.lemmas.List.{map-append}
use Rattle.arithmetic.proofs.Choice.{chosen}
use Rattle.arithmetic.proofs.Tests.{by_test}
use Rattle.ranges.specs.Fields.{Range, ◌to◌, within, shift}
use Rattle.ranges.specs.Bounds.{place_in}
use Rattle.ranges.specs.Outside.{outside_from, first_outside}
use Rattle.ranges.specs.Sizes.{shift_width}
use Rattle.ranges.proofs.Outside.{place_some, place_none}
use Rattle.loading.proofs.Walks.{record_next}

-- ---- counted from the start of a record
module _ (section : List Range) where
  records_on : (i place : ℕ) (table : List ℤ) → outside_from section (length section * i + place) table ≡ length section * i + outside_from section place table
  unfolding outside_from
  records_on i place [] = refl
  records_on i place (v ∷ rest) =
      by_test (within (get_or section (place % length section) (1 to 0)) v)
      (λ t. let next : length section * i + place + 1 ≡ length section * i + (place + 1) = omega arith in
      simp (mul-add-mod_self_left (length section) i place, t, chosen) (ap (λ k. outside_from section k rest) next ∙ records_on i (place + 1) rest))
      (λ t. simp (mul-add-mod_self_left (length section) i place, t, chosen))

  pub from_record : (i : ℕ) (table : List ℤ) → outside_from section (length section * i) table ≡ length section * i + first_outside section table
  unfolding first_outside
  from_record i table = ap (λ k. outside_from section k table) (sym (add-zero (length section * i))) ∙ records_on i 0 table

  -- ---- a table, and what follows it
  passed : (place : ℕ) (front rest : List ℤ) → place + length front ≤ outside_from section place front → outside_from section place (front ++ rest) ≡ outside_from section (place + length front) rest
  unfolding outside_from
  passed place [] rest h = ap (λ k. outside_from section k rest) (sym (add-zero place))
  passed place (v ∷ front) rest h =
      by_test (within (get_or section (place % length section) (1 to 0)) v)
      (λ t. let on : place + 1 + length front ≡ place + suc (length front) = omega arith in
      simp (t, chosen) (passed (place + 1) front rest (rw on (simp (t, chosen) at h)) ∙ ap (λ k. outside_from section k rest) on))
      (λ t. let past : place + suc (length front) ≤ place = simp (t, chosen) at h in absurd (omega arith))

  stops : (place : ℕ) (front rest : List ℤ) → outside_from section place front < place + length front → outside_from section place (front ++ rest) ≡ outside_from section place front
  unfolding outside_from
  stops place [] rest h = absurd (omega arith)
  stops place (v ∷ front) rest h =
      by_test (within (get_or section (place % length section) (1 to 0)) v)
      (λ t. let on : place + 1 + length front ≡ place + suc (length front) = omega arith in
      simp (t, chosen) (stops (place + 1) front rest (rw on (simp (t, chosen) at h))))
      (λ t. simp (t, chosen))

  module _ (front rest : List ℤ) (one : length front ≡ length section) (i : ℕ) where
    pub record_passed : length front ≤ first_outside section front → outside_from section (length section * i) (front ++ rest) ≡ outside_from section (length section * i + length section) rest
    record_passed h =
        passed (length section * i) front rest (omega (arith, from_record i front))
        ∙ ap (λ k. outside_from section (length section * i + k) rest) one

    pub record_stops : first_outside section front < length front → outside_from section (length section * i) (front ++ rest) ≡ length section * i + first_outside section front
    record_stops h = stops (length section * i) front rest (omega (arith, from_record i front)) ∙ from_record i front

-- ---- the walk over the shifts
module _ (s : List ℕ) where
  abbrev pub Sought : ℕ → Type 0
  Sought i = outside_from shift (shift_width * i) (map pos (drop (shift_width * i) s)) ≡ first_outside shift (map pos s)

  pub sought_start : Sought 0
  unfolding first_outside
  sought_start = refl

  module _ {i : ℕ} (so_far : Sought i) where
    module _ {records : List (List ℕ)} (are : records ≡ first_chunks shift_width (length s / shift_width) s) (more : i < length s / shift_width) where
      abbrev numbers : List ℕ
      numbers = get_or records i []

      next : (drop (shift_width * i) s ≡ numbers ++ drop (shift_width * (i + 1)) s) × (length numbers ≡ shift_width)
      next = record_next shift_width s are i more (omega arith)

      three : length (map pos numbers) ≡ shift_width
      three = length-map numbers pos ∙ next.1

      apart : outside_from shift (shift_width * i) (map pos numbers ++ map pos (drop (shift_width * (i + 1)) s)) ≡ first_outside shift (map pos s)
      apart =
          ap (outside_from shift (shift_width * i)) (sym (ap (map pos) next.0 ∙ map-append pos numbers (drop (shift_width * (i + 1)) s)))
          ∙ so_far

      pub sought_next : length numbers ≤ first_outside shift (map pos numbers) → Sought (i + 1)
      sought_next h =
          let on : shift_width * (i + 1) ≡ shift_width * i + shift_width = omega arith in
          ap (λ k. outside_from shift k (map pos (drop (shift_width * (i + 1)) s))) on
          ∙ sym (record_passed shift (map pos numbers) (map pos (drop (shift_width * (i + 1)) s)) three i (omega (arith, length-map numbers pos)))
          ∙ apart

      module _ (h : first_outside shift (map pos numbers) < length numbers) where
        pub sought_fits : shift_width * i + first_outside shift (map pos numbers) < length s
        sought_fits = omega (arith, next.1)

        pub sought_here : first_outside shift (map pos s) ≡ shift_width * i + first_outside shift (map pos numbers)
        sought_here =
            sym apart
            ∙ record_stops shift (map pos numbers) (map pos (drop (shift_width * (i + 1)) s)) three i (omega (arith, length-map numbers pos))

    -- no whole shift is left
    module _ (all : i ≡ length s / shift_width) (rest : List ℕ) (left : rest ≡ drop (length s / shift_width * shift_width) s) where
      rest_is : rest ≡ drop (shift_width * i) s
      rest_is =
          let on : length s / shift_width * shift_width ≡ shift_width * i = omega arith in left ∙ ap (λ k. drop k s) on

      pub left_over : shift_width * i + length rest ≡ length s
      left_over = omega (arith, ap length rest_is, length-drop (shift_width * i) s)

      pub sought_left : first_outside shift (map pos s) ≡ shift_width * i + first_outside shift (map pos rest)
      sought_left =
          sym so_far ∙ ap (λ r. outside_from shift (shift_width * i) (map pos r)) (sym rest_is) ∙ from_record shift i (map pos rest)

  -- the place as the code answers it
  pub shift_told : {place : ℕ} → place ≡ first_outside shift (map pos s) → place < length s → Some place ≡ place_in (length s) (first_outside shift (map pos s))
  shift_told e l = ap Some e ∙ sym (place_some (omega (arith, e)))

  pub no_shift_told : length s ≤ first_outside shift (map pos s) → None ≡ place_in (length s) (first_outside shift (map pos s))
  no_shift_told h = sym (place_none h)
