-- Tables walked record by record: the numbers of one, and what is left of the table.
--     record_next                     a record of a table, as one of its arrays, is the front of what is left
--     drop_four, drop_eight           the next numbers of a table
--     items_next, tanks_next          the next item, the next tank
--     Walked                          the walk's invariant,
--     walk_start, -step, -end         which holds from the first record to the last
-- Assumes nothing.
use mathlib.Core.Path.{◌≡◌, refl, sym, ap, ◌∙◌}
use mathlib.Core.List.{List, [], ◌∷◌, ◌++◌}
use Prim.Native.Nat.{ℕ, zero, suc, ◌+◌, ◌*◌, ◌/◌, ◌<◌, ◌≤◌}
use native.Mathlib.Nat.{add_assoc, add-zero, zero-add, mul-add, mul-one, mul-suc}
use native.Mathlib.Omega.{arith}
use lib.IntN.{ℤ, pos}
use lib.ListN.{length, take, drop, get_or, drop_of_length-le, length-append, length-drop, take-append-drop}
use lib.Seq.{drop-drop, length-take-le}
use Rattle.std.specs.Simd.{first_chunks}
use Rattle.ranges.specs.Sizes.{item_width, tank_width}
use Rattle.arithmetic.proofs.Parts.{drop_step}
use Rattle.loading.specs.Private.Aboard.{nothing, ◌with◌, altogether, item_at, tank_at, Reach}
use Rattle.loading.specs.Records.{items_of, tanks_of}
use Rattle.loading.specs.declared.Aboard.{Aboard}
use Rattle.loading.proofs.Reaches.{reach_with}

module _ {A : Type 0} (width : ℕ) where
  record_front : (s : List A) (i count : ℕ) → i < count → get_or (first_chunks width count s) i [] ≡ take width (drop (width * i) s)
  record_front s i zero h = absurd (omega arith)
  record_front s zero (suc count) h =
      let none : 0 ≡ width * 0 = omega arith in ap (λ i. take width (drop i s)) none
  record_front s (suc i) (suc count) h =
      let on : width + width * i ≡ width * suc i = omega (arith, mul-suc width i) in
      record_front (drop width s) i count (omega arith)
      ∙ ap (take width) (drop-drop (width * i) width s ∙ ap (λ i. drop i s) on)

  pub record_next :
      (s : List A) {records : List (List A)} → records ≡ first_chunks width (length s / width) s
      → (i : ℕ) → i < length s / width → width * (i + 1) ≤ length s
      → (drop (width * i) s ≡ get_or records i [] ++ drop (width * (i + 1)) s) × (length (get_or records i []) ≡ width)
  record_next s {records} e i h k =
      let on : width * i + width ≡ width * (i + 1) = omega (arith, mul-add width i 1, mul-one width) in
      let front : get_or records i [] ≡ take width (drop (width * i) s) = rw e (record_front s i (length s / width) h) in
      let left : width ≤ length (drop (width * i) s) = omega (arith, length-drop (width * i) s) in (
        rw front (sym (take-append-drop width (drop (width * i) s)) ∙ ap (λ rest. take width (drop (width * i) s) ++ rest) (drop-drop width (width * i) s ∙ ap (λ i. drop i s) on)),
        ap length front ∙ length-take-le width (drop (width * i) s) left,
      )

module _ {A : Type 0} (s : List A) (d : A) where
  -- place j is the one after place i
  drop_next : (i j : ℕ) → j ≡ i + 1 → i < length s → drop i s ≡ get_or s i d ∷ drop j s
  drop_next i j e h = rw e (drop_step s i d h)

  pub drop_four : (i : ℕ) → i + 4 ≤ length s → drop i s ≡ get_or s i d ∷ get_or s (i + 1) d ∷ get_or s (i + 2) d ∷ get_or s (i + 3) d ∷ drop (i + 4) s
  drop_four i h =
      rw (
        drop_next i (i + 1) refl (omega arith),
        drop_next (i + 1) (i + 2) (omega arith) (omega arith),
        drop_next (i + 2) (i + 3) (omega arith) (omega arith),
        drop_next (i + 3) (i + 4) (omega arith) (omega arith),
      )

  drop_eight : (i : ℕ) → i + 8 ≤ length s → drop i s ≡ get_or s i d ∷ get_or s (i + 1) d ∷ get_or s (i + 2) d ∷ get_or s (i + 3) d ∷ get_or s (i + 4) d ∷ get_or s (i + 5) d ∷ get_or s (i + 6) d ∷ get_or s (i + 7) d ∷ drop (i + 8) s
  drop_eight i h = rw (drop_four i (omega arith), drop_four (i + 4) (omega arith)) (simp add_assoc)

  -- no more than these
  pub four_are : length s ≡ 4 → s ≡ get_or s 0 d ∷ get_or s 1 d ∷ get_or s 2 d ∷ get_or s 3 d ∷ []
  four_are e =
      let none : drop 4 s ≡ [] = (let past : length s ≤ 4 = omega arith in drop_of_length-le s past) in
      drop_four 0 (omega arith) ∙ ap (λ rest. get_or s 0 d ∷ get_or s 1 d ∷ get_or s 2 d ∷ get_or s 3 d ∷ rest) none

  pub eight_are : length s ≡ 8 → s ≡ get_or s 0 d ∷ get_or s 1 d ∷ get_or s 2 d ∷ get_or s 3 d ∷ get_or s 4 d ∷ get_or s 5 d ∷ get_or s 6 d ∷ get_or s 7 d ∷ []
  eight_are e =
      let none : drop 8 s ≡ [] = (let past : length s ≤ 8 = omega arith in drop_of_length-le s past) in
      drop_eight 0 (omega arith)
      ∙ ap (λ rest. get_or s 0 d ∷ get_or s 1 d ∷ get_or s 2 d ∷ get_or s 3 d ∷ get_or s 4 d ∷ get_or s 5 d ∷ get_or s 6 d ∷ get_or s 7 d ∷ rest) none

module _ (numbers rest : List ℤ) where
  pub items_next : length numbers ≡ item_width → items_of (numbers ++ rest) ≡ item_at numbers 0 ∷ items_of rest
  unfolding items_of
  items_next e = ap (λ n. items_of (n ++ rest)) (four_are numbers (pos 0) e)

  pub tanks_next : length numbers ≡ tank_width → tanks_of (numbers ++ rest) ≡ tank_at numbers 0 ∷ tanks_of rest
  unfolding tanks_of
  tanks_next e = ap (λ n. tanks_of (n ++ rest)) (eight_are numbers (pos 0) e)

-- The walk after so many records of a width, with `rest` left of the table: what is left, on top of what was walked, comes to what the whole table
-- comes to; and each record walked has added so much at most.
pub record Walked {A : Type 0} (of : A → Aboard) (recordsOf : List ℤ → List A) (width kg kgmm : ℕ) (table rest : List ℤ) (walked : ℕ) (all : Aboard) : Type 0 where
  pub at : width * walked + length rest ≡ length table
  pub same : all with altogether of (recordsOf rest) ≡ altogether of (recordsOf table)
  pub reach : Reach (kg * walked) (kgmm * walked) all

pub nothing_is : (a : Aboard) → (a.weight ≡ 0) × ((a.longitudinal ≡ 0) × ((a.vertical ≡ 0) × ((a.port ≡ 0) × ((a.starboard ≡ 0) × (a.surface ≡ 0))))) → a ≡ nothing
nothing_is a e =
    let f = e.1 in
    let g = f.1 in
    let h = g.1 in
    let k = h.1 in
    λ i. record { weight = e.0 i; longitudinal = f.0 i; vertical = g.0 i; port = h.0 i; starboard = k.0 i; surface = k.1 i }

module _ {A : Type 0} (of : A → Aboard) (recordsOf : List ℤ → List A) (width kg kgmm : ℕ) (table : List ℤ) where
  pub walk_start : Walked of recordsOf width kg kgmm table table 0 nothing
  walk_start = record { at = omega arith; same = simp zero-add; reach = omega arith }

  -- one record further
  pub walk_step :
      {all next : Aboard} {left : List ℤ} {walked : ℕ} (numbers rest : List ℤ) (one : A)
      → Walked of recordsOf width kg kgmm table left walked all
      → left ≡ numbers ++ rest
      → length numbers ≡ width
      → recordsOf (numbers ++ rest) ≡ one ∷ recordsOf rest
      → Reach kg kgmm (of one)
      → next ≡ all with of one
      → Walked of recordsOf width kg kgmm table rest (walked + 1) next
  unfolding altogether
  walk_step {all} {next} {left} {walked} numbers rest one w l e f r n = record {
    at = omega (arith, w.at, ap length l, length-append numbers rest, mul-add width walked 1);
    same = rw n (sym (simp add_assoc) ∙ rw (l, f) at w.same);
    reach = rw (n, mul-add kg walked 1, mul-one kg, mul-add kgmm walked 1, mul-one kgmm) (reach_with w.reach r);
  }

  pub walk_end : {all : Aboard} {walked : ℕ} {rest : List ℤ} → Walked of recordsOf width kg kgmm table rest walked all → rest ≡ [] → recordsOf [] ≡ [] → all ≡ altogether of (recordsOf table)
  unfolding altogether
  walk_end {all} {walked} {rest} w past e = sym (simp add-zero) ∙ rw (past, e) at w.same
