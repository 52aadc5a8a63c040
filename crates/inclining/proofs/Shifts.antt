-- The shifts of a table, one after another.
--     shifts_next                                   the next shift
--     shift_count_is                                   how many there are
--     shift_of_record                               the shift at a place, as the code reads it: a record of three numbers
--     Every, each_in_range                          what holds of each of them: its numbers are in range
--     heeling_one, heeling_in_range                 what they come to is in range, of one and of all
--     Heeled, heeled_none, heeled_more, heeled_all  the walk that adds them up
--     gm_one, own_length, own_at                    a shift's own GM, how many there are, and each by its number
--     Left, left_none, left_more, left_all          the walk that leaves each one's GM
-- Assumes nothing.
use mathlib.Core.Path.{◌≡◌, refl, sym, ap, ap₂, subst, ◌∙◌}
use mathlib.Core.List.{List, [], ◌∷◌, map}
use Prim.{Unit}
use Prim.Native.Nat.{ℕ, zero, suc, ◌+◌, ◌*◌, ◌/◌, ◌%◌, ◌≤◌, ◌<◌}
use native.Mathlib.Nat.{add-zero, mul-le-mul}
use native.Mathlib.Omega.{arith}
use lib.IntN.{pos}
use lib.ListN.{length, drop, get_or, set, length-map, drop_of_length-le, get_or-append}
use lib.Seq.{get_or-drop}
use Rattle.std.specs.Simd.{first_chunks}
use Rattle.arithmetic.proofs.Parts.{drop_step, Stored, stored_none, stored_more, stored_all}
use Rattle.ranges.specs.Fields.{most, shift, shift_weight, shift_distance, shift_deflection}
use Rattle.ranges.specs.Outside.{first_outside}
use Rattle.ranges.specs.Sizes.{shift_width}
use Rattle.ranges.proofs.Facts.{all_within, within_whole}
use Rattle.ranges.proofs.Records.{parts_inside}
use Rattle.loading.specs.Total.{total}
use Rattle.loading.proofs.Walks.{record_next}
use Rattle.inclining.specs.Measured.{Shift, shifts_of, unrounded_gm, gm_measured, own_gms}
use Rattle.inclining.specs.Private.Heeling.{heeling_by, heeling_of, shift_at, gm_by, laid_over, ShiftInRange, ShiftsInRange, HeelingInRange, most_moment, most_deflection}
use Rattle.inclining.specs.declared.Test.{Test}

-- ---- one after another
pub shifts_next : (s : List ℕ) (i : ℕ) → i + shift_width ≤ length s → shifts_of (drop i s) ≡ shift_at s i ∷ shifts_of (drop (i + shift_width) s)
unfolding shifts_of
shifts_next s i h = ap shifts_of three
  where
    next : (i j : ℕ) → j ≡ i + 1 → i < length s → drop i s ≡ get_or s i 0 ∷ drop j s
    next i j e h = rw e (drop_step s i 0 h)

    three : drop i s ≡ get_or s i 0 ∷ get_or s (i + 1) 0 ∷ get_or s (i + 2) 0 ∷ drop (i + 3) s
    three = rw (next i (i + 1) refl (omega arith), next (i + 1) (i + 2) (omega arith) (omega arith), next (i + 2) (i + 3) (omega arith) (omega arith))

pub shift_count_is : (s : List ℕ) → length (shifts_of s) ≡ length s / shift_width
unfolding shifts_of
shift_count_is (weight ∷ distance ∷ deflection ∷ rest) = omega (arith, shift_count_is rest)
shift_count_is (weight ∷ distance ∷ []) = refl
shift_count_is (weight ∷ []) = refl
shift_count_is [] = refl

module _ (s : List ℕ) (i : ℕ) where
  same_shift : (a : List ℕ) (k : ℕ) → get_or a k 0 ≡ get_or s i 0 → get_or a (k + 1) 0 ≡ get_or s (i + 1) 0 → get_or a (k + 2) 0 ≡ get_or s (i + 2) 0 → shift_at a k ≡ shift_at s i
  same_shift a k w d f = λ j. record { weight = w j; distance = d j; deflection = f j }

pub shift_of_record : (s : List ℕ) {records : List (List ℕ)} → records ≡ first_chunks shift_width (length s / shift_width) s → (i : ℕ) → i < length s / shift_width → shift_at (get_or records i []) 0 ≡ shift_at s (shift_width * i)
shift_of_record s {records} e i h =
    let none : shift_width * i + 0 ≡ shift_width * i = omega arith in
    same_shift s (shift_width * i) numbers 0 (at 0 (omega arith) ∙ ap (λ j. get_or s j 0) none) (at 1 (omega arith)) (at 2 (omega arith))
  where
    numbers : List ℕ
    numbers = get_or records i []

    at : (k : ℕ) → k < shift_width → get_or numbers k 0 ≡ get_or s (shift_width * i + k) 0
    at k l =
        let next = record_next shift_width s e i h (omega arith) in
        sym (get_or-append numbers (drop (shift_width * (i + 1)) s) 0 k (omega (arith, next.1)))
        ∙ ap (λ rest. get_or rest k 0) (sym next.0)
        ∙ get_or-drop (shift_width * i) s k 0

-- ---- each in range
abbrev pub Every : (Shift → Type 0) → List Shift → Type 0
Every P [] = Unit {0}
Every P (s ∷ shifts) = P s × Every P shifts

pub each_in_range : (s : List ℕ) → length s ≤ first_outside shift (map pos s) → Every ShiftInRange (shifts_of s)
unfolding shifts_of
each_in_range (weight ∷ distance ∷ deflection ∷ rest) inside =
    let parts = parts_inside shift (pos weight ∷ pos distance ∷ pos deflection ∷ []) (map pos rest) refl (omega (arith, length-map rest pos)) in
    let at = all_within shift (pos weight ∷ pos distance ∷ pos deflection ∷ []) (omega (arith, parts.0)) in
    let d = within_whole shift_deflection deflection (at 2 (omega arith)) in (
      record { weight_most = (within_whole shift_weight weight (at 0 (omega arith))).1; distance_most = (within_whole shift_distance distance (at 1 (omega arith))).1; deflection_least = d.0; deflection_most = d.1 },
      each_in_range rest (omega (arith, parts.1, length-map rest pos)),
    )
each_in_range (weight ∷ distance ∷ []) inside = _
each_in_range (weight ∷ []) inside = _
each_in_range [] inside = _

-- ---- what they come to
pub heeling_one : (s : Shift) → ShiftInRange s → HeelingInRange (heeling_of s)
heeling_one s so = record {
  moment_most = omega (arith, mul-le-mul so.weight_most so.distance_most);
  deflection_least = so.deflection_least;
  deflection_most = omega (arith, so.deflection_most);
}

all_most : (shifts : List Shift) → Every ShiftInRange shifts → ((heeling_by shifts).moment ≤ length shifts * (most shift_weight * most shift_distance)) × (length shifts ≤ (heeling_by shifts).deflection) × ((heeling_by shifts).deflection ≤ length shifts * most shift_deflection)
unfolding total
all_most [] so = (omega arith, omega arith, omega arith)
all_most (s ∷ shifts) so =
    let rest = all_most shifts so.1 in (
      omega (arith, rest.0, mul-le-mul so.0.weight_most so.0.distance_most),
      omega (arith, rest.1, so.0.deflection_least),
      omega (arith, rest.2, so.0.deflection_most),
    )

pub heeling_in_range : (s : List ℕ) → ShiftsInRange s → HeelingInRange (heeling_by (shifts_of s))
heeling_in_range s so =
    let all = all_most (shifts_of s) (each_in_range s (omega (arith, so.is_in_range))) in
    let count = shift_count_is s in
    record {
      moment_most = omega (arith, all.0, count, so.few);
      deflection_least = omega (arith, all.1, count, so.some);
      deflection_most = omega (arith, all.2, count, so.few);
    }

-- ---- adding them up: what is left of the table, on top of what was walked, comes to what the whole table comes to
pub record Heeled (s : List ℕ) (i moment deflection : ℕ) : Type 0 where
  pub start : i % shift_width ≡ 0
  pub in_table : i ≤ length s
  pub rest : Every ShiftInRange (shifts_of (drop i s))
  pub moment_is : moment + (heeling_by (shifts_of (drop i s))).moment ≡ (heeling_by (shifts_of s)).moment
  pub deflection_is : deflection + (heeling_by (shifts_of (drop i s))).deflection ≡ (heeling_by (shifts_of s)).deflection

module _ (s : List ℕ) (so : ShiftsInRange s) where
  pub heeled_none : Heeled s 0 0 0
  heeled_none = record {
    start = refl;
    in_table = omega arith;
    rest = each_in_range s (omega (arith, so.is_in_range));
    moment_is = omega arith;
    deflection_is = omega arith;
  }

  module _ {i moment deflection : ℕ} (w : Heeled s i moment deflection) where
    module _ (more : i < length s) where
      pub whole_shift : i + shift_width ≤ length s
      whole_shift = omega (arith, w.start, so.whole)

      next : Every ShiftInRange (shift_at s i ∷ shifts_of (drop (i + shift_width) s))
      next = subst (Every ShiftInRange) (shifts_next s i whole_shift) w.rest

      pub here_in_range : ShiftInRange (shift_at s i)
      here_in_range = next.0

      here_moment : moment + ((heeling_of (shift_at s i)).moment + (heeling_by (shifts_of (drop (i + shift_width) s))).moment) ≡ (heeling_by (shifts_of s)).moment
      unfolding total
      here_moment = ap (λ shifts. moment + (heeling_by shifts).moment) (sym (shifts_next s i whole_shift)) ∙ w.moment_is

      here_deflection : deflection + ((heeling_of (shift_at s i)).deflection + (heeling_by (shifts_of (drop (i + shift_width) s))).deflection) ≡ (heeling_by (shifts_of s)).deflection
      unfolding total
      here_deflection = ap (λ shifts. deflection + (heeling_by shifts).deflection) (sym (shifts_next s i whole_shift)) ∙ w.deflection_is

      pub moment_fits : moment + (heeling_of (shift_at s i)).moment ≤ most_moment
      moment_fits = omega (arith, here_moment, (heeling_in_range s so).moment_most)

      pub deflection_fits : deflection + (heeling_of (shift_at s i)).deflection ≤ most_deflection
      deflection_fits = omega (arith, here_deflection, (heeling_in_range s so).deflection_most)

      pub heeled_more : Heeled s (i + shift_width) (moment + (heeling_of (shift_at s i)).moment) (deflection + (heeling_of (shift_at s i)).deflection)
      heeled_more = record {
        start = omega (arith, w.start);
        in_table = whole_shift;
        rest = next.1;
        moment_is = omega (arith, here_moment);
        deflection_is = omega (arith, here_deflection);
      }

    pub heeled_all : length s ≤ i → record { moment = moment; deflection = deflection } ≡ heeling_by (shifts_of s)
    unfolding shifts_of total
    heeled_all h =
        let none = drop_of_length-le s h in
        ap₂ (λ m d. record { moment = m; deflection = d })
        (sym (add-zero moment) ∙ ap (λ r. moment + (heeling_by (shifts_of r)).moment) (sym none) ∙ w.moment_is)
        (sym (add-zero deflection) ∙ ap (λ r. deflection + (heeling_by (shifts_of r)).deflection) (sym none) ∙ w.deflection_is)

-- ---- each one's own GM
pub gm_one : (test : Test) (s : Shift) → gm_by test (heeling_of s) ≡ gm_measured test (s ∷ [])
unfolding gm_measured unrounded_gm total
gm_one test s = ap₂ (λ m d. m * test.pendulum / (test.weight * d)) (sym (add-zero _)) (sym (add-zero _))

pub own_length : (test : Test) (s : List ℕ) → length (own_gms test (shifts_of s)) ≡ length s / shift_width
unfolding own_gms
own_length test s = length-map (shifts_of s) (λ one. gm_measured test (one ∷ [])) ∙ shift_count_is s

-- those of the shifts from one on
own_rest : (test : Test) (s : List ℕ) (i : ℕ) → shift_width * i ≤ length s → drop i (own_gms test (shifts_of s)) ≡ own_gms test (shifts_of (drop (shift_width * i) s))
unfolding own_gms shifts_of
own_rest test s zero h = refl
own_rest test (weight ∷ distance ∷ deflection ∷ rest) (suc i) h =
    let on : shift_width * suc i ≡ suc (suc (suc (shift_width * i))) = omega arith in
    own_rest test rest i (omega arith) ∙ ap (λ k. own_gms test (shifts_of (drop k (weight ∷ distance ∷ deflection ∷ rest)))) (sym on)
own_rest test (weight ∷ distance ∷ []) (suc i) h = absurd (omega arith)
own_rest test (weight ∷ []) (suc i) h = absurd (omega arith)
own_rest test [] (suc i) h = absurd (omega arith)

pub own_at : (test : Test) (s : List ℕ) (i : ℕ) → i < length s / shift_width → get_or (own_gms test (shifts_of s)) i 0 ≡ gm_measured test (shift_at s (shift_width * i) ∷ [])
unfolding own_gms
own_at test s i h =
    ap (λ l. get_or l 0 0)
    (sym (drop_step (own_gms test (shifts_of s)) i 0 (omega (arith, own_length test s))) ∙ own_rest test s i (omega arith) ∙ ap (own_gms test) (shifts_next s (shift_width * i) (omega arith)))

-- leaving them in a table: it is filled so far, and beyond that as it was
module _ (test : Test) (s was : List ℕ) where
  abbrev own : List ℕ
  own = own_gms test (shifts_of s)

  pub record Left (gms : List ℕ) (i : ℕ) : Type 0 where
    pub in_table : shift_width * i ≤ length s
    pub rest : Every ShiftInRange (shifts_of (drop (shift_width * i) s))
    pub stored : Stored own was gms i

  module _ (so : ShiftsInRange s) where
    pub left_none : Left was 0
    left_none = record { in_table = omega arith; rest = each_in_range s (omega (arith, so.is_in_range)); stored = stored_none own was }

    module _ (room : length s / shift_width ≤ length was) {gms : List ℕ} {i : ℕ} (w : Left gms i) where
      module _ (more : i < length s / shift_width) where
        pub whole_there : shift_width * i + shift_width ≤ length s
        whole_there = omega arith

        there : Every ShiftInRange (shift_at s (shift_width * i) ∷ shifts_of (drop (shift_width * i + shift_width) s))
        there = subst (Every ShiftInRange) (shifts_next s (shift_width * i) whole_there) w.rest

        pub there_in_range : ShiftInRange (shift_at s (shift_width * i))
        there_in_range = there.0

        on : shift_width * i + shift_width ≡ shift_width * (i + 1)
        on = omega arith

        pub left_more : {v : ℕ} → v ≡ gm_by test (heeling_of (shift_at s (shift_width * i))) → Left (set gms i v) (i + 1)
        left_more {v} e =
            let next : v ≡ get_or own i 0 = e ∙ gm_one test (shift_at s (shift_width * i)) ∙ sym (own_at test s i more) in
            record {
              in_table = omega arith;
              rest = subst (λ k. Every ShiftInRange (shifts_of (drop k s))) on there.1;
              stored = stored_more own was w.stored (omega (arith, own_length test s)) (omega arith) 0 next;
            }

      pub left_all : i ≡ length s / shift_width → gms ≡ laid_over own was
      left_all e = stored_all own was w.stored (e ∙ sym (own_length test s))
