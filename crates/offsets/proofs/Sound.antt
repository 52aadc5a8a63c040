-- Contents that a file can say: those of every file that is read, and of every file that is written.
--     Sound                     each number in its range, no hull too long, and no more items and tanks than allowed
--     hull_most, points_most, points_le      no hull has more stations, waterlines or points than there is room for
--     numbers_in                 the numbers of a file of these contents, in their order
--     file_of_said              tokens that say them are read as these contents
-- Assumes nothing.
use mathlib.Core.Path.{◌≡◌, refl, ◌∙◌}
use mathlib.Core.Bool.{true, false}
use mathlib.Core.List.{List, [], ◌∷◌, ◌++◌, append-nil}
use Prim.Native.Nat.{ℕ, ◌+◌, ◌*◌, ◌/◌, ◌≤◌}
use native.Mathlib.Nat.{mul-one, mul-le-mul}
use native.Mathlib.Omega.{arith}
use lib.Dec.{lit≤}
use lib.IntN.{ℤ, pos, nat_abs}
use lib.ListN.{length, get_or}
use Rattle.arithmetic.proofs.Choice.{chosen}
use Rattle.ranges.specs.Fields.{Range, ◌to◌, most, range_of, within, particulars, half_breadth, item, tank}
use Rattle.ranges.specs.Limits.{limits}
use Rattle.ranges.specs.Outcome.{Outcome, answered, and_then}
use Rattle.ranges.specs.Outside.{particulars_of, too_long}
use Rattle.ranges.specs.Refusals.{count_not_allowed, out_of_range}
use Rattle.ranges.specs.Sizes.{points_of, item_width, tank_width, room_for_half_breadths, most_items, most_tanks}
use Rattle.ranges.proofs.Facts.{whole_within, within_size}
use Rattle.offsets.specs.File.{Contents, records, points, hull_by, section, complete, file_by, file}
use Rattle.offsets.specs.Reading.{one, count, numbers}
use Rattle.offsets.specs.Tokens.{Token}
use Rattle.offsets.proofs.InRanges.{InRanges, no_more, and_in, in_ranges_length, length_of_records}
use Rattle.offsets.proofs.Layouts.{Says, silent, followed}

-- how many records of a width a table has
abbrev pub records_in : List Range → List ℤ → ℕ
records_in fields table = length table / length fields

pub record Sound (c : Contents) : Type 0 where
  pub hull : InRanges particulars c.hull
  pub not_too_long : too_long limits (particulars_of c.hull) ≡ false
  pub half_breadths_ranged : InRanges (records (points c.hull) half_breadth) c.half_breadths
  pub few_items : records_in item c.items ≤ most_items
  pub items : InRanges (records (records_in item c.items) item) c.items
  pub few_tanks : records_in tank c.tanks ≤ most_tanks
  pub tanks : InRanges (records (records_in tank c.tanks) tank) c.tanks

-- n and m of a hull
pub hull_most : {hull : List ℤ} → InRanges particulars hull → (nat_abs (get_or hull 0 (pos 0)) ≤ most (range_of 0)) × (nat_abs (get_or hull 1 (pos 0)) ≤ most (range_of 1))
hull_most (and_in {r = r} {v = n} a (and_in {r = q} {v = m} b more)) = ((within_size r n a).1, (within_size q m b).1)

pub points_most : {n m : ℕ} → n ≤ most (range_of 0) → m ≤ most (range_of 1) → points_of n m ≤ room_for_half_breadths
points_most {n} {m} long high =
    let stations : n + 1 ≤ most (range_of 0) + 1 = omega arith in
    let waterlines : m + 1 ≤ most (range_of 1) + 1 = omega arith in
    mul-le-mul stations waterlines

pub points_le : {hull : List ℤ} → InRanges particulars hull → points hull ≤ room_for_half_breadths
points_le i = let h = hull_most i in points_most h.0 h.1

module _ (c : Contents) (s : Sound c) where
  pub length_of_half_breadths : length c.half_breadths ≡ points c.hull
  length_of_half_breadths = in_ranges_length s.half_breadths_ranged ∙ length_of_records (points c.hull) half_breadth ∙ mul-one (points c.hull)

  pub length_of_items : length c.items ≡ records_in item c.items * item_width
  length_of_items = in_ranges_length s.items ∙ length_of_records (records_in item c.items) item

  pub length_of_tanks : length c.tanks ≡ records_in tank c.tanks * tank_width
  length_of_tanks = in_ranges_length s.tanks ∙ length_of_records (records_in tank c.tanks) tank

-- the numbers of a file from the count of each section on, and all of them
abbrev pub tanks_on : Contents → List ℤ
tanks_on c = pos (records_in tank c.tanks) ∷ c.tanks

abbrev pub items_on : Contents → List ℤ
items_on c = pos (records_in item c.items) ∷ c.items ++ tanks_on c

abbrev pub half_breadths_on : Contents → List ℤ
half_breadths_on c = pos (points c.hull) ∷ c.half_breadths ++ items_on c

abbrev pub numbers_in : Contents → List ℤ
numbers_in c = pos (length particulars) ∷ c.hull ++ half_breadths_on c

-- a reading that takes its values from the front of what tokens say, and leaves tokens that say more
pub record Takes {A : Type 0} (reading : Outcome (A × List Token)) (values : A) (more : List ℤ) : Type 0 where
  pub rest : List Token
  pub read : reading ≡ answered (values, rest)
  pub says : Says more rest

module _ (textLength : ℕ) where
  one_takes : {more : List ℤ} {ts : List Token} (why : ℕ) (range : Range) {v : ℤ} → within range v ≡ true → Says (v ∷ more) ts → Takes (one textLength why range ts) v more
  unfolding one
  one_takes why range w (followed {ts = rest} s) = record { rest = rest; read = rw w (simp chosen); says = s }

  count_takes : {more : List ℤ} {ts : List Token} (least most k : ℕ) → least ≤ k → k ≤ most → Says (pos k ∷ more) ts → Takes (count textLength least most ts) k more
  unfolding count and_then
  count_takes least most k l u s =
      let o = one_takes count_not_allowed (least to most) (whole_within least most k (l, u)) s in
      record { rest = o.rest; read = rw o.read; says = o.says }

  numbers_take : {rs : List Range} {vs : List ℤ} → InRanges rs vs → (more : List ℤ) (ts : List Token) → Says (vs ++ more) ts → Takes (numbers textLength rs ts) vs more
  unfolding numbers and_then
  numbers_take no_more more ts s = record { rest = ts; read = refl; says = s }
  numbers_take (and_in {r = r} w i) more ts s =
      let o = one_takes out_of_range r w s in
      let n = numbers_take i more o.rest o.says in
      record { rest = n.rest; read = rw (o.read, n.read); says = n.says }

  hull_takes : {hull : List ℤ} → InRanges particulars hull → too_long limits (particulars_of hull) ≡ false → (more : List ℤ) (ts : List Token) → Says (hull ++ more) ts → Takes (hull_by textLength limits ts) hull more
  unfolding hull_by and_then
  hull_takes i short more ts s =
      let n = numbers_take i more ts s in
      record { rest = n.rest; read = rw (n.read, short) (simp chosen); says = n.says }

  section_takes : (least most k : ℕ) (fields : List Range) {vs : List ℤ} → least ≤ k → k ≤ most → InRanges (records k fields) vs
      → (more : List ℤ) (ts : List Token) → Says (pos k ∷ vs ++ more) ts → Takes (section textLength least most fields ts) vs more
  unfolding section and_then
  section_takes least most k fields l u i more ts s =
      let o = count_takes least most k l u s in
      let n = numbers_take i more o.rest o.says in
      record { rest = n.rest; read = rw (o.read, n.read); says = n.says }

  complete_at_end : (c : Contents) {ts : List Token} → Says [] ts → complete textLength c ts ≡ answered c
  unfolding complete
  complete_at_end c silent = refl

  pub file_of_said : (c : Contents) (ts : List Token) → Sound c → Says (numbers_in c) ts → file textLength ts ≡ answered c
  unfolding file_by and_then
  file_of_said c ts h s =
      let five = count_takes (length particulars) (length particulars) (length particulars) (lit≤ tt) (lit≤ tt) s in
      let hull = hull_takes h.hull h.not_too_long (half_breadths_on c) five.rest five.says in
      let p = points c.hull in
      let half = section_takes p p p half_breadth (omega arith) (omega arith) h.half_breadths_ranged (items_on c) hull.rest hull.says in
      let items = section_takes 0 most_items (records_in item c.items) item (omega arith) h.few_items h.items (tanks_on c) half.rest half.says in
      let last : Says (pos (records_in tank c.tanks) ∷ c.tanks ++ []) items.rest = rw append-nil items.says in
      let tanks = section_takes 0 most_tanks (records_in tank c.tanks) tank (omega arith) h.few_tanks h.tanks [] items.rest last in
      rw (five.read, hull.read, half.read, items.read, tanks.read) (complete_at_end c {ts = tanks.rest} tanks.says)
