-- Figures of items that do not depend on the items' order.
--     InAnyOrder           such a figure: an item is put to the figure of the others, any two of them in either order
--     ◌with◌, of_item       totals added, and what an item brings
--     totals_any_order     the totals are such a figure,
--     count_any_order      so is how many numbers the items have,
--     range_any_order      and whether all are in range
-- Assumes nothing.
use mathlib.Core.Path.{◌≡◌, refl, sym, ap, ◌∙◌}
use mathlib.Core.Bool.{Bool, true, false, ◌&&◌}
use mathlib.Core.List.{List, [], ◌∷◌}
use Prim.Native.Nat.{◌+◌, ◌*◌}
use native.Mathlib.Nat.{add_left_comm}
use native.Mathlib.Omega.{arith}
use lib.Dec.{leb}
use lib.IntN.{ℤ, pos, nat_abs, ◌+ℤ◌, ◌*ℤ◌, +ℤ_assoc, +ℤ_comm}
use lib.ListN.{length}
use Rattle.ranges.specs.Sizes.{item_width}
use Rattle.loading.specs.Load.{Load, weight, longitudinal_moment_of, vertical_moment_of, transverse_moment_of}
use Rattle.loading.specs.Records.{items_of, tanks_of, load_of}
use Rattle.loading.specs.Total.{total, total_ℤ}
use Rattle.loading.specs.declared.Totals.{Totals}
use Rattle.tally.specs.Tally.{table_of, added_up, outside, in_range}
use Rattle.tally.specs.declared.Item.{Item}
use Rattle.tally.proofs.InRange.{in_range_first}

pub record InAnyOrder {A : Type 0} (figure : List Item → A) (put : Item → A → A) : Type 0 where
  pub first : (i : Item) (rest : List Item) → figure (i ∷ rest) ≡ put i (figure rest)
  pub either : (i j : Item) (a : A) → put i (put j a) ≡ put j (put i a)

-- ---- the totals
infixr 30 ◌with◌
abbrev pub ◌with◌ : Totals → Totals → Totals
a with b = record {
  weight = a.weight + b.weight;
  longitudinal = a.longitudinal + b.longitudinal;
  vertical = a.vertical + b.vertical;
  transverse = a.transverse +ℤ b.transverse;
}

-- what an item brings
abbrev pub of_item : Item → Totals
of_item i =
    let kg = nat_abs i.kg in
    record { weight = kg; longitudinal = kg * nat_abs i.x; vertical = kg * nat_abs i.z; transverse = pos kg *ℤ i.y }

totals_first : (i : Item) (rest : List Item) → added_up (i ∷ rest) ≡ of_item i with added_up rest
unfolding table_of items_of weight longitudinal_moment_of vertical_moment_of transverse_moment_of total total_ℤ tanks_of
totals_first i rest =
    let a = of_item i in
    let all : Load = load_of (table_of (i ∷ rest)) [] in
    let others : Load = load_of (table_of rest) [] in
    let weight_is : weight all ≡ a.weight + weight others = omega arith in
    let longitudinal_is : longitudinal_moment_of all ≡ a.longitudinal + longitudinal_moment_of others = omega arith in
    let vertical_is : vertical_moment_of all ≡ a.vertical + vertical_moment_of others = omega arith in
    let transverse_is : transverse_moment_of all ≡ a.transverse +ℤ transverse_moment_of others =
    +ℤ_assoc a.transverse (total_ℤ (λ j. pos j.kg *ℤ j.y) others.items) (pos 0) in
    λ k. record { weight = weight_is k; longitudinal = longitudinal_is k; vertical = vertical_is k; transverse = transverse_is k }

+ℤ_left_comm : (a b c : ℤ) → a +ℤ (b +ℤ c) ≡ b +ℤ (a +ℤ c)
+ℤ_left_comm a b c = sym (+ℤ_assoc a b c) ∙ ap (λ z. z +ℤ c) (+ℤ_comm a b) ∙ +ℤ_assoc b a c

with_either : (a b c : Totals) → a with b with c ≡ b with a with c
with_either a b c = λ k. record {
  weight = add_left_comm a.weight b.weight c.weight k;
  longitudinal = add_left_comm a.longitudinal b.longitudinal c.longitudinal k;
  vertical = add_left_comm a.vertical b.vertical c.vertical k;
  transverse = +ℤ_left_comm a.transverse b.transverse c.transverse k;
}

pub totals_any_order : InAnyOrder added_up (λ i t. of_item i with t)
totals_any_order = record { first = totals_first; either = λ i j t. with_either (of_item i) (of_item j) t }

-- ---- the count of numbers
count_first : (i : Item) (rest : List Item) → length (table_of (i ∷ rest)) ≡ item_width + length (table_of rest)
unfolding table_of
count_first i rest = omega arith

pub count_any_order : InAnyOrder (λ items. length (table_of items)) (λ i n. item_width + n)
count_any_order = record { first = count_first; either = λ i j n. refl }

-- ---- in range
both_either : (a b c : Bool) → a && (b && c) ≡ b && (a && c)
both_either true true c = refl
both_either true false c = refl
both_either false true c = refl
both_either false false c = refl

pub range_any_order : InAnyOrder in_range (λ i t. leb item_width (outside i) && t)
range_any_order = record {
  first = in_range_first;
  either = λ i j t. both_either (leb item_width (outside i)) (leb item_width (outside j)) t;
}
