-- Items in range, one after another.
--     in_range_first     items are in range where the first is and the others are
--     in_range_moved     an item in range, moved to a place in range, is in range
-- Assumes nothing.
use mathlib.Core.Path.{◌≡◌, refl}
use mathlib.Core.Bool.{◌&&◌}
use mathlib.Core.List.{List, [], ◌∷◌, ◌++◌}
use Prim.Native.Nat.{ℕ, zero, suc, ◌≤◌, ◌<◌}
use native.Mathlib.Omega.{arith}
use borrow.Author.Tests.{leb-true, le-leb, eqb-true, eq-eqb}
use lib.Dec.{leb}
use lib.IntN.{ℤ, pos}
use lib.ListN.{length}
use Rattle.arithmetic.proofs.Tests.{both, same_test}
use Rattle.ranges.specs.Fields.{item}
use Rattle.ranges.specs.Outside.{first_outside}
use Rattle.ranges.specs.Sizes.{item_width}
use Rattle.ranges.proofs.Facts.{all_within, all_inside}
use Rattle.ranges.proofs.Records.{Inside, parts_inside, whole_inside}
use Rattle.tally.specs.Steps.{moved_to}
use Rattle.tally.specs.Tally.{no_item, table_of, outside, in_range}
use Rattle.tally.specs.declared.Item.{Item}
use Rattle.tally.specs.declared.Place.{Place}

pub in_range_first : (i : Item) (rest : List Item) → in_range (i ∷ rest) ≡ leb item_width (outside i) && in_range rest
unfolding table_of
in_range_first i rest =
    let first : List ℤ = i.kg ∷ i.x ∷ i.y ∷ i.z ∷ [] in
    let table : List ℤ = table_of rest in
    let all : List ℤ = first ++ table in
    same_test (in_range (i ∷ rest)) (leb item_width (outside i) && in_range rest)
    (λ e.
    let parts = parts_inside item first table refl (omega (arith, eqb-true (first_outside item all) (length all) e)) in
    rw (le-leb item_width (outside i) (omega (arith, parts.0)), eq-eqb (first_outside item table) (length table) parts.1))
    (λ e.
    let h = both (leb item_width (outside i)) (in_range rest) e in
    let inside = eqb-true (first_outside item table) (length table) h.1 in
    eq-eqb (first_outside item all) (length all) (whole_inside item first table refl (leb-true item_width (outside i) h.0) (omega (arith, inside))))

pub in_range_moved : (p : Place) (i : Item) → item_width ≤ outside i → item_width ≤ outside (moved_to p no_item) → item_width ≤ outside (moved_to p i)
unfolding table_of
in_range_moved p i h k =
    let was = all_within item (table_of (i ∷ [])) h in
    let new = all_within item (table_of (moved_to p no_item ∷ [])) k in
    let moved : List ℤ = i.kg ∷ p.x ∷ p.y ∷ p.z ∷ [] in
    omega (arith, all_inside item moved (by_place was new))
  where
    by_place :
        ((j : ℕ) → j < item_width → Inside item (i.kg ∷ i.x ∷ i.y ∷ i.z ∷ []) j)
        → ((j : ℕ) → j < item_width → Inside item (pos 0 ∷ p.x ∷ p.y ∷ p.z ∷ []) j)
        → (j : ℕ) → j < item_width → Inside item (i.kg ∷ p.x ∷ p.y ∷ p.z ∷ []) j
    by_place was new zero l = was 0 l
    by_place was new (suc j) l = new (suc j) l
