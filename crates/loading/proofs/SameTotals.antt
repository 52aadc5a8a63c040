-- A condition depends on its items through their totals alone.
--     condition_same     two tables of items in range, of one length and with the same totals, make the same condition
-- Assumes nothing.
use mathlib.Core.Path.{◌≡◌, refl, sym, ap, ◌∙◌}
use mathlib.Core.List.{List}
use Prim.Native.Nat.{ℕ}
use native.Mathlib.Nat.{le_refl}
use native.Mathlib.Omega.{arith}
use borrow.Author.Tests.{le-ltb}
use lib.IntN.{ℤ, pos, ◌+ℤ◌, ◌*ℤ◌, +ℤ_idr}
use lib.ListN.{length}
use Rattle.arithmetic.proofs.Choice.{chosen}
use Rattle.ranges.specs.Fields.{item}
use Rattle.ranges.specs.Outside.{first_outside}
use Rattle.loading.specs.Condition.{condition_at, floats, condition_by}
use Rattle.loading.specs.Items.{totals_of_items}
use Rattle.loading.specs.Load.{Item, Load, weight, longitudinal_moment_of, vertical_moment_of, transverse_moment_of}
use Rattle.loading.specs.Paper.{paper_rules}
use Rattle.loading.specs.Records.{items_of, tanks_of, load_of}
use Rattle.loading.specs.Stability.{free_surface_of}
use Rattle.loading.specs.Table.{Table, hull}
use Rattle.loading.specs.Total.{total, total_ℤ}
use Rattle.loading.specs.declared.Reading.{Reading}

-- the figures that the rows are asked with
floats_same : (reading : Reading) (t : Table) (k l : Load) → weight k ≡ weight l → longitudinal_moment_of k ≡ longitudinal_moment_of l → vertical_moment_of k ≡ vertical_moment_of l → transverse_moment_of k ≡ transverse_moment_of l → free_surface_of (paper_rules reading) k ≡ free_surface_of (paper_rules reading) l → floats reading t k ≡ floats reading t l
unfolding floats condition_at
floats_same reading t k l w x z y s = rw (w, x, z, y, s)

-- with any tanks, the items' part of each sum is the same
module _ (a b tanks : List ℤ) (same : totals_of_items a ≡ totals_of_items b) where
  weight_same : weight (load_of a tanks) ≡ weight (load_of b tanks)
  unfolding weight total tanks_of
  weight_same = omega (arith, ap (λ t. t.weight) same)

  longitudinal_same : longitudinal_moment_of (load_of a tanks) ≡ longitudinal_moment_of (load_of b tanks)
  unfolding longitudinal_moment_of total tanks_of
  longitudinal_same = omega (arith, ap (λ t. t.longitudinal) same)

  vertical_same : vertical_moment_of (load_of a tanks) ≡ vertical_moment_of (load_of b tanks)
  unfolding vertical_moment_of total tanks_of
  vertical_same = omega (arith, ap (λ t. t.vertical) same)

  transverse_same : transverse_moment_of (load_of a tanks) ≡ transverse_moment_of (load_of b tanks)
  unfolding transverse_moment_of total_ℤ tanks_of
  transverse_same =
      let of : List Item → ℤ = total_ℤ (λ i. pos i.kg *ℤ i.y) in
      ap (λ z. z +ℤ total_ℤ (λ t. pos t.contents *ℤ t.y) (tanks_of tanks))
      (sym (+ℤ_idr (of (items_of a))) ∙ ap (λ t. t.transverse) same ∙ +ℤ_idr (of (items_of b)))

  floats_with : (reading : Reading) (t : Table) → floats reading t (load_of a tanks) ≡ floats reading t (load_of b tanks)
  unfolding free_surface_of
  floats_with reading t = floats_same reading t (load_of a tanks) (load_of b tanks) weight_same longitudinal_same vertical_same transverse_same refl

pub condition_same : (reading : Reading) (a b tanks : List ℤ) (rows : List ℕ) → length a ≡ length b → first_outside item a ≡ length a → first_outside item b ≡ length b → totals_of_items a ≡ totals_of_items b → condition_by reading a tanks rows ≡ condition_by reading b tanks rows
unfolding condition_by
condition_same reading a b tanks rows size is_in_range in-range₂ same =
    rw (is_in_range, in-range₂, size, floats_with a b tanks same reading (hull rows), le-ltb (length b) (length b) (le_refl (length b)))
    (simp chosen)
