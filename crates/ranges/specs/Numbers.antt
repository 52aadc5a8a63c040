-- The numbers of a table by their values, whole ones and those of either sign.
use Rattle.std.specs.Prelude.{ℤ, List, ◌≡◌, map}

-- the values that a table is read as are those of its numbers, one by one
abbrev pub ReadsEach : {A : Type 0} → (A → ℤ) → (List A → List ℤ) → Type 0
ReadsEach {A} value values = (table : List A) → values table ≡ map value table

abbrev pub as_they_are : List ℤ → List ℤ
as_they_are table = table
