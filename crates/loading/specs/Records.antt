-- The lent tables as what is aboard: an item is four numbers, a tank eight. A table is read as whole records; what is left over counts for nothing.
use Rattle.std.specs.Prelude.{List, [], ◌∷◌, ℤ, nat_abs}
use Rattle.loading.specs.Load.{Item, Tank, Load}

unfoldable pub items_of : List ℤ → List Item
items_of (kg ∷ x ∷ y ∷ z ∷ rest) = record { kg = nat_abs kg; x = nat_abs x; y = y; z = nat_abs z } ∷ items_of rest
items_of (kg ∷ x ∷ y ∷ []) = []
items_of (kg ∷ x ∷ []) = []
items_of (kg ∷ []) = []
items_of [] = []

unfoldable pub tanks_of : List ℤ → List Tank
tanks_of (contents ∷ capacity ∷ x ∷ y ∷ z ∷ length ∷ breadth ∷ density ∷ rest) =
    record {
      contents = nat_abs contents;
      capacity = nat_abs capacity;
      x = nat_abs x;
      y = y;
      z = nat_abs z;
      length = nat_abs length;
      breadth = nat_abs breadth;
      density = nat_abs density;
    }
    ∷ tanks_of rest
tanks_of (contents ∷ capacity ∷ x ∷ y ∷ z ∷ length ∷ breadth ∷ []) = []
tanks_of (contents ∷ capacity ∷ x ∷ y ∷ z ∷ length ∷ []) = []
tanks_of (contents ∷ capacity ∷ x ∷ y ∷ z ∷ []) = []
tanks_of (contents ∷ capacity ∷ x ∷ y ∷ []) = []
tanks_of (contents ∷ capacity ∷ x ∷ []) = []
tanks_of (contents ∷ capacity ∷ []) = []
tanks_of (contents ∷ []) = []
tanks_of [] = []

abbrev pub load_of : List ℤ → List ℤ → Load
load_of items tanks = record { items = items_of items; tanks = tanks_of tanks }
