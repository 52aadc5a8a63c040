-- A table filled from another one, number by number.
--     copied_next        i numbers are in, and one more
-- `f` is what is kept of each number. Assumes nothing.
use mathlib.Core.Path.{◌≡◌, sym, ap, ◌∙◌}
use mathlib.Core.List.{List, [], ◌∷◌, ◌++◌, map, map-append}
use Prim.Native.Nat.{ℕ, ◌+◌, ◌<◌}
use native.Mathlib.Omega.{arith}
use lib.ListN.{length, take, drop, get_or, set, length-map}
use lib.Seq.{length-take-le}
use Rattle.arithmetic.proofs.Parts.{store_next, take_step}

module _ {A B : Type 0} (f : A → B) (d : A) where
  pub copied_next : (table : List A) (was to : List B) (i : ℕ) (v : B) → i < length table → i < length was → v ≡ f (get_or table i d) → to ≡ map f (take i table) ++ drop i was → set to i v ≡ map f (take (i + 1) table) ++ drop (i + 1) was
  copied_next table was to i v h l e k =
      let some : length (map f (take i table)) ≡ i = length-map (take i table) f ∙ length-take-le i table (omega arith) in
      ap (λ t. set t i v) k
      ∙ store_next (map f (take i table)) was i v some l
      ∙ ap (λ t. t ++ drop (i + 1) was) (ap (λ w. map f (take i table) ++ w ∷ []) e ∙ sym (ap (map f) (take_step table i d h) ∙ map-append f (take i table) (get_or table i d ∷ [])))
