-- A text laid into lent room.
--     laid_fits, laid_short     where the room suffices, and where it does not
--     length_laid               the room keeps its length
-- Assumes nothing.
use mathlib.Core.Path.{◌≡◌, refl, ◌∙◌}
use mathlib.Core.List.{List, ◌++◌}
use Prim.Native.Nat.{ℕ, ◌≤◌, ◌<◌}
use native.Mathlib.Omega.{arith}
use borrow.Author.Tests.{le-leb, lt-leb, leb-true}
use lib.Dec.{leb}
use lib.ListN.{length, drop, length-append, length-drop}
use Rattle.arithmetic.specs.Room.{laid}
use Rattle.arithmetic.proofs.Choice.{chosen, if_either}

module _ (text room : List ℕ) where
  pub laid_fits : length text ≤ length room → laid text room ≡ text ++ drop (length text) room
  unfolding laid
  laid_fits h = simp (le-leb _ _ h, chosen)

  pub laid_short : length room < length text → laid text room ≡ room
  unfolding laid
  laid_short h = simp (lt-leb _ _ h, chosen)

  pub length_laid : length (laid text room) ≡ length room
  unfolding laid
  length_laid =
      if_either (λ (l : List ℕ). length l ≡ length room) (leb (length text) (length room))
      (λ e. length-append text (drop (length text) room) ∙ omega (arith, length-drop (length text) room, leb-true (length text) (length room) e))
      (λ e. refl)
