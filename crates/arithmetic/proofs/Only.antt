-- A promise of the form `r ≡ definition` has one answer.
--     only        two answers that meet it are equal
-- Assumes nothing.
use mathlib.Core.Path.{◌≡◌, sym, ◌∙◌}

pub only : {A : Type 0} {x y d : A} → x ≡ d → y ≡ d → x ≡ y
only p q = p ∙ sym q
