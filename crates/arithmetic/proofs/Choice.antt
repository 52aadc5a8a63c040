-- Choices by tests.
--     chosen         what a choice gives once its test is rewritten to its outcome: `simp (lt-ltb _ _ h, chosen)`
--     told           the same with the outcomes from facts: `search (told, rules)` closes each return of a function that goes by tests
--     if_either      what holds both ways holds of the choice
-- The tests' outcomes from facts are the kit's: `borrow.Author.Tests`. Assumes nothing.
use mathlib.Core.Bool.{Bool, true, false}
use mathlib.Core.Path.{◌≡◌, refl}
use borrow.Author.Tests.{lt-ltb, le-ltb, le-leb, lt-leb, eq-eqb, ne_eqb}
use Rattle.arithmetic.specs.Choice.{when◌then◌else◌}

module _ {A : Type 0} (a b : A) where
  pub then_is : when true then a else b ≡ a
  unfolding when◌then◌else◌
  then_is = refl

  pub else_is : when false then a else b ≡ b
  unfolding when◌then◌else◌
  else_is = refl

pub ruleset chosen = (then_is, else_is)

pub ruleset told = (lt-ltb, le-ltb, le-leb, lt-leb, eq-eqb, ne_eqb, chosen)

-- what holds both ways holds of the choice
pub if_either : {A : Type 0} (P : A → Type 0) {a b : A} (t : Bool) → (t ≡ true → P a) → (t ≡ false → P b) → P (when t then a else b)
unfolding when◌then◌else◌
if_either P true x y = x refl
if_either P false x y = y refl
