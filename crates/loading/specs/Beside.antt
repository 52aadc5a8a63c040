-- Two outcomes for the same load and rows, by one reading of KM and by the other: the words of change request 4.
use Rattle.std.specs.Prelude.{ℕ, ◌≤◌, ◌≡◌, T, ◌≤ℤ◌}
use Rattle.ranges.specs.Outcome.{Outcome, answered, refused}
use Rattle.loading.specs.declared.Condition.{Condition}

-- both answered, and R between the answers, or both refused with the same number and place
pub data Alike {A : Type 0} (R : A → A → Type 0) : Outcome A → Outcome A → Type 0 where
  both_answered : {a b : A} → R a b → Alike R (answered a) (answered b)
  both_refused : {number place : ℕ} → Alike R (refused number place) (refused number place)

-- what c, by the lesser KM, is beside d, by the straight line: its GM is never above, what passes by it passes by the other, and on what
-- KM has no bearing they agree
pub record NotAbove (c d : Condition) : Type 0 where
  pub weight : c.weight ≡ d.weight
  pub draft : c.draft ≡ d.draft
  pub lcg : c.lcg ≡ d.lcg
  pub vertical_moment : c.vertical_moment ≡ d.vertical_moment
  pub free_surface : c.free_surface ≡ d.free_surface
  pub transverse_moment : c.transverse_moment ≡ d.transverse_moment
  pub km : c.km ≤ d.km
  pub gm : c.gm ≤ℤ d.gm
  pub pass : T c.passes → T d.passes
