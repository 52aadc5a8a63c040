-- A number and a count taken from the front of the tokens.
--     one_end, one_none, one_in, one_out       a number of a range: no token, no number, within it, out of it
--     count_taken, count_refused               a count is the size of a number that was taken; or is refused as the number was
-- Assumes nothing.
use mathlib.Core.Path.{◌≡◌}
use mathlib.Core.Bool.{true, false}
use mathlib.Core.List.{List, [], ◌∷◌}
use Prim.Native.Nat.{ℕ, ◌≤◌}
use Rattle.ranges.proofs.Facts.{within_size}
use Rattle.offsets.proofs.Within.{one_within}
use lib.IntN.{ℤ, nat_abs}
use Rattle.arithmetic.proofs.Choice.{chosen}
use Rattle.ranges.specs.Fields.{Range, ◌to◌, within}
use Rattle.ranges.specs.Outcome.{answered, refused, and_then}
use Rattle.ranges.specs.Refusals.{not_anumber, count_not_allowed, ends_too_early}
use Rattle.offsets.specs.Reading.{one, count}
use Rattle.offsets.specs.Private.Steps.{Begins}
use Rattle.offsets.specs.Tokens.{Token, number, no_number}

module _ (len : ℕ) (tokens : List Token) where
  module _ (why : ℕ) (range : Range) where
    pub one_end : tokens ≡ [] → one len why range tokens ≡ refused ends_too_early len
    unfolding one
    one_end e = rw e

    pub one_none : (at : ℕ) → Begins (no_number at) tokens → one len why range tokens ≡ refused not_anumber at
    unfolding one
    one_none at b = rw b.is

    module _ (at : ℕ) (v : ℤ) (rest : List Token) (e : tokens ≡ number at v ∷ rest) where
      pub one_in : within range v ≡ true → one len why range tokens ≡ answered (v, rest)
      unfolding one
      one_in w = rw (e, w) (simp chosen)

      pub one_out : within range v ≡ false → one len why range tokens ≡ refused why at
      unfolding one
      one_out w = rw (e, w) (simp chosen)

-- a count is the size of a number of its range
module _ (len least most : ℕ) (tokens : List Token) where
  pub count_taken : {v : ℤ} {rest : List Token} → one len count_not_allowed (least to most) tokens ≡ answered (v, rest) → (count len least most tokens ≡ answered (nat_abs v, rest)) × ((least ≤ nat_abs v) × (nat_abs v ≤ most))
  unfolding count and_then
  count_taken {v} e = (rw e, within_size (least to most) v (one_within len count_not_allowed (least to most) tokens e))

  pub count_refused : {why place : ℕ} → one len count_not_allowed (least to most) tokens ≡ refused why place → count len least most tokens ≡ refused why place
  unfolding count and_then
  count_refused e = rw e
