-- What the call that makes a hopper tank's free surface comes to: "7 at 0 for unequal tables or a wrong count, then 4 in order of p, q, h and density, place the position from 0".
use Rattle.std.specs.Prelude.{ℕ, ◌+◌, ◌≡◌, Bool, not, ◌&&◌, List, [], ◌∷◌, map, eqb, ltb, pos, length, Result}
use Rattle.arithmetic.specs.Choice.{when◌then◌else◌}
use Rattle.ranges.specs.Fields.{Range, ◌to◌, within, least, most, liquid_density, hopper_width, hopper_interval}
use Rattle.ranges.specs.Outcome.{Outcome, answered, refused}
use Rattle.ranges.specs.Outside.{first_outside, outside_then}
use Rattle.ranges.specs.Reasons.{paper}
use Rattle.ranges.specs.Refusals.{out_of_range, wrong_size}
use Rattle.ranges.specs.declared.refusal.Refusal.{Refusal}
use Rattle.hoppers.specs.Surface.{inertia, moment}
use Rattle.hoppers.specs.declared.FreeSurface.{FreeSurface}

-- "2 to 10 equal intervals", and the widths to a side: one more
abbrev pub interval_count : Range
interval_count = 2 to 10

abbrev pub width_count : Range
width_count = (least interval_count + 1) to (most interval_count + 1)

unfoldable pub counts_fit : ℕ → ℕ → Bool
counts_fit port starboard = eqb port starboard && within width_count (pos port)

module _ (port starboard : List ℕ) (h density : ℕ) where
  -- how many numbers there are
  abbrev pub count : ℕ
  count = length port + length starboard + 2

  -- the position of the first of them out of its range, or their count
  unfoldable pub outside : ℕ
  outside =
      outside_then hopper_width (map pos port)
      (outside_then hopper_width (map pos starboard)
      (first_outside (hopper_interval ∷ liquid_density ∷ []) (map pos (h ∷ density ∷ []))))

  abbrev pub found : FreeSurface
  found = record { inertia = inertia port starboard h; moment = moment port starboard h density }

  unfoldable pub surface_of : Outcome FreeSurface
  surface_of =
      when not (counts_fit (length port) (length starboard)) then refused wrong_size 0
      else when ltb outside count then refused out_of_range outside
      else answered found

pub record MakesSurface (port starboard : List ℕ) (h density : ℕ) (answer : Result FreeSurface Refusal) : Type 0 where
  pub answer_is : paper answer ≡ surface_of port starboard h density
