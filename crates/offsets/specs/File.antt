-- What an offset file says. "Four sections stand in this order, each after its count."
use Rattle.std.specs.Prelude.{ℕ, zero, suc, List, [], ◌∷◌, ◌++◌, ℤ, pos, nat_abs, length, get_or}
use Rattle.arithmetic.specs.Choice.{when◌then◌else◌}
use Rattle.ranges.specs.Fields.{Range, particulars, particulars_by, spacing, half_breadth, item, tank}
use Rattle.ranges.specs.Limits.{Limits, limits}
use Rattle.ranges.specs.Outcome.{Outcome, answered, refused, and_then}
use Rattle.ranges.specs.Outside.{particulars_of, too_long}
use Rattle.ranges.specs.Refusals.{out_of_range, token_after_end}
use Rattle.ranges.specs.Sizes.{points_of, most_items, most_tanks}
use Rattle.offsets.specs.Reading.{Reading, ◌>>=◌, count, numbers}
use Rattle.offsets.specs.Tokens.{Token, number, no_number, place_of}

-- the numbers of the four sections
pub record Contents : Type 0 where
  pub hull : List ℤ
  pub half_breadths : List ℤ
  pub items : List ℤ
  pub tanks : List ℤ

-- the fields of so many records
unfoldable pub records : ℕ → List Range → List Range
records zero fields = []
records (suc k) fields = fields ++ records k fields

-- n and m are the first two particulars
abbrev pub points : List ℤ → ℕ
points hull = points_of (nat_abs (get_or hull 0 (pos 0))) (nat_abs (get_or hull 1 (pos 0)))

module _ (textLength : ℕ) where
  -- the particulars, each in its range; then "n·s too large is 4 at s, after all five ranges": at the first byte of s
  unfoldable pub hull_by : Limits → Reading (List ℤ)
  hull_by allowed ts = and_then (numbers textLength (particulars_by allowed) ts) (λ read.
      when too_long allowed (particulars_of read.0) then refused out_of_range (place_of (get_or ts spacing (no_number textLength)))
      else answered read)

  -- a count of records, and the records
  unfoldable pub section : ℕ → ℕ → List Range → Reading (List ℤ)
  section least most fields = do
    k ← count textLength least most
    numbers textLength (records k fields)

  -- "token after the last section, number or not"
  unfoldable pub complete : Contents → List Token → Outcome Contents
  complete c [] = answered c
  complete c (number place v ∷ rest) = refused token_after_end place
  complete c (no_number place ∷ rest) = refused token_after_end place

  unfoldable pub file_by : Limits → List Token → Outcome Contents
  file_by allowed = do
    five ← count textLength (length particulars) (length particulars)
    hull ← hull_by allowed
    half_breadths ← section (points hull) (points hull) half_breadth
    items ← section 0 most_items item
    tanks ← section 0 most_tanks tank
    complete (record { hull = hull; half_breadths = half_breadths; items = items; tanks = tanks })

  abbrev pub file : List Token → Outcome Contents
  file = file_by limits
