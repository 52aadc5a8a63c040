-- The ranges of every number of the paper, each stated once: those of "The offset file", section by section, and those of a row.
use Rattle.std.specs.Prelude.{ℕ, suc, Bool, false, ◌&&◌, List, [], ◌∷◌, ◌++◌, leb, ℤ, pos, negsuc, get_or}
use Rattle.ranges.specs.Limits.{Limits, limits}

infix 80 ◌to◌
infix 80 ±◌
-- "3..20" is 3 to 20; "−10,000..10,000" is ± 10_000
pub data Range : Type 0 where
  ◌to◌ : ℕ → ℕ → Range
  ±◌ : ℕ → Range

-- the least and the greatest of a range, from 0 on
abbrev pub least : Range → ℕ
least (a to b) = a
least (± b) = 0

abbrev pub most : Range → ℕ
most (a to b) = b
most (± b) = b

unfoldable pub within : Range → ℤ → Bool
within (a to b) (pos n) = leb a n && leb n b
within (a to b) (negsuc n) = false
within (± b) (pos n) = leb n b
within (± b) (negsuc n) = leb (suc n) b

-- n intervals of length; m intervals of draft; s mm between stations; d mm between waterlines; water density, kg/m³
abbrev pub particulars_by : Limits → List Range
particulars_by allowed = 2 to allowed.most_intervals ∷ 3 to 20 ∷ 50 to 2_500 ∷ 10 to 500 ∷ 900 to 1_100 ∷ []

abbrev pub particulars : List Range
particulars = particulars_by limits

-- s is number 2 of them, from 0
abbrev pub spacing : ℕ
spacing = 2

-- mm
abbrev pub half_breadth : List Range
half_breadth = 0 to 8_000 ∷ []

-- where a weight stands: x mm from station 0; y mm; z mm
abbrev pub x_range : Range
x_range = 0 to 100_000

abbrev pub y_range : Range
y_range = ± 10_000

abbrev pub z_range : Range
z_range = 0 to 30_000

-- kg; x, y, z
abbrev pub item : List Range
item = 0 to 300_000 ∷ x_range ∷ y_range ∷ z_range ∷ []

-- kg/m³
abbrev pub liquid_density : Range
liquid_density = 1 to 1_500

-- contents kg; capacity kg; x, y, z as for items; length mm; breadth mm; liquid density
abbrev pub tank : List Range
tank = 0 to 400_000 ∷ 1 to 400_000 ∷ x_range ∷ y_range ∷ z_range ∷ 1 to 10_000 ∷ 1 to 8_000 ∷ liquid_density ∷ []

-- "KM above 100,000" is refused with 9: the highest KM of a row
abbrev pub highest_metacentre : ℕ
highest_metacentre = 100_000

-- a ship's displacement, kg, and its KM, mm: of a row, and of an inclining test
abbrev pub displacement : Range
displacement = 1 to 17_600_000

abbrev pub metacentre : Range
metacentre = 0 to highest_metacentre

-- "Ranges of a row": draft mm; displacement kg; LCB mm; KB mm; BM mm; KM mm; waterplane area mm²
abbrev pub row_ranges : List Range
row_ranges =
    20 to 10_000 ∷ displacement ∷ 0 to 100_000 ∷ 0 to 10_000 ∷ 0 to 100_000 ∷ metacentre ∷ 0 to 1_600_000_000 ∷ []

-- a hopper tank's free surface: "widths to port p and to starboard q, 0..1,500 mm", "equal intervals h of 50..1,000 mm"
abbrev pub hopper_width : List Range
hopper_width = 0 to 1_500 ∷ []

abbrev pub hopper_interval : Range
hopper_interval = 50 to 1_000

-- all fields by number: those of the file in its order, 0..4 particulars, 5 a half-breadth, 6..9 an item, 10..17 a tank; then 18..24 a row;
-- 25 a width and 26 the interval of a hopper
abbrev pub fields : List Range
fields = particulars ++ half_breadth ++ item ++ tank ++ row_ranges ++ hopper_width ++ (hopper_interval ∷ [])

-- no number is in the range of a field that there is not
abbrev pub range_of : ℕ → Range
range_of field = get_or fields field (1 to 0)

-- ---- the inclining test, whose ranges no other call looks up: "free surface 0..10,240,000,000 of the test, pendulum length 500..10,000 mm"
abbrev pub test_surface : Range
test_surface = 0 to 10_240_000_000

abbrev pub pendulum : Range
pendulum = 500 to 10_000

-- W, KM, free surface, length
abbrev pub inclining : List Range
inclining = displacement ∷ metacentre ∷ test_surface ∷ pendulum ∷ []

-- "shifts of weight 1..20,000 kg, distance 1..16,000 mm and deflection 1..2,000 mm"
abbrev pub shift_weight : Range
shift_weight = 1 to 20_000

abbrev pub shift_distance : Range
shift_distance = 1 to 16_000

abbrev pub shift_deflection : Range
shift_deflection = 1 to 2_000

abbrev pub shift : List Range
shift = shift_weight ∷ shift_distance ∷ shift_deflection ∷ []

-- ---- the supply-vessel profile: "a table of KN in mm, 0..20,000, .. then KM and KG, each 0..100,000"
abbrev pub cross_lever : Range
cross_lever = 0 to 20_000

abbrev pub cross_curve : List Range
cross_curve = cross_lever ∷ []

abbrev pub heights : List Range
heights = metacentre ∷ metacentre ∷ []
