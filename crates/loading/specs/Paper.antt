-- The papers' rules for KM and free surface.
use Rattle.std.specs.Prelude.{Bool, ◌&&◌, ℕ, ◌-◌, ◌*◌, ◌/◌, ◌^◌, min, ltb}
use Rattle.arithmetic.specs.Choice.{when◌then◌else◌}
use Rattle.loading.specs.Fraction.{Fraction, ◌over◌}
use Rattle.loading.specs.Load.{Tank}
use Rattle.loading.specs.Rules.{KMRule, Surface, Rules}
use Rattle.loading.specs.Table.{Place, on, between, line}
use Rattle.loading.specs.declared.Reading.{Reading}
use Rattle.loading.specs.declared.Reading.TheVariants.{Lesser, StraightLine}

-- "KM: on the straight line between the two rows, rounded down; at a row's own weight, that row's KM."
abbrev pub on_line : Place → ℕ → Fraction
on_line (on r) W = r.km over 1
on_line (between r s) W = line r.km s.km r.displacement s.displacement W over (s.displacement - r.displacement)

abbrev pub straight_line : KMRule
straight_line = record { given = λ p W. (on_line p W).top / (on_line p W).bottom; unrounded = on_line }

-- "the lesser KM of the two rows when W lies strictly between them; at a row's own weight that row's KM stands"
abbrev pub lesser_km : Place → ℕ
lesser_km (on r) = r.km
lesser_km (between r s) = min r.km s.km

-- a whole number, over what the straight line is over: the paper's factor is one for both
abbrev pub lesser : KMRule
lesser = record { given = λ p W. lesser_km p; unrounded = λ p W. lesser_km p * (on_line p W).bottom over (on_line p W).bottom }

abbrev pub rule_of : Reading → KMRule
rule_of Lesser = lesser
rule_of StraightLine = straight_line

-- "The default becomes the lesser KM", "the straight line by name"
abbrev pub default_reading : Reading
default_reading = Lesser

-- "filled to 98 per cent or more": so many hundredths of its capacity, and a tank is pressed up
abbrev pub pressed_up : ℕ
pressed_up = 98

-- of which so many are all of it
abbrev pub hundredths : ℕ
hundredths = 100

-- "A tank is slack when contents are above 0 and 100 times contents is below 98 times capacity."
unfoldable pub slack : Tank → Bool
slack t = ltb 0 t.contents && ltb (hundredths * t.contents) (pressed_up * t.capacity)

-- "length · breadth³ · liquid density / 12,000,000,000 kg·mm, rounded up; otherwise 0"
unfoldable pub rectangle_parts : Tank → ℕ
rectangle_parts t = when slack t then t.length * t.breadth ^ 3 * t.density else 0

abbrev pub rectangle : Surface
rectangle = record { parts = rectangle_parts; unit = 12_000_000_000 }

abbrev pub paper_rules : Reading → Rules
paper_rules reading = record { reading = rule_of reading; surface = rectangle }
