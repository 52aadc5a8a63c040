-- What change request 4 asks of the readings of KM, sentence by sentence. That demand 3 holds by either: `Demand3`, whose conditions have one reading.
use Rattle.std.specs.Prelude.{◌≡◌, List, ℕ, ◌+◌, ◌-◌, ◌/◌, ◌<◌, min, ℤ, length}
use Rattle.ranges.specs.Reasons.{paper}
use Rattle.ranges.specs.Sizes.{row_width}
use Rattle.hydrostatics.specs.Usable.{row_in}
use Rattle.loading.specs.Beside.{Alike, NotAbove}
use Rattle.loading.specs.Condition.{condition_by}
use Rattle.loading.specs.Paper.{default_reading}
use Rattle.loading.specs.Table.{line}
use Rattle.loading.specs.declared.Condition.{Condition}
use Rattle.loading.specs.declared.Reading.{Reading}
use Rattle.loading.specs.declared.Reading.TheVariants.{Lesser, StraightLine}
use Rattle.tally.specs.Condition.{condition_aboard}
use Rattle.tally.specs.History.{Step, items_on, tally_after, list_after}
use Rattle.tally.specs.Tally.{table_of}
use Rattle.report.specs.Sheet.{sheet_of, sheet_by}
use Rattle.demands.specs.Answering.{Answer}
use Rattle.demands.specs.Conditioned.{Conditioned, IsCondition}

-- W lies strictly between rows r and r + 1
pub record StrictlyBetween (rows : List ℕ) (r W : ℕ) : Type 0 where
  pub there : r + 1 < length rows / row_width
  pub above : (row_in rows r).displacement < W
  pub below : W < (row_in rows (r + 1)).displacement

pub record TwoReadings : Type 0 where
  -- "The default becomes the lesser KM of the two rows when W lies strictly between them;"
  pub default_is_the_lesser : {items tanks : List ℤ} {rows : List ℕ} {c : Condition} → IsCondition default_reading items tanks rows c
      → (r : ℕ) → StrictlyBetween rows r c.weight → c.km ≡ min (row_in rows r).km (row_in rows (r + 1)).km
  -- "at a row's own weight that row's KM stands."
  pub own_weight_stands : {reading : Reading} {items tanks : List ℤ} {rows : List ℕ} {c : Condition} → IsCondition reading items tanks rows c
      → (r : ℕ) → r < length rows / row_width → c.weight ≡ (row_in rows r).displacement → c.km ≡ (row_in rows r).km
  -- "Yards that compare with last year's sheets ask for the straight line by name."
  pub straight_line_by_name : {items tanks : List ℤ} {rows : List ℕ} {c : Condition} → IsCondition StraightLine items tanks rows c
      → (r : ℕ) → StrictlyBetween rows r c.weight
      → c.km ≡ line (row_in rows r).km (row_in rows (r + 1)).km (row_in rows r).displacement (row_in rows (r + 1)).displacement c.weight / ((row_in rows (r + 1)).displacement - (row_in rows r).displacement)
  -- "The printing program and the tally take the new default"
  pub sheet_takes_the_default : (text : List ℕ) → sheet_of text ≡ sheet_by Lesser text
  pub tally_takes_the_default : (history : List Step) (tanks : List ℤ) (rows : List ℕ) → condition_aboard (tally_after history) tanks rows ≡ condition_by Lesser (table_of (items_on (list_after history))) tanks rows
  -- with the same load and rows GM by the lesser is never above GM by the straight line, what passes by the lesser passes by the straight line,
  -- and both are answered or both refused alike
  pub lesser_is_never_above : {items tanks : List ℤ} {rows : List ℕ} {a b : Answer Condition} → Conditioned Lesser items tanks rows a → Conditioned StraightLine items tanks rows b
      → Alike NotAbove (paper a) (paper b)
