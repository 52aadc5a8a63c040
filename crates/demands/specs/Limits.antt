-- Tables of whole numbers from 0 to a limit: none above it; and the first that is.
use Rattle.std.specs.Prelude.{ℕ, ◌≤◌, ◌<◌, List, length, get_or}

abbrev pub NoneAbove : ℕ → List ℕ → Type 0
NoneAbove limit table = (i : ℕ) → i < length table → get_or table i 0 ≤ limit

pub record FirstAbove (limit : ℕ) (table : List ℕ) (i : ℕ) : Type 0 where
  pub there : i < length table
  pub above : limit < get_or table i 0
  pub none_before : (j : ℕ) → j < i → get_or table j 0 ≤ limit
