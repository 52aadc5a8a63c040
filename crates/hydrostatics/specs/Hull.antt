-- The sums of "The rows", over the half-breadths of a hull. With u the multipliers over n and v those over k.
use Rattle.std.specs.Prelude.{ℕ, ◌+◌, ◌*◌, ◌^◌, List, get_or}
use Rattle.arithmetic.specs.Sum.{sum_to}
use Rattle.simpson.specs.Multipliers.{multiplier}
use Rattle.ranges.specs.declared.Particulars.{Particulars}

-- "station by station from aft, each from the keel up": the half-breadth y at station i, waterline j
unfoldable pub half_breadth : List ℕ → Particulars → ℕ → ℕ → ℕ
half_breadth table p i j = get_or table (i * (p.m + 1) + j) 0

module _ (table : List ℕ) (p : Particulars) (k : ℕ) where
  -- a term u·v·y
  unfoldable pub term : ℕ → ℕ → ℕ
  term i j = multiplier p.n i * multiplier k j * half_breadth table p i j

  -- "S is the sum of u·v·y over stations and waterlines 0..k"
  unfoldable pub S : ℕ
  S = sum_to (p.n + 1) (λ i. sum_to (k + 1) (λ j. term i j))

  -- "Sz the same with each term times its waterline number"
  unfoldable pub Sz : ℕ
  Sz = sum_to (p.n + 1) (λ i. sum_to (k + 1) (λ j. term i j * j))

  -- "Sx with its station number"
  unfoldable pub Sx : ℕ
  Sx = sum_to (p.n + 1) (λ i. sum_to (k + 1) (λ j. term i j * i))

  -- "Q the sum of u·y at waterline k"
  unfoldable pub Q : ℕ
  Q = sum_to (p.n + 1) (λ i. multiplier p.n i * half_breadth table p i k)

  -- "C the sum of u·y³ there"
  unfoldable pub C : ℕ
  C = sum_to (p.n + 1) (λ i. multiplier p.n i * half_breadth table p i k ^ 3)
