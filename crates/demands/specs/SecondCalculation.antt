-- What change request 5 asks of the plain second calculation, sentence by sentence. That its call is answered or refused with its number, and that a refusal leaves
-- the table: demand 1, of the rows, whose promise it makes word for word.
use Rattle.std.specs.Prelude.{◌≡◌, List, ℕ, ◌+◌, ◌-◌, ◌*◌, ◌≤◌}
use Rattle.ranges.specs.declared.Particulars.{Particulars}
use Rattle.simpson.specs.Curve.{curve}
use Rattle.hydrostatics.specs.Hull.{half_breadth, S, Sz, Sx}
use Rattle.hydrostatics.specs.Promise.{MakesRows}
use Rattle.demands.specs.Answering.{Answer}

-- the area of station i up to waterline k, and its height moment, as sums over the station's own curve
abbrev pub station_area : List ℕ → Particulars → ℕ → ℕ → ℕ
station_area half_breadths p k i = curve k (λ j. half_breadth half_breadths p i j)

abbrev pub station_moment : List ℕ → Particulars → ℕ → ℕ → ℕ
station_moment half_breadths p k i = curve k (λ j. half_breadth half_breadths p i j * j)

pub record SecondCalculation : Type 0 where
  -- "Add a plain calculation that works station areas first and then along the length."
  pub station_areas_first : (half_breadths : List ℕ) (p : Particulars) (k : ℕ)
      → (S half_breadths p k ≡ curve p.n (station_area half_breadths p k))
      × (Sz half_breadths p k ≡ curve p.n (station_moment half_breadths p k))
      × (Sx half_breadths p k ≡ curve p.n (λ i. station_area half_breadths p k i * i))
  -- "For one curve it takes the first two intervals off the front and works the rest the same way, down to two or three."
  pub two_off_the_front : (n : ℕ) (y : ℕ → ℕ) → 4 ≤ n → curve n y ≡ curve 2 y + curve (n - 2) (λ i. y (i + 2))
  pub down_to_two_or_three : (y : ℕ → ℕ)
      → (curve 2 y ≡ 8 * y 0 + 32 * y 1 + 8 * y 2) × (curve 3 y ≡ 9 * y 0 + 27 * y 1 + 27 * y 2 + 9 * y 3)
  -- "Its seven numbers and its refusals equal the first calculation's for every hull." Both calls make this one promise; said of the calls themselves:
  -- `engines_agree` of hydrostatics, proofs/Engines.
  pub engines_agree : {half_breadths : List ℕ} {p : Particulars} {rows after after' : List ℕ} {answer answer' : Answer ℕ} → MakesRows half_breadths p rows after answer → MakesRows half_breadths p rows after' answer'
      → (answer ≡ answer') × (after ≡ after')
