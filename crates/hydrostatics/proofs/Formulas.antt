-- The seven numbers from the sums that a row is made of.
--     products                  how large each product on the way is
--     row_is, row_empty         the row, and the row where S is 0
-- Assumes nothing.
use mathlib.Core.Path.{◌≡◌, ap, ◌∙◌}
use Prim.Native.Nat.{ℕ, ◌+◌, ◌*◌, ◌/◌, ◌≤◌}
use native.Mathlib.Nat.{mul-le-mul, mul-zero, div-zero}
use Rattle.arithmetic.proofs.Ring.{pow2}
use Rattle.ranges.specs.Fields.{range_of, most}
use Rattle.ranges.specs.Private.InRange.{ParticularsInRange}
use Rattle.ranges.specs.declared.Particulars.{Particulars}
use Rattle.hydrostatics.specs.Row.{row_from}
use Rattle.hydrostatics.specs.Private.Sums.{most_q, most_s, most_sz, most_sx, SumsWithin}
use Rattle.hydrostatics.specs.declared.Row.{Row}
use Rattle.hydrostatics.specs.declared.table.Sums.{Sums}

-- the row with these four quotients by S
abbrev pub made : Particulars → ℕ → Sums → ℕ → ℕ → ℕ → ℕ → Row
made p k sums lcb kb bm km = record {
  draft = p.d * k;
  displacement = p.s * p.d * sums.sum * p.density / 288_000_000_000;
  lcb = lcb;
  kb = kb;
  bm = bm;
  km = km;
  area = p.s * sums.q / 12;
}

-- the greatest distance between stations, and between waterlines
abbrev longest_spacing : ℕ
longest_spacing = most (range_of 2)

abbrev deepest_spacing : ℕ
deepest_spacing = most (range_of 3)

module _ {p : Particulars} {k : ℕ} {sums : Sums} where
  pub products :
      ParticularsInRange p × SumsWithin k sums
      → (p.d * k ≤ deepest_spacing * most (range_of 1))
      × (p.s * p.d ≤ longest_spacing * deepest_spacing)
      × (p.s * p.d * sums.sum ≤ longest_spacing * deepest_spacing * most_s)
      × (p.s * p.d * sums.sum * p.density ≤ longest_spacing * deepest_spacing * most_s * most (range_of 4))
      × (p.s * sums.q ≤ longest_spacing * most_q)
      × (p.s * sums.sx ≤ longest_spacing * most_sx)
      × (p.d * sums.sz ≤ deepest_spacing * most_sz)
      × (p.d * sums.sum ≤ deepest_spacing * most_s)
      × (p.d * p.d ≤ deepest_spacing * deepest_spacing)
      × (p.d * p.d * sums.sz ≤ deepest_spacing * deepest_spacing * most_sz)
  products given =
      let w = given.1 in
      let s : p.s ≤ longest_spacing = given.0.s_most in
      let d : p.d ≤ deepest_spacing = given.0.d_most in
      let spacings = mul-le-mul s d in
      let volume = mul-le-mul spacings w.sum_most in (
        mul-le-mul d w.k_most,
        spacings,
        volume,
        mul-le-mul volume given.0.density_most,
        mul-le-mul s w.q_most,
        mul-le-mul s w.sx_most,
        mul-le-mul d w.sz_most,
        mul-le-mul d w.sum_most,
        mul-le-mul d d,
        mul-le-mul (mul-le-mul d d) w.sz_most,
      )

module _ (p : Particulars) (k : ℕ) (sums : Sums) where
  pub row_is : made p k sums (p.s * sums.sx / sums.sum) (p.d * sums.sz / sums.sum) (8 * sums.c / (p.d * sums.sum)) ((p.d * p.d * sums.sz + 8 * sums.c) / (p.d * sums.sum)) ≡ row_from p k sums
  unfolding row_from
  row_is = rw (← pow2 p.d)

  pub row_empty : sums.sum ≡ 0 → made p k sums 0 0 0 0 ≡ row_from p k sums
  row_empty e =
      let none : (a b : ℕ) → b ≡ 0 → a / b ≡ 0 = λ a b e. ap (λ b. a / b) e ∙ div-zero a in
      let sum : (a : ℕ) → a / sums.sum ≡ 0 = λ a. none a sums.sum e in
      let lever : (a : ℕ) → a / (p.d * sums.sum) ≡ 0 = λ a. none a (p.d * sums.sum) (ap (λ b. p.d * b) e ∙ mul-zero p.d) in
      rw (sum (p.s * sums.sx), sum (p.d * sums.sz), lever (8 * sums.c), lever (p.d * p.d * sums.sz + 8 * sums.c)) at row_is
