-- Numbers that were read are in range.
--     one_within          a number
--     count_within        a count is one of those allowed
--     numbers_within      numbers are in their ranges
--     hull_within         particulars are, and their hull is not too long
-- Assumes nothing.
use mathlib.Core.Path.{◌≡◌, ap, ◌∙◌}
use mathlib.Core.Bool.{true, false}
use mathlib.Core.List.{List, [], ◌∷◌}
use Prim.Native.Nat.{ℕ, ◌≤◌}
use lib.IntN.{ℤ, nat_abs}
use Rattle.ranges.specs.Fields.{Range, ◌to◌, within, particulars_by}
use Rattle.ranges.specs.Limits.{Limits}
use Rattle.ranges.specs.Outcome.{answered}
use Rattle.ranges.specs.Outside.{particulars_of, too_long}
use Rattle.ranges.specs.Refusals.{count_not_allowed, out_of_range}
use Rattle.ranges.proofs.Facts.{within_size}
use Rattle.ranges.proofs.Outcomes.{refused_not, answer_same, not_refused, was_passed, answered_then}
use Rattle.offsets.specs.File.{hull_by}
use Rattle.offsets.specs.Reading.{one, count, numbers}
use Rattle.offsets.specs.Tokens.{Token, number, no_number}
use Rattle.offsets.proofs.InRanges.{InRanges, no_more, and_in}

module _ (len : ℕ) where
  pub one_within : (why : ℕ) (range : Range) (ts : List Token) {v : ℤ} {rest : List Token} → one len why range ts ≡ answered (v, rest) → within range v ≡ true
  unfolding one
  one_within why range [] e = refused_not e
  one_within why range (no_number place ∷ ts) e = refused_not e
  one_within why range (number place w ∷ ts) {v} e =
      let t = was_passed why place e in
      let same : w ≡ v = ap (λ read. read.0) (answer_same t.1) in
      rw same at t.0

  pub count_within : (least most : ℕ) (ts : List Token) {k : ℕ} {rest : List Token} → count len least most ts ≡ answered (k, rest) → (least ≤ k) × (k ≤ most)
  unfolding count
  count_within least most ts {k} e =
      let o = answered_then e in
      let same : nat_abs o.0.0 ≡ k = ap (λ read. read.0) (answer_same o.2) in
      rw same at (within_size (least to most) o.0.0 (one_within count_not_allowed (least to most) ts o.1))

  pub numbers_within : (rs : List Range) (ts : List Token) {vs : List ℤ} {rest : List Token} → numbers len rs ts ≡ answered (vs, rest) → InRanges rs vs
  unfolding numbers
  numbers_within [] ts {vs} e = let same : [] ≡ vs = ap (λ read. read.0) (answer_same e) in rw (← same) no_more
  numbers_within (r ∷ rs) ts {vs} e =
      let o = answered_then e in
      let n = answered_then o.2 in
      let same : o.0.0 ∷ n.0.0 ≡ vs = ap (λ read. read.0) (answer_same n.2) in
      rw (← same) (and_in (one_within out_of_range r ts o.1) (numbers_within rs o.0.1 n.1))

  pub hull_within : (allowed : Limits) (ts : List Token) {vs : List ℤ} {rest : List Token} → hull_by len allowed ts ≡ answered (vs, rest) → (numbers len (particulars_by allowed) ts ≡ answered (vs, rest)) × (too_long allowed (particulars_of vs) ≡ false)
  unfolding hull_by
  hull_within allowed ts {vs} e =
      let n = answered_then e in
      let short = not_refused _ _ n.2 in
      let same = answer_same short.1 in
      (n.1 ∙ ap answered same, rw (ap (λ read. read.0) same) at short.0)
