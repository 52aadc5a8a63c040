-- What an answered call tells, and what two of them tell of each other.
--     found_told              the counts are right, and the surface is the definition's
--     shifted_alike           with one width added to every p and taken from every q, the same inertia and moment
--     rectangle_answered      a rectangle's
--     beside_answered         its moment beside one that is rounded up once: never less, and at most 1 more
--     by_formula              the formula, from which nothing is left without a width: `without_width`
-- Assumes nothing.
use mathlib.Core.Path.{◌≡◌, refl, sym, ap, ◌∙◌}
use mathlib.Core.Bool.{true}
use mathlib.Core.List.{List, map}
use Prim.Native.Nat.{ℕ, ◌+◌, ◌*◌, ◌^◌, ◌≤◌, ◌<◌}
use native.Mathlib.Nat.{zero-mul}
use native.Mathlib.Omega.{arith}
use borrow.Author.Tests.{not-false, ltb-false}
use lib.IntN.{nat_abs}
use lib.ListN.{length, replicate, length-map, length-replicate}
use Rattle.std.specs.Prelude.{Ok}
use Rattle.arithmetic.specs.Rounding.{rounded_up}
use Rattle.arithmetic.proofs.Rounding.{up_by_none, up_zero, up_of}
use Rattle.ranges.specs.Fields.{range_of, least, most}
use Rattle.ranges.specs.Refusals.{out_of_range, wrong_size}
use Rattle.ranges.proofs.Outcomes.{answer_same, not_refused}
use Rattle.hoppers.specs.Hopper.{width_count, counts_fit, count, outside, found, surface_of, MakesSurface}
use Rattle.hoppers.specs.Surface.{moment_unit, A, numerator, inertia, moment}
use Rattle.hoppers.specs.declared.FreeSurface.{FreeSurface}
use Rattle.hoppers.proofs.Inertia.{inertia_is}
use Rattle.hoppers.proofs.Rectangle.{rectangle_inertia, rectangle_beside}
use Rattle.hoppers.proofs.Shifted.{inertia_shifted, moment_shifted}
use Rattle.hoppers.proofs.Trying.{counts_told, tried}

pub record Told (port starboard : List ℕ) (h density : ℕ) (s : FreeSurface) : Type 0 where
  pub as_many : length port ≡ length starboard
  pub enough : least width_count ≤ length port
  pub interval_most : h ≤ most (range_of 26)
  pub density_most : density ≤ most (range_of 17)
  pub inertia_is : s.inertia ≡ inertia port starboard h
  pub moment_is : s.moment ≡ moment port starboard h density

pub found_told : {port starboard : List ℕ} {h density : ℕ} {s : FreeSurface} → MakesSurface port starboard h density (Ok s) → Told port starboard h density s
unfolding surface_of
found_told {port} {starboard} {h} {density} e =
    let first = not_refused wrong_size 0 (sym e.answer_is) in
    let second = not_refused out_of_range (outside port starboard h density) first.1 in
    let same : found port starboard h density ≡ _ = answer_same second.1 in
    let fit : counts_fit (length port) (length starboard) ≡ true = not-false _ first.0 in
    let counts = counts_told (length port) (length starboard) fit in
    let so = tried port starboard h density fit refl (ltb-false (outside port starboard h density) (count port starboard h density) second.0) in
    record {
      as_many = counts.0;
      enough = counts.1;
      interval_most = so.0.interval_most;
      density_most = so.1;
      inertia_is = ap (λ (s : FreeSurface). s.inertia) (sym same);
      moment_is = ap (λ (s : FreeSurface). s.moment) (sym same);
    }

pub shifted_alike :
    {port starboard port' starboard' : List ℕ} {h density : ℕ} {s s' : FreeSurface} (k : ℕ)
    → MakesSurface port starboard h density (Ok s)
    → MakesSurface port' starboard' h density (Ok s')
    → port' ≡ map (λ p. p + k) port
    → starboard ≡ map (λ q. q + k) starboard'
    → (s'.inertia ≡ s.inertia) × (s'.moment ≡ s.moment)
shifted_alike {port} {starboard'} {h} {density} k before after to_port to_starboard =
    let b = found_told before in
    let a = found_told after in
    let as_many : length port ≡ length starboard' = b.as_many ∙ ap length to_starboard ∙ length-map starboard' (λ q. q + k) in
    let some : 0 < length port = omega (arith, b.enough) in (
      a.inertia_is ∙ inertia_shifted k port starboard' as_many some to_port to_starboard h ∙ sym b.inertia_is,
      a.moment_is ∙ moment_shifted k port starboard' as_many some to_port to_starboard h density ∙ sym b.moment_is,
    )

module _ (n p q : ℕ) {h density : ℕ} {s : FreeSurface} (made : MakesSurface (replicate (n + 1) p) (replicate (n + 1) q) h density (Ok s)) where
  enough : 2 ≤ n
  enough = omega (arith, (found_told made).enough, length-replicate (n + 1) p)

  pub rectangle_answered : s.inertia ≡ rounded_up (n * (p + q) ^ 3) 12 * h
  rectangle_answered = (found_told made).inertia_is ∙ rectangle_inertia n enough p q h

  pub beside_answered : let once = rounded_up (n * h * (p + q) ^ 3 * density) (12 * moment_unit) in (once ≤ s.moment) × (s.moment ≤ once + 1)
  beside_answered =
      let t = found_told made in
      rw t.moment_is (rectangle_beside n enough p q h density t.interval_most t.density_most)

module _ {port starboard : List ℕ} {h density : ℕ} {s : FreeSurface} (made : MakesSurface port starboard h density (Ok s)) where
  pub by_formula : (s.inertia ≡ rounded_up (nat_abs (numerator port starboard)) (288 * A port starboard) * h) × (s.moment ≡ rounded_up (s.inertia * density) moment_unit)
  unfolding moment
  by_formula =
      let t = found_told made in
      (t.inertia_is ∙ sym (inertia_is port starboard h), t.moment_is ∙ ap (λ i. rounded_up (i * density) moment_unit) (sym t.inertia_is))

  pub without_width : A port starboard ≡ 0 → (s.inertia ≡ 0) × (s.moment ≡ 0)
  without_width none =
      let inertia-none : s.inertia ≡ 0 = by_formula.0 ∙ ap (λ a. rounded_up (nat_abs (numerator port starboard)) (288 * a) * h) none ∙ ap (λ r. r * h) (up_by_none _) ∙ zero-mul h in
      (inertia-none, by_formula.1 ∙ ap (λ i. rounded_up (i * density) moment_unit) inertia-none ∙ ap (λ i. rounded_up i moment_unit) (zero-mul density) ∙ up_zero (up_of 0 moment_unit (omega arith)))
