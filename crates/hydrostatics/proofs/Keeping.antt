-- From what is kept of a hull's waterlines to the sums of its rows.
--     five_same, line_same   equal sums
--     Kept                   what each waterline contributes, at its number
--     kept_small             how large what is kept is
--     sums_are               what is made of it up to a waterline is the row's five
--     kept_sums              the sums of every row
-- Assumes nothing.
use mathlib.Core.Path.{◌≡◌, sym, ap, ◌∙◌}
use mathlib.Core.List.{List}
use Prim.Native.Nat.{ℕ, ◌+◌, ◌-◌, ◌*◌, ◌≤◌}
use native.Mathlib.Omega.{arith}
use lib.ListN.{length}
use lib.Seq.{length-take-le, get_or-take}
use Rattle.ranges.specs.declared.Particulars.{Particulars}
use Rattle.simpson.specs.Curve.{curve}
use Rattle.simpson.proofs.Curves.{curve_same}
use Rattle.hydrostatics.specs.Row.{sums_at, waterline_of}
use Rattle.hydrostatics.specs.Private.Hull.{Filled, InRange}
use Rattle.hydrostatics.specs.Private.Sums.{no_sums, MakesSums}
use Rattle.hydrostatics.specs.Private.Waterplanes.{waterline_at, no_waterline, line, up_to, last, Small, sums_from}
use Rattle.hydrostatics.specs.declared.table.Sums.{Sums}
use Rattle.hydrostatics.specs.declared.waterplanes.Waterline.{Waterline}
use Rattle.hydrostatics.proofs.Exchange.{S_is, Sz_is, Sx_is}
use Rattle.hydrostatics.proofs.Limits.{Q_most, X_most}

pub five_same : {a b c d e a' b' c' d' e' : ℕ} → a ≡ a' → b ≡ b' → c ≡ c' → d ≡ d' → e ≡ e' → ◌≡◌ {A = Sums} (record { sum = a; sz = b; sx = c; q = d; c = e }) (record { sum = a'; sz = b'; sx = c'; q = d'; c = e' })
five_same f g h i j = rw (f, g, h, i, j)

pub line_same : {a b c a' b' c' : ℕ} → a ≡ a' → b ≡ b' → c ≡ c' → ◌≡◌ {A = Waterline} (record { q = a; x = b; c = c }) (record { q = a'; x = b'; c = c' })
line_same f g h = rw (f, g, h)

pub record Kept (table : List ℕ) (p : Particulars) (lines : List Waterline) : Type 0 where
  pub long : length lines ≡ p.m + 1
  pub each : Filled no_waterline (waterline_at table p) (p.m + 1) lines

module _ {table : List ℕ} {p : Particulars} {lines : List Waterline} (kept : Kept table p lines) where
  pub kept_small : InRange table p → Small lines
  kept_small hull = record {
    some = omega (arith, kept.long);
    few = omega (arith, kept.long, hull.complete.particulars.m_most);
    q_most = λ j l. rw (kept.each.at j (omega (arith, kept.long))) (Q_most hull j);
    x_most = λ j l. rw (kept.each.at j (omega (arith, kept.long))) (X_most hull j);
  }

  module _ {k : ℕ} (h : k ≤ p.m) where
    last_is : last (up_to k lines) ≡ k
    last_is = omega (arith, length-take-le (k + 1) lines (omega (arith, kept.long)))

    line_is : (j : ℕ) → j ≤ k → line (up_to k lines) j ≡ waterline_at table p j
    line_is j l = get_or-take (k + 1) lines j no_waterline (omega arith) ∙ kept.each.at j (omega arith)

    -- the curve through a number of each of them
    through : (f : Waterline → ℕ → ℕ) → curve (last (up_to k lines)) (λ j. f (line (up_to k lines) j) j) ≡ curve k (λ j. f (waterline_at table p j) j)
    through f =
        ap (λ n. curve n (λ j. f (line (up_to k lines) j) j)) last_is ∙ curve_same k _ _ (λ j l. ap (λ w. f w j) (line_is j l))

    top : line (up_to k lines) (last (up_to k lines)) ≡ waterline_at table p k
    top = ap (line (up_to k lines)) last_is ∙ line_is k (omega arith)

    pub sums_are : sums_from (up_to k lines) ≡ sums_at table p k
    sums_are =
        five_same (through (λ w j. w.q) ∙ sym (S_is table p k)) (through (λ w j. w.q * j) ∙ sym (Sz_is table p k)) (through (λ w j. w.x) ∙ sym (Sx_is table p k))
        (ap (λ w. w.q) top) (ap (λ w. w.c) top)

  pub kept_sums : {sums : List Sums} → Filled no_sums (λ r. sums_from (up_to (waterline_of r) lines)) (length lines - waterline_of 0) sums → MakesSums table p sums
  kept_sums filled = record { each = record { at = λ r h. filled.at r (omega (arith, kept.long)) ∙ sums_are (omega arith) } }
