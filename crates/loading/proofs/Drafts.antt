-- The draft given is the greatest whole one whose straight-line displacement does not exceed W; so heavier never floats higher.
-- By recursion on where W falls: on one line it is the rounding down, and lines follow one another upwards.
--     draft_in_table             the draft given is one of the table's
--     draft_bears                the drafts up to the one given are those that W bears
--     draft_is_greatest          so it is the greatest of those,
--     greatest_unique            of which there is only one
--     heavier_draft              the heavier has the greater draft, or the same
-- Assumes nothing.
use mathlib.Core.Path.{◌≡◌, ap, ◌∙◌}
use mathlib.Core.List.{List, [], ◌∷◌}
use mathlib.Core.Logic.{◌↔◌}
use Prim.Native.Nat.{ℕ, ◌+◌, ◌-◌, ◌*◌, ◌/◌, ◌≤◌, ◌<◌}
use native.Mathlib.Nat.{mul-add, add-mul, mul_comm, mul-zero, mul-le-mul_right, mul-lt-mul_of_pos_left, mul-lt-mul_of_pos_right, lt_of_mul-lt-mul_right, le_of_lt, le_refl, le_trans, le_antisymm, add-zero}
use native.Mathlib.Omega.{arith}
use borrow.Author.Tests.{ltb-true, ltb-false}
use lib.Dec.{ltb}
use Rattle.arithmetic.specs.Choice.{when◌then◌else◌}
use Rattle.arithmetic.proofs.Choice.{if_either}
use Rattle.arithmetic.proofs.Ring.{ring}
use Rattle.arithmetic.proofs.Rounding.{RoundedDown, down_of, down_greatest}
use Rattle.hydrostatics.specs.declared.Row.{Row}
use Rattle.loading.proofs.Laws.{Waterlines, last, next, Usable}
use Rattle.loading.specs.Straight.{straight_from, straight, InTable, Greatest}
use Rattle.loading.specs.Private.Afloat.{Within}
use Rattle.loading.specs.Table.{Table, last_from, Place, spacing, line, draft_at, draft_of}
use Rattle.loading.proofs.Places.{Falls, here, inside, further, place_falls}

-- each row heavier than the one before it, and deeper by d
data Rising (d : ℕ) : Row → List Row → Type 0 where
  top : {r : Row} → Rising d r []
  up : {r s : Row} {rest : List Row} → r.displacement < s.displacement → s.draft ≡ r.draft + d → Rising d s rest → Rising d r (s ∷ rest)

first_draft : {d k : ℕ} {r : Row} {rest : List Row} → Waterlines d k r rest → r.draft ≡ d * k
first_draft (last e) = e
first_draft (next e h w) = e

step_draft : (d k a b : ℕ) → a ≡ d * k → b ≡ d * (k + 1) → b ≡ a + d
step_draft d k a b e f = omega (arith, simp ring at f)

rising : {d k : ℕ} {r : Row} {rest : List Row} → Waterlines d k r rest → Rising d r rest
rising (last e) = top
rising {d} (next {k = k} {r = r} {s = s} e h w) = up h (step_draft d k r.draft s.draft e (first_draft w)) (rising w)

-- both hold, or neither
both : {A B : Type 0} → A → B → A ↔ B
both a b = (λ _. b, λ _. a)

neither : {A B : Type 0} → (A → ⊥) → (B → ⊥) → A ↔ B
neither a b = (λ x. absurd (a x), λ y. absurd (b y))

abbrev line_from : Row → Row → ℕ → ℕ
line_from r s z = line r.displacement s.displacement r.draft s.draft z

abbrev rise : Row → Row → ℕ
rise r s = s.displacement - r.displacement

-- ---- the line between two neighbours
module _ (d : ℕ) (r s : Row) (heavier : r.displacement < s.displacement) (deeper : s.draft ≡ r.draft + d) where
  line_is : (z : ℕ) → r.draft ≤ z → z ≤ s.draft → line_from r s z ≡ r.displacement * d + (z - r.draft) * rise r s
  line_is z l m =
      let y = z - r.draft in
      let p : d ≡ (s.draft - z) + y = omega arith in
      let q : s.displacement ≡ r.displacement + rise r s = omega arith in
      omega (
        arith,
        ap (λ n. r.displacement * n) p ∙ mul-add r.displacement (s.draft - z) y,
        ap (λ n. n * y) q ∙ add-mul r.displacement (rise r s) y,
        mul_comm (rise r s) y,
      )

  weight_is : (W : ℕ) → r.displacement ≤ W → W * d ≡ r.displacement * d + d * (W - r.displacement)
  weight_is W l =
      let p : W ≡ r.displacement + (W - r.displacement) = omega arith in
      omega (arith, ap (λ n. n * d) p ∙ add-mul r.displacement (W - r.displacement) d, mul_comm (W - r.displacement) d)

  module _ (W q : ℕ) (from : r.displacement ≤ W) (down : RoundedDown (d * (W - r.displacement)) (rise r s) q) where
    on_line : (z : ℕ) → r.draft ≤ z → z ≤ s.draft → (z ≤ r.draft + q) ↔ (line_from r s z ≤ W * d)
    on_line z l m =
        let g = down_greatest down (z - r.draft) in
        let e = line_is z l m in
        let f = weight_is W from in
        (λ h. omega (arith, g.0 (omega arith)), λ h. omega (arith, g.1 (omega arith)))

    short : 0 < d → W < s.displacement → q < d
    short some to =
        let k : W - r.displacement < rise r s = omega arith in
        let m : q * rise r s < d * rise r s = omega (arith, mul-lt-mul_of_pos_left k some) in
        lt_of_mul-lt-mul_right (rise r s) m

-- ---- the lines, one after another
module _ (d : ℕ) (some : 0 < d) where
  -- no draft from a row on bears less than that row
  straight_low : {r : Row} {rest : List Row} → Rising d r rest → (z : ℕ) → r.draft ≤ z → r.displacement * d ≤ straight_from d r rest z
  unfolding straight_from
  straight_low top z l = omega arith
  straight_low (up {r = r} {s = s} h e k) z l =
      if_either (λ n. r.displacement * d ≤ n) (ltb z s.draft)
      (λ c. omega (arith, line_is d r s h e z l (le_of_lt (ltb-true z s.draft c))))
      (λ c. omega (arith, straight_low k z (ltb-false z s.draft c), mul-le-mul_right d (le_of_lt h)))

  last_deep : {r : Row} {rest : List Row} → Rising d r rest → r.draft ≤ (last_from r rest).draft
  last_deep top = omega arith
  last_deep (up h e k) = omega (arith, last_deep k)

  module _ (W : ℕ) where
    down_here : (r s : Row) → r.displacement < s.displacement → RoundedDown (d * (W - r.displacement)) (rise r s) (d * (W - r.displacement) / rise r s)
    down_here r s h = down_of (d * (W - r.displacement)) (rise r s) (omega arith)

    draft_low : {r : Row} {rest : List Row} {p : Place} → Rising d r rest → Falls W r rest p → r.draft ≤ draft_at d p W
    draft_low top (here e) = omega arith
    draft_low (up h g k) (here e) = omega arith
    draft_low (up h g k) (inside a b) = omega arith
    draft_low (up h g k) (further a f) = omega (arith, draft_low k f)

    draft_high : {r : Row} {rest : List Row} {p : Place} → Rising d r rest → Falls W r rest p → draft_at d p W ≤ (last_from r rest).draft
    draft_high top (here e) = omega arith
    draft_high (up h g k) (here e) = omega (arith, last_deep k)
    draft_high (up {r = r} {s = s} h g k) (inside a b) =
        omega (arith, last_deep k, short d r s h g W _ (le_of_lt a) (down_here r s h) some b)
    draft_high (up h g k) (further a f) = draft_high k f

    module _ (r s : Row) (rest : List Row) (h : r.displacement < s.displacement) (g : s.draft ≡ r.draft + d) (z : ℕ) (l : r.draft ≤ z) where
      -- W lies below the next row
      below_next : (q : ℕ) → Rising d s rest → RoundedDown (d * (W - r.displacement)) (rise r s) q → r.displacement ≤ W → W < s.displacement → (z ≤ r.draft + q) ↔ ((when ltb z s.draft then line_from r s z else straight_from d s rest z) ≤ W * d)
      below_next q k down from to =
          if_either (λ n. (z ≤ r.draft + q) ↔ (n ≤ W * d)) (ltb z s.draft)
          (λ e. on_line d r s h g W q from down z l (le_of_lt (ltb-true z s.draft e)))
          (λ e.
          let m = ltb-false z s.draft e in
          neither
          (λ x. omega (arith, short d r s h g W q from down some to))
          (λ x. omega (arith, straight_low k z m, mul-lt-mul_of_pos_right to some)))

      -- W lies at the next row or above
      from_next : (draft : ℕ) → s.draft ≤ draft → s.displacement ≤ W → (s.draft ≤ z → (z ≤ draft) ↔ (straight_from d s rest z ≤ W * d)) → (z ≤ draft) ↔ ((when ltb z s.draft then line_from r s z else straight_from d s rest z) ≤ W * d)
      from_next draft m to again =
          if_either (λ n. (z ≤ draft) ↔ (n ≤ W * d)) (ltb z s.draft)
          (λ e.
          let i : z ≤ s.draft = le_of_lt (ltb-true z s.draft e) in
          let o : z - r.draft ≤ d = omega arith in
          both (omega arith)
          (omega (arith, line_is d r s h g z l i, mul-le-mul_right (rise r s) o, mul-le-mul_right d to, weight_is d r s h g s.displacement (le_of_lt h))))
          (λ e. again (ltb-false z s.draft e))

    bears : {r : Row} {rest : List Row} {p : Place} → Rising d r rest → Falls W r rest p → (z : ℕ) → r.draft ≤ z → z ≤ (last_from r rest).draft → (z ≤ draft_at d p W) ↔ (straight_from d r rest z ≤ W * d)
    unfolding straight_from
    bears top (here e) z l m = both m (mul-le-mul_right d (omega arith))
    bears (up {r = r} {s = s} {rest = rest} h g k) (here e) z l m =
        let n : W - r.displacement ≡ 0 = omega arith in
        let none : RoundedDown (d * (W - r.displacement)) (rise r s) 0 = record { some = omega arith; low = omega arith; high = omega (arith, ap (λ n. d * n) n ∙ mul-zero d) } in
        rw add-zero at (below_next r s rest h g z l 0 k none (omega arith) (omega arith))
    bears (up {r = r} {s = s} {rest = rest} h g k) (inside a b) z l m =
        below_next r s rest h g z l _ k (down_here r s h) (le_of_lt a) b
    bears (up {r = r} {s = s} {rest = rest} h g k) (further {p = p} a f) z l m =
        from_next r s rest h g z l (draft_at d p W) (draft_low k f) a (λ n. bears k f z n m)

-- ---- the table
module _ (t : Table) (usable : Usable t) where
  abbrev rows : Rising (spacing t) t.first t.rest
  rows = rising usable.waterlines

  pub draft_in_table : (W : ℕ) → Within t W → InTable t (draft_of t W)
  draft_in_table W w = record {
    shallow = draft_low (spacing t) usable.spaced W rows (place_falls t W w);
    deep = draft_high (spacing t) usable.spaced W rows (place_falls t W w);
  }

  pub draft_bears : (W : ℕ) → Within t W → (z : ℕ) → InTable t z → (z ≤ draft_of t W) ↔ (straight t z ≤ W * spacing t)
  draft_bears W w z i = bears (spacing t) usable.spaced W rows (place_falls t W w) z i.shallow i.deep

  pub draft_is_greatest : (W : ℕ) → Within t W → Greatest t W (draft_of t W)
  draft_is_greatest W w =
      let i = draft_in_table W w in record {
        there = i;
        borne = (draft_bears W w (draft_of t W) i).0 (le_refl (draft_of t W));
        greatest = λ z j. (draft_bears W w z j).1;
      }

  pub greatest_unique : (W y z : ℕ) → Greatest t W y → Greatest t W z → y ≡ z
  greatest_unique W y z g h = le_antisymm (h.greatest y g.there g.borne) (g.greatest z h.there h.borne)

  pub heavier_draft : (light heavy : ℕ) → Within t light → Within t heavy → light ≤ heavy → draft_of t light ≤ draft_of t heavy
  heavier_draft light heavy v w h =
      let g = draft_is_greatest light v in
      (draft_is_greatest heavy w).greatest (draft_of t light) g.there (le_trans g.borne (mul-le-mul_right (spacing t) h))
