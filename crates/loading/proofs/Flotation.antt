-- Where a weight within a usable table floats.
--     line_below, line_above         a straight line is nowhere above its higher end, nor below its lower one
--     line_most                      so it is a KM at most, if its ends are
--     floats_on                      draft and KM at a row's own weight
--     next_there                     at any other weight there is a row above,
--     km_line, draft_line            W lies between the two,
--     floats_between                 and the draft lies on the straight line, and KM where it is read
-- Assumes nothing.
use mathlib.Core.Path.{◌≡◌, refl, sym, ap, ◌∙◌}
use mathlib.Core.List.{List}
use Prim.Native.Nat.{ℕ, ◌+◌, ◌-◌, ◌*◌, ◌/◌, ◌≤◌, ◌<◌}
use native.Mathlib.Nat.{mul-le-mul_right, mul-add, zero-mul, zero-add}
use native.Mathlib.Decide.{dec_lt}
use native.Mathlib.Omega.{arith}
use Rattle.arithmetic.proofs.Rounding.{down_of, down_mono, down_whole}
use Rattle.ranges.specs.Fields.{highest_metacentre, most}
use Rattle.ranges.specs.Private.InRange.{row_range}
use Rattle.hydrostatics.specs.Usable.{row_in, spacing}
use Rattle.hydrostatics.specs.declared.Row.{Row}
use Rattle.loading.specs.Private.Afloat.{count_of, RowsUsable, RowBelow, OnLine, Floats, Within}
use Rattle.loading.specs.Paper.{rule_of}
use Rattle.loading.specs.Table.{Place, on, between, hull, last_row, place_of, draft_at, line}
use Rattle.loading.specs.declared.Reading.{Reading}
use Rattle.loading.specs.declared.Reading.TheVariants.{Lesser, StraightLine}
use Rattle.loading.proofs.Readings.{own_weight}
use Rattle.loading.proofs.Tables.{last_row_of_table, place_on, place_between}
use Rattle.loading.proofs.Usability.{UsableRow, usable_at}

-- a line whose ends are no higher is no higher, and one whose ends are level is level
module _ (lo hi w : ℕ) (low : lo ≤ w) (high : w < hi) where
  level : (c : ℕ) → line c c lo hi w ≡ c * (hi - lo)
  level c =
      let span : hi - lo ≡ (hi - w) + (w - lo) = omega arith in
      sym (ap (λ n. c * n) span ∙ mul-add c (hi - w) (w - lo))

  line_mono : (a b c d : ℕ) → a ≤ c → b ≤ d → line a b lo hi w ≤ line c d lo hi w
  line_mono a b c d h k = omega (arith, mul-le-mul_right (hi - w) h, mul-le-mul_right (w - lo) k)

  pub line_below : (a b top : ℕ) → a ≤ top → b ≤ top → line a b lo hi w / (hi - lo) ≤ top
  line_below a b top h k =
      let some : 0 < hi - lo = omega arith in
      down_mono (down_of (line a b lo hi w) (hi - lo) some) (down_whole top (hi - lo) some) (omega (arith, level top, line_mono a b top top h k))

  pub line_above : (a b least : ℕ) → least ≤ a → least ≤ b → least ≤ line a b lo hi w / (hi - lo)
  line_above a b least h k =
      let some : 0 < hi - lo = omega arith in
      down_mono (down_whole least (hi - lo) some) (down_of (line a b lo hi w) (hi - lo) some) (omega (arith, level least, line_mono least least a b h k))

pub line_most : {a b lo hi w : ℕ} → OnLine a b lo hi w → line a b lo hi w / (hi - lo) ≤ highest_metacentre
line_most {a} {b} {lo} {hi} {w} l = line_below lo hi w l.low l.high a b highest_metacentre l.first l.second

-- a weight within a usable table, and the row below it
pub record Afloat (rows : List ℕ) (W r : ℕ) (row : Row) : Type 0 where
  pub usable : RowsUsable rows (count_of rows)
  pub within : Within (hull rows) W
  pub below : RowBelow rows W r
  pub here : row ≡ row_in rows r

-- and neither is KM, however it is read
km_most : (reading : Reading) (r s : Row) {W : ℕ} → OnLine r.km s.km r.displacement s.displacement W → (rule_of reading).given (between r s) W ≤ highest_metacentre
km_most Lesser r s l = omega (arith, l.first)
km_most StraightLine r s l = line_most l

module _ {rows : List ℕ} {W r : ℕ} {row : Row} (a : Afloat rows W r row) where
  at_place : (reading : Reading) (p : Place) → place_of (hull rows) W ≡ p → (d k : ℕ) → d ≡ draft_at (spacing rows) p W → k ≡ (rule_of reading).given p W → k ≤ highest_metacentre → Floats reading rows W (record { draft = d; km = k })
  at_place reading p e d k f g h = record {
    draft = f ∙ ap (λ q. draft_at (spacing rows) q W) (sym e);
    km = g ∙ ap (λ q. (rule_of reading).given q W) (sym e);
    km_most = h;
  }

  row_usable : UsableRow rows r
  row_usable = usable_at rows (count_of rows) a.usable r a.below.there

  pub floats_on : (reading : Reading) → W ≡ row.displacement → Floats reading rows W (record { draft = row.draft; km = row.km })
  floats_on reading e =
      let own : W ≡ (row_in rows r).displacement = e ∙ ap (λ s. s.displacement) a.here in
      rw a.here
      (at_place reading (on (row_in rows r)) (a.below.falls ∙ place_on rows (count_of rows) r W a.below.next_above a.below.there own) _ _
      refl (sym (own_weight reading (row_in rows r) W)) row_usable.ranged.km.1)

  module _ (n : W ≡ row.displacement → ⊥) where
    not_own : W ≡ (row_in rows r).displacement → ⊥
    not_own e = n (e ∙ ap (λ s. s.displacement) (sym a.here))

    pub next_there : r + 1 < count_of rows
    next_there = by_order (dec_lt (r + 1) (count_of rows))
      where
        by_order : Dec (r + 1 < count_of rows) → r + 1 < count_of rows
        by_order (yes h) = h
        by_order (no h) =
            let b = a.below in
            let e : count_of rows - 1 ≡ r = omega arith in
            let last : last_row (hull rows) ≡ row_in rows r = last_row_of_table rows (count_of rows) (omega arith) ∙ ap (row_in rows) e in
            absurd (not_own (omega (arith, b.not_above, a.within.most, ap (λ s. s.displacement) last)))

    -- the next row
    module _ {next : Row} (above : next ≡ row_in rows (r + 1)) where
      next_usable : UsableRow rows (r + 1)
      next_usable = usable_at rows (count_of rows) a.usable (r + 1) next_there

      pub km_line : OnLine row.km next.km row.displacement next.displacement W
      km_line =
          rw (a.here, above)
          (record {
            low = a.below.not_above;
            high = a.below.next_above next_there;
            most = next_usable.ranged.displacement.1;
            first = row_usable.ranged.km.1;
            second = next_usable.ranged.km.1;
          })

      -- and the distance between waterlines
      module _ {d : ℕ} (half : d ≡ spacing rows) where
        pub draft_line : OnLine 0 d row.displacement next.displacement W
        draft_line =
            let l = km_line in
            record { low = l.low; high = l.high; most = l.most; first = omega arith; second = omega (arith, row_usable.spacing_most) }

        module _ {more : ℕ} (e : more ≡ line 0 d row.displacement next.displacement W / (next.displacement - row.displacement)) where
          pub draft_fits : row.draft + more ≤ most (row_range 0) + highest_metacentre
          draft_fits = rw e (omega (arith, line_most draft_line, row_usable.ranged.draft.1, ap (λ s. s.draft) a.here))

          pub floats_between : (reading : Reading) {km : ℕ} → km ≡ (rule_of reading).given (between row next) W → Floats reading rows W (record { draft = row.draft + more; km = km })
          floats_between reading f =
              let most = km_most reading row next km_line in
              rw (e, f, half)
              (at_place reading (between row next)
              (a.below.falls ∙ place_between rows (count_of rows) r W next_there (a.below.next_above next_there) not_own ∙ sym (rw (a.here, above)))
              _ _ (simp (zero-mul, zero-add)) refl most)
