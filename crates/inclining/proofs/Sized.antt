-- The sizes of the lent tables.
--     shifts_by, shifts_told                     so many numbers as shifts
--     wrong_shifts, wrong_off, wrong_on, short_room, none_wrong      the first table of a wrong size
--     Sized, sized                               what it tells that none is
-- Assumes nothing.
use mathlib.Core.Path.{◌≡◌, sym, ap, ◌∙◌}
use mathlib.Core.Bool.{Bool, true, false, ◌&&◌}
use Prim.Native.Nat.{ℕ, ◌/◌, ◌%◌, ◌≤◌, ◌<◌}
use native.Mathlib.Omega.{arith}
use borrow.Author.Tests.{eq-eqb, eqb-true, lt-ltb, le-ltb, ltb-true, ltb-false}
use lib.Dec.{eqb, ltb}
use lib.IntN.{pos}
use Rattle.arithmetic.proofs.Choice.{chosen}
use Rattle.arithmetic.proofs.Tests.{both, by_test}
use Rattle.ranges.specs.Fields.{within, least, most}
use Rattle.ranges.specs.Sizes.{shift_width}
use Rattle.ranges.proofs.Facts.{within_whole}
use Rattle.inclining.specs.Inclining.{shift_count, shifts_fit, items_fit, shift_table, off_table, on_table, gm_table}
use Rattle.inclining.specs.Private.Heeling.{table_count, wrong_table}

-- ---- shifts
module _ (count : ℕ) where
  pub shifts_by : {r : Bool} → count % shift_width ≡ 0 → r ≡ within shift_count (pos (count / shift_width)) → r ≡ shifts_fit count
  unfolding shifts_fit
  shifts_by whole e = e ∙ sym (ap (λ t. t && within shift_count (pos (count / shift_width))) (eq-eqb (count % shift_width) 0 whole))

  pub shifts_told : shifts_fit count ≡ true → (count % shift_width ≡ 0) × (least shift_count ≤ count / shift_width) × (count / shift_width ≤ most shift_count)
  unfolding shifts_fit
  shifts_told e =
      let h = both (eqb (count % shift_width) 0) (within shift_count (pos (count / shift_width))) e in
      let so = within_whole shift_count (count / shift_width) h.1 in
      (eqb-true (count % shift_width) 0 h.0, so.0, so.1)

-- ---- all four
module _ (shifts off on room : ℕ) where
  pub record Sized : Type 0 where
    pub shifts_are_fit : shifts_fit shifts ≡ true
    pub off_fits : items_fit off ≡ true
    pub on_fits : items_fit on ≡ true
    pub room_enough : shifts / shift_width ≤ room

  pub wrong_shifts : shifts_fit shifts ≡ false → shift_table ≡ wrong_table shifts off on room
  unfolding wrong_table
  wrong_shifts e = sym (simp (e, chosen))

  module _ (s : shifts_fit shifts ≡ true) where
    pub wrong_off : items_fit off ≡ false → off_table ≡ wrong_table shifts off on room
    unfolding wrong_table
    wrong_off e = sym (simp (s, e, chosen))

    module _ (f : items_fit off ≡ true) where
      pub wrong_on : items_fit on ≡ false → on_table ≡ wrong_table shifts off on room
      unfolding wrong_table
      wrong_on e = sym (simp (s, f, e, chosen))

      module _ (n : items_fit on ≡ true) where
        pub short_room : room < shifts / shift_width → gm_table ≡ wrong_table shifts off on room
        unfolding wrong_table
        short_room h = sym (simp (s, f, n, lt-ltb room (shifts / shift_width) h, chosen))

        pub none_wrong : shifts / shift_width ≤ room → 4 ≡ wrong_table shifts off on room
        unfolding wrong_table
        none_wrong h = sym (simp (s, f, n, le-ltb room (shifts / shift_width) h, chosen))

  pub sized : table_count ≤ wrong_table shifts off on room → Sized
  sized all =
      by_test (shifts_fit shifts)
      (λ s. by_test (items_fit off)
      (λ f. by_test (items_fit on)
      (λ n. by_test (ltb room (shifts / shift_width))
      (λ t. absurd (omega (arith, short_room s f n (ltb-true room (shifts / shift_width) t))))
      (λ t. record { shifts_are_fit = s; off_fits = f; on_fits = n; room_enough = ltb-false room (shifts / shift_width) t }))
      (λ e. absurd (omega (arith, wrong_on s f e))))
      (λ e. absurd (omega (arith, wrong_off s e))))
      (λ e. absurd (omega (arith, wrong_shifts e)))
