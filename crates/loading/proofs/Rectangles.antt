-- The free surface of a rectangular tank.
--     surface_none, surface_some                          none where the tank is not slack, and rounded up where it is
--     empty_parts, surface_empty, surface_pressed_up      none where the tank is empty or pressed up
--     surface_slack                                       rounded up where it is slack
--     parts_most, surface_most                            how large it can be
-- Assumes nothing.
use mathlib.Core.Path.{◌≡◌, sym, ap, ◌∙◌}
use mathlib.Core.Bool.{true, false, and-false}
use Prim.Native.Nat.{ℕ, ◌*◌, ◌^◌, ◌≤◌, ◌<◌}
use native.Mathlib.Nat.{mul-le-mul, pow-le-pow_left}
use native.Mathlib.Omega.{arith}
use borrow.Author.Tests.{lt-ltb, le-ltb}
use Rattle.arithmetic.specs.Rounding.{rounded_up}
use Rattle.arithmetic.proofs.Choice.{chosen, if_either}
use Rattle.arithmetic.proofs.Rounding.{up_of, up_zero, up_least}
use Rattle.loading.specs.Private.Aboard.{RoomOf, most_surface}
use Rattle.loading.specs.Load.{Tank}
use Rattle.loading.specs.Paper.{pressed_up, hundredths, slack, rectangle_parts, rectangle}
use Rattle.loading.specs.Rules.{surface_of}

pub parts_most : {length breadth density : ℕ} → RoomOf length breadth density → length * breadth ^ 3 * density ≤ most_surface * rectangle.unit
parts_most r = mul-le-mul (mul-le-mul r.length_most (pow-le-pow_left r.breadth_most 3)) r.density_most

module _ (t : Tank) where
  pub empty_parts : t.contents ≡ 0 → rectangle_parts t ≡ 0
  unfolding rectangle_parts slack
  empty_parts e = rw e (simp chosen)

  pressed_up_parts : pressed_up * t.capacity ≤ hundredths * t.contents → rectangle_parts t ≡ 0
  unfolding rectangle_parts slack
  pressed_up_parts h = simp (le-ltb (hundredths * t.contents) (pressed_up * t.capacity) h, and-false, chosen)

  pub surface_none : slack t ≡ false → 0 ≡ surface_of rectangle t
  unfolding rectangle_parts
  surface_none e = simp (e, chosen) (sym (up_zero (up_of 0 rectangle.unit (omega arith))))

  pub surface_some : slack t ≡ true → rounded_up (t.length * t.breadth ^ 3 * t.density) rectangle.unit ≡ surface_of rectangle t
  unfolding rectangle_parts
  surface_some e = simp (e, chosen)

  slack_parts : 0 < t.contents → hundredths * t.contents < pressed_up * t.capacity → rectangle_parts t ≡ t.length * t.breadth ^ 3 * t.density
  unfolding rectangle_parts slack
  slack_parts n h = simp (lt-ltb 0 t.contents n, lt-ltb (hundredths * t.contents) (pressed_up * t.capacity) h, chosen)

  none_of : rectangle_parts t ≡ 0 → 0 ≡ surface_of rectangle t
  none_of e = sym (ap (λ n. rounded_up n rectangle.unit) e ∙ up_zero (up_of 0 rectangle.unit (omega arith)))

  pub surface_empty : t.contents ≡ 0 → 0 ≡ surface_of rectangle t
  surface_empty e = none_of (empty_parts e)

  pub surface_pressed_up : pressed_up * t.capacity ≤ hundredths * t.contents → 0 ≡ surface_of rectangle t
  surface_pressed_up h = none_of (pressed_up_parts h)

  pub surface_slack : (t.contents ≡ 0 → ⊥) → hundredths * t.contents < pressed_up * t.capacity → rounded_up (t.length * t.breadth ^ 3 * t.density) rectangle.unit ≡ surface_of rectangle t
  surface_slack n h = ap (λ n. rounded_up n rectangle.unit) (sym (slack_parts (omega arith) h))

  parts_few : RoomOf t.length t.breadth t.density → rectangle_parts t ≤ most_surface * rectangle.unit
  unfolding rectangle_parts
  parts_few r = if_either (λ n. n ≤ most_surface * rectangle.unit) (slack t) (λ e. parts_most r) (λ e. omega arith)

  pub surface_most : RoomOf t.length t.breadth t.density → surface_of rectangle t ≤ most_surface
  surface_most r = (up_least (up_of (rectangle_parts t) rectangle.unit (omega arith)) most_surface).1 (parts_few r)
