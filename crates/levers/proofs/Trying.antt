-- The tests, in the paper's order.
--     kn_outside, height_outside           where the first number out of range stands
--     place_told                           the place as the code answers it
--     Inside, inside                       what it tells that none is
--     refused_size, refused_range, found   what the call comes to, test by test
-- Assumes nothing.
use mathlib.Core.Path.{◌≡◌, sym, ap, ◌∙◌}
use mathlib.Core.List.{List, [], ◌∷◌, map}
use Prim.Native.Nat.{ℕ, ◌+◌, ◌≤◌, ◌<◌}
use native.Mathlib.Omega.{arith}
use borrow.Author.Tests.{lt-ltb, le-ltb, eq-eqb, ne_eqb}
use lib.IntN.{pos}
use lib.ListN.{length, get_or, length-map}
use Rattle.arithmetic.proofs.Choice.{chosen}
use Rattle.ranges.specs.Fields.{most, metacentre, cross_lever, cross_curve, heights}
use Rattle.ranges.specs.Outcome.{answered, refused}
use Rattle.ranges.specs.Outside.{first_outside}
use Rattle.ranges.specs.Refusals.{out_of_range, wrong_size}
use Rattle.ranges.proofs.Facts.{all_within, within_whole, wholes_in_range}
use Rattle.ranges.proofs.Outside.{then_within, then_after, then_inside, place_some}
use Rattle.ranges.specs.Bounds.{place_in}
use Rattle.std.specs.Prelude.{Some}
use Rattle.levers.specs.Criterion.{GM, profile}
use Rattle.levers.specs.Levers.{GZ}
use Rattle.levers.specs.Promise.{count, outside, profile_of}
use Rattle.levers.specs.Sines.{angle_count}

module _ (kn : List ℕ) (km kg : ℕ) where
  abbrev in_heights : ℕ
  in_heights = first_outside heights (map pos (km ∷ kg ∷ []))

  -- ---- the first number outside
  module _ {r : ℕ} (e : r ≡ first_outside cross_curve (map pos kn)) where
    pub kn_outside : r < length kn → r ≡ outside kn km kg
    unfolding outside
    kn_outside h = e ∙ sym (then_within cross_curve (map pos kn) in_heights (omega (arith, e, length-map kn pos)))

    pub height_outside : length kn ≤ r → {s : ℕ} → s ≡ in_heights → length kn + s ≡ outside kn km kg
    unfolding outside
    height_outside h f = omega (arith, f, length-map kn pos, then_after cross_curve (map pos kn) in_heights (omega (arith, e, length-map kn pos)))

  -- the place as the code answers it
  pub place_told : {place : ℕ} → place ≡ outside kn km kg → place < count → Some place ≡ place_in count (outside kn km kg)
  place_told e l = ap Some e ∙ sym (place_some (omega (arith, e)))

  -- ---- none is outside
  pub record Inside : Type 0 where
    pub kn_most : (i : ℕ) → get_or kn i 0 ≤ most cross_lever
    pub km_most : km ≤ most metacentre
    pub kg_most : kg ≤ most metacentre

  pub inside : length kn ≡ angle_count → {place : ℕ} → place ≡ outside kn km kg → count ≤ place → Inside
  unfolding outside
  inside size e all =
      let told = then_inside cross_curve (map pos kn) in_heights (length heights) (omega (arith, size, length-map kn pos, e)) in
      let at = all_within heights (map pos (km ∷ kg ∷ [])) told.1 in
      record {
        kn_most = wholes_in_range cross_lever kn (omega (arith, told.0, length-map kn pos));
        km_most = (within_whole metacentre km (at 0 (omega arith))).1;
        kg_most = (within_whole metacentre kg (at 1 (omega arith))).1;
      }

  -- ---- what the call comes to
  pub refused_size : (length kn ≡ angle_count → ⊥) → refused wrong_size 0 ≡ profile_of kn km kg
  unfolding profile_of
  refused_size h = sym (simp (ne_eqb (length kn) angle_count h, chosen))

  module _ (size : length kn ≡ angle_count) {place : ℕ} (e : place ≡ outside kn km kg) where
    pub refused_range : place < count → refused out_of_range place ≡ profile_of kn km kg
    unfolding profile_of
    refused_range h = sym (rw (← e) (simp (eq-eqb (length kn) angle_count size, lt-ltb place count h, chosen)))

    pub found : count ≤ place → answered (profile (GZ kn kg) (GM km kg)) ≡ profile_of kn km kg
    unfolding profile_of
    found h = sym (rw (← e) (simp (eq-eqb (length kn) angle_count size, le-ltb place count h, chosen)))
