-- What an answered call tells.
--     Told, found_told        the tests were passed; the profile and the levers are the definition's
--     refused_left            after a refusal the levers are what they were
-- Assumes nothing.
use mathlib.Core.Path.{◌≡◌, refl, sym, ap, ◌∙◌}
use mathlib.Core.List.{List}
use Prim.Native.Nat.{ℕ}
use borrow.Author.Tests.{not-false, eqb-true, ltb-false}
use lib.IntN.{ℤ}
use lib.ListN.{length}
use Rattle.std.specs.Prelude.{Ok, Err}
use Rattle.ranges.specs.Refusals.{out_of_range, wrong_size}
use Rattle.ranges.specs.declared.refusal.Refusal.{Refusal}
use Rattle.ranges.proofs.Outcomes.{answer_same, not_refused}
use Rattle.levers.specs.Criterion.{GM, profile}
use Rattle.levers.specs.Levers.{GZ, at_each}
use Rattle.levers.specs.Promise.{count, outside, profile_of, levers_after, MakesProfile}
use Rattle.levers.specs.Sines.{angle_count}
use Rattle.levers.specs.declared.Profile.{Profile}
use Rattle.levers.proofs.Trying.{Inside, inside}

pub record Told (kn : List ℕ) (km kg : ℕ) (after : List ℤ) (p : Profile) : Type 0 where
  pub as_many : length kn ≡ angle_count
  pub is_in_range : Inside kn km kg
  pub profile_is : p ≡ profile (GZ kn kg) (GM km kg)
  pub levers_are : after ≡ at_each (GZ kn kg)

module _ {kn : List ℕ} {km kg : ℕ} where
  pub found_told : {gz after : List ℤ} {p : Profile} → MakesProfile kn km kg gz after (Ok p) → Told kn km kg after p
  unfolding profile_of
  found_told {gz} {p} made =
      let first = not_refused wrong_size 0 (sym made.answer_is) in
      let second = not_refused out_of_range (outside kn km kg) first.1 in
      let many = eqb-true (length kn) angle_count (not-false _ first.0) in
      record {
        as_many = many;
        is_in_range = inside kn km kg many refl (ltb-false (outside kn km kg) count second.0);
        profile_is = sym (answer_same second.1);
        levers_are = made.left ∙ sym (ap (λ o. levers_after kn kg o gz) made.answer_is);
      }

  pub refused_left : {gz after : List ℤ} {r : Refusal} → MakesProfile kn km kg gz after (Err r) → after ≡ gz
  refused_left {gz} made = made.left ∙ sym (ap (λ o. levers_after kn kg o gz) made.answer_is)
