-- What is refused, and in which order, by the request's own numbers; and that all else is found.
--     size_refused                             not thirteen numbers
--     kn_refused, km_refused, kg_refused       the first number out of its range
--     else_found                               where there is none
-- Assumes nothing.
use mathlib.Core.Path.{◌≡◌, sym, ◌∙◌}
use mathlib.Core.Bool.{true}
use mathlib.Core.List.{List, [], ◌∷◌, map}
use Prim.Native.Nat.{ℕ, zero, suc, ◌+◌, ◌%◌, ◌≤◌, ◌<◌}
use native.Mathlib.Omega.{arith}
use lib.IntN.{ℤ, pos}
use lib.ListN.{length, get_or}
use Rattle.std.specs.Prelude.{Result, Ok, Err}
use Rattle.ranges.specs.Fields.{◌to◌, within, heights}
use Rattle.ranges.specs.Outcome.{refused}
use Rattle.ranges.specs.Reasons.{number_of}
use Rattle.ranges.specs.declared.refusal.Reason.{Reason}
use Rattle.ranges.specs.declared.refusal.Reason.TheVariants.{OutOfRange, WrongSize}
use Rattle.ranges.specs.declared.refusal.Refusal.{Refusal}
use Rattle.ranges.specs.Outside.{first_outside}
use Rattle.ranges.proofs.Facts.{whole_within, not_within, all_inside, first_above, none_above}
use Rattle.ranges.proofs.Outcomes.{answer_known}
use Rattle.ranges.proofs.Outside.{outside_first}
use Rattle.levers.specs.Criterion.{GM, profile}
use Rattle.levers.specs.Levers.{GZ}
use Rattle.levers.specs.Promise.{outside, profile_of, MakesProfile}
use Rattle.levers.specs.declared.Profile.{Profile}
use Rattle.levers.proofs.Trying.{kn_outside, height_outside, refused_size, refused_range, found}

-- ---- KM and KG
module _ (km kg : ℕ) where
  abbrev numbers : List ℤ
  numbers = map pos (km ∷ kg ∷ [])

  first_km : 100_000 < km → 0 ≡ first_outside heights numbers
  first_km h = sym (outside_first heights numbers 0 (omega arith) (not_within 0 100_000 km (λ is_in_range. omega (arith, is_in_range.1))) (λ j l. absurd (omega arith)))

  then_kg : km ≤ 100_000 → 100_000 < kg → 1 ≡ first_outside heights numbers
  then_kg h k = sym (outside_first heights numbers 1 (omega arith) (not_within 0 100_000 kg (λ is_in_range. omega (arith, is_in_range.1))) before)
    where
      before : (j : ℕ) → j < 1 → within (get_or heights (j % 2) (1 to 0)) (get_or numbers j (pos 0)) ≡ true
      before zero l = whole_within 0 100_000 km (omega arith, h)
      before (suc j) l = absurd (omega arith)

  neither : km ≤ 100_000 → kg ≤ 100_000 → 2 ≡ first_outside heights numbers
  neither h k = sym (all_inside heights numbers each)
    where
      each : (j : ℕ) → j < 2 → within (get_or heights (j % 2) (1 to 0)) (get_or numbers j (pos 0)) ≡ true
      each zero l = whole_within 0 100_000 km (omega arith, h)
      each (suc zero) l = whole_within 0 100_000 kg (omega arith, k)
      each (suc (suc j)) l = absurd (omega arith)

-- ---- the answer
module _ {kn : List ℕ} {km kg : ℕ} {gz after : List ℤ} {answer : Result Profile Refusal} (made : MakesProfile kn km kg gz after answer) where
  abbrev refused_with : Reason → ℕ → Result Profile Refusal
  refused_with reason place = Err (record { reason = reason; place = place })

  refused_with_it : (reason : Reason) (place : ℕ) → refused (number_of reason) place ≡ profile_of kn km kg → answer ≡ refused_with reason place
  refused_with_it reason place e = answer_known answer (refused_with reason place) (made.answer_is ∙ sym e)

  pub size_refused : (length kn ≡ 13 → ⊥) → answer ≡ Err (record { reason = WrongSize; place = 0 })
  size_refused wrong = refused_with_it WrongSize 0 (refused_size kn km kg wrong)

  module _ (size : length kn ≡ 13) where
    pub kn_refused : (i : ℕ) → i < length kn → 20_000 < get_or kn i 0 → ((j : ℕ) → j < i → get_or kn j 0 ≤ 20_000) → answer ≡ Err (record { reason = OutOfRange; place = i })
    kn_refused i there above before =
        refused_with_it OutOfRange i (refused_range kn km kg size (kn_outside kn km kg (first_above 20_000 kn i there above before) there) (omega arith))

    module _ (in_table : (i : ℕ) → i < length kn → get_or kn i 0 ≤ 20_000) where
      at_place : (place s : ℕ) → place ≡ 13 + s → s ≡ first_outside heights (map pos (km ∷ kg ∷ [])) → place ≡ outside kn km kg
      at_place place s p e = omega (arith, size, height_outside kn km kg (none_above 20_000 kn in_table) (omega arith) e)

      pub km_refused : 100_000 < km → answer ≡ Err (record { reason = OutOfRange; place = 13 })
      km_refused h = refused_with_it OutOfRange 13 (refused_range kn km kg size (at_place 13 0 (omega arith) (first_km km kg h)) (omega arith))

      module _ (low : km ≤ 100_000) where
        pub kg_refused : 100_000 < kg → answer ≡ Err (record { reason = OutOfRange; place = 14 })
        kg_refused h = refused_with_it OutOfRange 14 (refused_range kn km kg size (at_place 14 1 (omega arith) (then_kg km kg low h)) (omega arith))

        pub else_found : kg ≤ 100_000 → (p : Profile) × (answer ≡ Ok p)
        else_found h =
            let p = profile (GZ kn kg) (GM km kg) in
            (p, answer_known answer (Ok p) (made.answer_is ∙ sym (found kn km kg size (at_place 15 2 (omega arith) (neither km kg low h)) (omega arith))))
