-- What is refused, and in which order, by the request's own numbers; and that all else is found.
--     size_refused                                                          unequal tables, or a wrong count
--     port_refused, starboard_refused, interval_refused, density_refused    the first number out of its range
--     else_found                                                            where there is none
-- Assumes nothing.
use mathlib.Core.Path.{◌≡◌, sym, ◌∙◌}
use mathlib.Core.Bool.{true}
use mathlib.Core.List.{List}
use Prim.Native.Nat.{ℕ, ◌+◌, ◌≤◌, ◌<◌}
use native.Mathlib.Omega.{arith}
use borrow.Author.Tests.{eq-eqb}
use lib.ListN.{length, get_or}
use Rattle.arithmetic.proofs.Tests.{by_test}
use Rattle.std.specs.Prelude.{Result, Ok, Err}
use Rattle.ranges.specs.Outcome.{refused}
use Rattle.ranges.specs.Reasons.{number_of}
use Rattle.ranges.specs.declared.refusal.Reason.{Reason}
use Rattle.ranges.specs.declared.refusal.Reason.TheVariants.{OutOfRange, WrongSize}
use Rattle.ranges.specs.declared.refusal.Refusal.{Refusal}
use Rattle.ranges.proofs.Facts.{whole_within, not_within, first_above, none_above}
use Rattle.ranges.proofs.Outcomes.{answer_known}
use Rattle.hoppers.specs.Hopper.{counts_fit, found, surface_of, MakesSurface}
use Rattle.hoppers.specs.declared.FreeSurface.{FreeSurface}
use Rattle.hoppers.proofs.Trying.{counts_told, port_outside, starboard_outside, interval_outside, density_outside, none_outside, refused_size, refused_range, surface_found}

-- ---- the answer
module _ {port starboard : List ℕ} {h density : ℕ} {answer : Result FreeSurface Refusal} (made : MakesSurface port starboard h density answer) where
  abbrev refused_with : Reason → ℕ → Result FreeSurface Refusal
  refused_with reason place = Err (record { reason = reason; place = place })

  -- the counts are right
  abbrev Counts : Type 0
  Counts = (length port ≡ length starboard) × (3 ≤ length port) × (length port ≤ 11)

  refused_with_it : (reason : Reason) (place : ℕ) → refused (number_of reason) place ≡ surface_of port starboard h density → answer ≡ refused_with reason place
  refused_with_it reason place e = answer_known answer (refused_with reason place) (made.answer_is ∙ sym e)

  pub size_refused : (((length port ≡ length starboard) × (3 ≤ length port) × (length port ≤ 11)) → ⊥) → answer ≡ Err (record { reason = WrongSize; place = 0 })
  size_refused wrong =
      refused_with_it WrongSize 0
      (refused_size port starboard h density
      (by_test (counts_fit (length port) (length starboard)) (λ t. absurd (wrong (counts_told (length port) (length starboard) t))) (λ e. e)))

  module _ (counts : (length port ≡ length starboard) × (3 ≤ length port) × (length port ≤ 11)) where
    fit : counts_fit (length port) (length starboard) ≡ true
    unfolding counts_fit
    fit = rw (eq-eqb (length port) (length starboard) counts.0, whole_within 3 11 (length port) (counts.1, counts.2))

    pub port_refused : (i : ℕ) → i < length port → 1_500 < get_or port i 0 → ((j : ℕ) → j < i → get_or port j 0 ≤ 1_500) → answer ≡ Err (record { reason = OutOfRange; place = i })
    port_refused i there above before =
        let e = port_outside port starboard h density (first_above 1_500 port i there above before) there in
        refused_with_it OutOfRange i (refused_range port starboard h density fit e (omega arith))

    module _ (to_port : (i : ℕ) → i < length port → get_or port i 0 ≤ 1_500) where
      pub starboard_refused : (i : ℕ) → i < length starboard → 1_500 < get_or starboard i 0 → ((j : ℕ) → j < i → get_or starboard j 0 ≤ 1_500) → answer ≡ Err (record { reason = OutOfRange; place = length port + i })
      starboard_refused i there above before =
          let e = starboard_outside port starboard h density (none_above 1_500 port to_port) (omega arith) (first_above 1_500 starboard i there above before) there in
          refused_with_it OutOfRange (length port + i) (refused_range port starboard h density fit e (omega arith))

      module _ (to_starboard : (i : ℕ) → i < length starboard → get_or starboard i 0 ≤ 1_500) where
        pub interval_refused : ((50 ≤ h) × (h ≤ 1_000) → ⊥) → answer ≡ Err (record { reason = OutOfRange; place = length port + length starboard })
        interval_refused out =
            let e = interval_outside port starboard h density (none_above 1_500 port to_port) (omega arith) (none_above 1_500 starboard to_starboard) (omega arith) (not_within 50 1_000 h out) in
            refused_with_it OutOfRange (length port + length starboard) (refused_range port starboard h density fit e (omega arith))

        module _ (interval : (50 ≤ h) × (h ≤ 1_000)) where
          pub density_refused : ((1 ≤ density) × (density ≤ 1_500) → ⊥) → answer ≡ Err (record { reason = OutOfRange; place = length port + length starboard + 1 })
          density_refused out =
              let e = density_outside port starboard h density (none_above 1_500 port to_port) (omega arith) (none_above 1_500 starboard to_starboard) (omega arith) (whole_within 50 1_000 h interval) (not_within 1 1_500 density out) in
              refused_with_it OutOfRange (length port + length starboard + 1) (refused_range port starboard h density fit e (omega arith))

          pub else_found : (1 ≤ density) × (density ≤ 1_500) → (s : FreeSurface) × (answer ≡ Ok s)
          else_found liquid =
              let e = none_outside port starboard h density (none_above 1_500 port to_port) (omega arith) (none_above 1_500 starboard to_starboard) (omega arith) (whole_within 50 1_000 h interval) (whole_within 1 1_500 density liquid) in
              let s = found port starboard h density in
              (s, answer_known answer (Ok s) (made.answer_is ∙ sym (surface_found port starboard h density fit e (omega arith))))
