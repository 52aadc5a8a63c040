-- A refusal has one of the paper's numbers (`Numbered` of specs); so none has 0. Each part that definitions are made of keeps this.
--     answered_numbered     an answer
--     refused_numbered      a refusal with such a number
--     numbered_of_the_paper, refused_of_the_paper     what is so is `OfThePaper`; and so is a refusal by its bounds alone
--     passed_on             a refusal that is passed on, in place of another answer
--     if_numbered           a test, if both ways are
--     then_numbered         a step, if what stands before it and all that may follow are
--     with_numbered         an answer with a part of its values in their place
--     numbered              all of these, for a definition of tests: `search numbered`, and `depth` by the count of tests
-- Assumes nothing.
use mathlib.Core.Path.{◌≡◌, refl, sym}
use mathlib.Core.Bool.{Bool, true}
use Prim.Native.Nat.{ℕ, ◌≤◌}
use native.Mathlib.Omega.{arith}
use lib.Dec.{lit≤}
use Rattle.arithmetic.specs.Choice.{when◌then◌else◌}
use Rattle.arithmetic.proofs.Choice.{if_either}
use Rattle.ranges.specs.Outcome.{Outcome, answered, refused, and_then, answer_with, OfThePaper, Numbered}
use Rattle.ranges.specs.Refusals.{first_refusal, last_refusal, is_given}
use Rattle.ranges.proofs.Outcomes.{refused_not}

pub answered_numbered : {A : Type 0} (a : A) → Numbered (answered a)
answered_numbered a = record { of_the_paper = λ e. refused_not (sym e); by_a_call = λ e. refused_not (sym e) }

pub refused_numbered : {A : Type 0} {number place : ℕ} → first_refusal ≤ number → number ≤ last_refusal → is_given number ≡ true → Numbered {A = A} (refused number place)
refused_numbered {number} first last given = record {
  of_the_paper = λ {number = n} e. let same : number ≡ n = cc in (omega arith, omega arith);
  by_a_call = λ {number = n} e. let same : number ≡ n = cc in rw same at given;
}

pub numbered_of_the_paper : {A : Type 0} {o : Outcome A} → Numbered o → OfThePaper o
numbered_of_the_paper h = record { of_the_paper = h.of_the_paper }

pub refused_of_the_paper : {A : Type 0} {number place : ℕ} → first_refusal ≤ number → number ≤ last_refusal → OfThePaper {A = A} (refused number place)
refused_of_the_paper {number} first last = record { of_the_paper = λ {number = n} e. let same : number ≡ n = cc in (omega arith, omega arith) }

pub passed_on : {A B : Type 0} {number place : ℕ} → Numbered {A = A} (refused number place) → Numbered {A = B} (refused number place)
passed_on h = let numbers = h.of_the_paper refl in refused_numbered numbers.0 numbers.1 (h.by_a_call refl)

-- ---- tests
pub if_numbered : {A : Type 0} {a b : Outcome A} (t : Bool) → Numbered a → Numbered b → Numbered (when t then a else b)
if_numbered t x y = if_either Numbered t (λ e. x) (λ e. y)

-- ---- steps
pub then_numbered : {A B : Type 0} {o : Outcome A} {next : A → Outcome B} → Numbered o → ((a : A) → Numbered (next a)) → Numbered (and_then o next)
unfolding and_then
then_numbered {o = answered a} first further = further a
then_numbered {o = refused number place} first further = passed_on first

pub with_numbered : {A B : Type 0} (part : A → B) (o : Outcome A) → Numbered o → Numbered (answer_with part o)
unfolding answer_with
with_numbered part (answered a) h = answered_numbered (part a)
with_numbered part (refused number place) h = passed_on h

pub ruleset numbered = (answered_numbered, refused_numbered, if_numbered, then_numbered, lit≤, tt, refl)
