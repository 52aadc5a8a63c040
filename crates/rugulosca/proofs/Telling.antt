-- What is left when a call's outcome is known.
--     told          the values of an answer
--     declined      a refusal
--     told_apart    an outcome that is told by 0 is an answer
--     tells_unique  one outcome is told in one way
--     same_values, same_tangent    equal outcomes leave the same
--     tells_as, condition_as       what is told of an outcome is told of any that is equal to it
--     rows_at, written_at, ship_at    the promises beneath, at particulars and tests that are equal
-- Assumes nothing.
use Prim.Native.Nat.{ℕ}
use mathlib.Core.Path.{◌≡◌, refl, ap, subst}
use mathlib.Core.List.{List}
use native.Mathlib.Omega.{arith}
use lib.Ieee.{Float}
use lib.IntN.{ℤ}
use Rattle.arithmetic.proofs.Only.{only}
use Rattle.ranges.specs.Outcome.{Outcome, answered, refused, value_after, OfThePaper}
use Rattle.std.specs.Prelude.{Result}
use Rattle.ranges.specs.declared.Particulars.{Particulars}
use Rattle.ranges.specs.declared.refusal.Refusal.{Refusal}
use Rattle.hydrostatics.specs.Promise.{MakesRows}
use Rattle.inclining.specs.Inclining.{MakesLightShip}
use Rattle.inclining.specs.declared.LightShip.{LightShip}
use Rattle.inclining.specs.declared.Test.{Test}
use Rattle.loading.specs.declared.Condition.{Condition}
use Rattle.writer.specs.Writer.{Writes}
use Rattle.rugulosca.specs.Told.{number_of, place_after, tangent_after, Tells, TellsCondition}

pub told : {A B : Type 0} (value : A → B) {o : Outcome A} {a : A} {was : B} {place : ℕ} → answered a ≡ o → Tells value o was (value a) place place 0
told value {was} {place} e =
    record { number_is = ap number_of e; place_is = ap (λ o. place_after o place) e; value_is = ap (λ o. value_after value o was) e }

pub declined : {A B : Type 0} (value : A → B) {o : Outcome A} {was : B} {place number p : ℕ} → refused number p ≡ o → Tells value o was was place p number
declined value {was} {place} e =
    record { number_is = ap number_of e; place_is = ap (λ o. place_after o place) e; value_is = ap (λ o. value_after value o was) e }

pub told_apart : {A : Type 0} {o : Outcome A} → OfThePaper o → number_of o ≡ 0 → (a : A) × (o ≡ answered a)
told_apart {o = answered a} h e = (a, refl)
told_apart {o = refused number place} h e = let numbers = h.of_the_paper refl in absurd (omega arith)

pub tells_unique : {A B : Type 0} {value : A → B} {o : Outcome A} {was left left' : B} {place placeLeft placeLeft' number number' : ℕ}
    → Tells value o was left place placeLeft number → Tells value o was left' place placeLeft' number' → (number ≡ number') × (placeLeft ≡ placeLeft') × (left ≡ left')
tells_unique t u = (only t.number_is u.number_is, only t.place_is u.place_is, only t.value_is u.value_is)

pub same_values : {A B : Type 0} (value : A → B) {o q : Outcome A} (was : B) → o ≡ q → value_after value o was ≡ value_after value q was
same_values value was e = ap (λ o. value_after value o was) e

pub same_tangent : {o q : Outcome Condition} (was : Float) → o ≡ q → tangent_after o was ≡ tangent_after q was
same_tangent was e = ap (λ o. tangent_after o was) e

pub tells_as : {A B : Type 0} {value : A → B} {o q : Outcome A} {was left : B} {place placeLeft number : ℕ} → o ≡ q → Tells value o was left place placeLeft number → Tells value q was left place placeLeft number
tells_as {value} {was} {left} {place} {placeLeft} {number} e t = subst (λ o. Tells value o was left place placeLeft number) e t

pub condition_as : {o q : Outcome Condition} {wholes wholesLeft : List ℕ} {signed signedLeft : List ℤ} {tangent tangentLeft : Float} {place placeLeft number : ℕ}
    → o ≡ q → TellsCondition o wholes wholesLeft signed signedLeft tangent tangentLeft place placeLeft number → TellsCondition q wholes wholesLeft signed signedLeft tangent tangentLeft place placeLeft number
condition_as {wholes} {wholesLeft} {signed} {signedLeft} {tangent} {tangentLeft} {place} {placeLeft} {number} e t =
    subst (λ o. TellsCondition o wholes wholesLeft signed signedLeft tangent tangentLeft place placeLeft number) e t

pub rows_at : {p q : Particulars} {table rows after : List ℕ} {answer : Result ℕ Refusal} → p ≡ q → MakesRows table p rows after answer → MakesRows table q rows after answer
rows_at {table} {rows} {after} {answer} e makes = subst (λ p. MakesRows table p rows after answer) e makes

pub written_at : {p q : Particulars} {h : List ℕ} {i t : List ℤ} {room left : List ℕ} {answer : Result ℕ Refusal} → p ≡ q → Writes p h i t room left answer → Writes q h i t room left answer
written_at {h} {i} {t} {room} {left} {answer} e writes = subst (λ p. Writes p h i t room left answer) e writes

pub ship_at : {t u : Test} {shifts : List ℕ} {off on : List ℤ} {gms after : List ℕ} {answer : Result LightShip Refusal} → t ≡ u → MakesLightShip t shifts off on gms after answer → MakesLightShip u shifts off on gms after answer
ship_at {shifts} {off} {on} {gms} {after} {answer} e makes = subst (λ t. MakesLightShip t shifts off on gms after answer) e makes
