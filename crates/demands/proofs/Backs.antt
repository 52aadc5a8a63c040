-- What keeps a promise, made from the outcome that the promise names.
--     Told, told               an answer that says an outcome whose refusals have the paper's numbers
--     two_same, four_same      what is handed back is known from its parts
-- Assumes nothing.
use mathlib.Core.Path.{◌≡◌, refl, ap, ap₂}
use Rattle.std.specs.Prelude.{Ok, Err}
use Rattle.ranges.specs.Outcome.{Outcome, answered, refused, Numbered}
use Rattle.ranges.specs.Reasons.{paper}
use Rattle.ranges.proofs.Outcomes.{reason_of}
use Rattle.demands.specs.Answering.{Answer}

-- ---- answers
-- an answer that says an outcome
pub record Told {Values : Type 0} (outcome : Outcome Values) : Type 0 where
  pub answer : Answer Values
  pub is : paper answer ≡ outcome

-- of values, and of a refusal whose number has a reason
pub told : {Values : Type 0} (o : Outcome Values) → Numbered o → Told o
told (answered v) h = record { answer = Ok v; is = refl }
told (refused number place) h =
    let why = reason_of number (h.by_a_call refl) in
    record { answer = Err (record { reason = why.0; place = place }); is = ap (λ n. refused n place) why.1 }

-- ---- parts
pub two_same : {A B : Type 0} (one other : A × B) → (one.0 ≡ other.0) × (one.1 ≡ other.1) → one ≡ other
two_same one other e = ap₂ (λ a b. (a, b)) e.0 e.1

pub four_same : {A B C D : Type 0} (one other : A × B × C × D) → (one.0 ≡ other.0) × (one.1 ≡ other.1) × (one.2 ≡ other.2) × (one.3 ≡ other.3) → one ≡ other
four_same {A} {B} {C} {D} one other e =
    ap₂ (λ (front : A × B) (back : C × D). (front.0, front.1, back.0, back.1))
    (two_same (one.0, one.1) (other.0, other.1) (e.0, e.1))
    (two_same (one.2, one.3) (other.2, other.3) (e.2, e.3))
