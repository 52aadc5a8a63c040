-- Outcomes taken apart: what an answer tells of the steps that led to it.
--     refused_not                  no refusal is an answer; `sym` tells the other way round
--     answer_same                  equal answers have one value
--     reason_same, refusal_same    a reason is known from its number, and a refusal from its number and place
--     reason_of                    each number that a call refuses with has its reason
--     answer_known, paper_ok       a call's answer is known from what it says in the paper's words; an answer so
--     not_refused, was_passed      before an answer a test gave no refusal, where it refuses when true and when false
--     was_refused                  what is refused after a test whose other way answers was refused by the test
--     answered_then                what is answered in the end was answered on the way
--     with_answered, with_refused  what an answer with a part of its values in their place tells of the whole, and a refusal
--     left_refused                 a refusal leaves a lent table as it was
--     then_assoc                   three steps, joined from either end
-- Assumes nothing.
use mathlib.Core.Path.{◌≡◌, refl, sym, ap, ap₂, ◌∙◌}
use mathlib.Core.Bool.{Bool, true, false, ◌||◌}
use borrow.Author.Tests.{eqb-true}
use lib.Dec.{eqb}
use Rattle.ranges.specs.Refusals.{is_given, file_too_long, not_anumber, count_not_allowed, out_of_range, ends_too_early, token_after_end, wrong_size, displacement_not_rising, metacentre_too_high, rows_not_usable, too_light, too_heavy, contents_above_capacity, room_too_short, no_such_slot, slot_taken, slot_empty, no_light_weight, light_moment_negative, tally_unsound}
use mathlib.Core.List.{List, [], ◌∷◌}
use Prim.Native.Nat.{ℕ}
use native.Mathlib.Omega.{arith}
use Rattle.arithmetic.specs.Choice.{when◌then◌else◌}
use Rattle.ranges.specs.Outcome.{Outcome, answered, refused, and_then, answer_with, left_with}
use Rattle.ranges.specs.Reasons.{number_of, paper}
use Rattle.ranges.specs.declared.refusal.Reason.{Reason}
use Rattle.ranges.specs.declared.refusal.Reason.TheVariants.{FileTooLong, NotANumber, CountNotAllowed, OutOfRange, EndsTooEarly, TokenAfterEnd, WrongSize, DisplacementNotRising, MetacentreTooHigh, RowsNotUsable, TooLight, TooHeavy, ContentsAboveCapacity, RoomTooShort, NoSuchSlot, SlotTaken, SlotEmpty, NoLightWeight, LightMomentNegative, TallyUnsound}
use Rattle.ranges.specs.declared.refusal.Refusal.{Refusal}
use Rattle.std.specs.Prelude.{Result, Ok, Err}
use lib.ListN.{get_or}

pub refused_not : {A X : Type 0} {number place : ℕ} {a : A} → ◌≡◌ {A = Outcome A} (refused number place) (answered a) → X
refused_not e = let z : ◌≡◌ {A = ℕ} 0 1 = cc in absurd (omega arith)

pub answer_same : {A : Type 0} {a b : A} → ◌≡◌ {A = Outcome A} (answered a) (answered b) → a ≡ b
answer_same e = cc

-- each reason has a number of its own: the list has the reason of a number at that place, and any one where there is none
abbrev named : ℕ → Reason
named number =
    get_or (FileTooLong ∷ FileTooLong ∷ NotANumber ∷ CountNotAllowed ∷ OutOfRange ∷ EndsTooEarly ∷ TokenAfterEnd ∷ WrongSize ∷ DisplacementNotRising ∷ MetacentreTooHigh ∷ RowsNotUsable ∷ TooLight ∷ TooHeavy ∷ ContentsAboveCapacity ∷ RoomTooShort ∷ NoSuchSlot ∷ SlotTaken ∷ SlotEmpty ∷ FileTooLong ∷ FileTooLong ∷ NoLightWeight ∷ LightMomentNegative ∷ TallyUnsound ∷ []) number FileTooLong

named_by : (r : Reason) → named (number_of r) ≡ r
named_by FileTooLong = refl
named_by NotANumber = refl
named_by CountNotAllowed = refl
named_by OutOfRange = refl
named_by EndsTooEarly = refl
named_by TokenAfterEnd = refl
named_by WrongSize = refl
named_by DisplacementNotRising = refl
named_by MetacentreTooHigh = refl
named_by RowsNotUsable = refl
named_by TooLight = refl
named_by TooHeavy = refl
named_by ContentsAboveCapacity = refl
named_by RoomTooShort = refl
named_by NoSuchSlot = refl
named_by SlotTaken = refl
named_by SlotEmpty = refl
named_by NoLightWeight = refl
named_by LightMomentNegative = refl
named_by TallyUnsound = refl

-- and each number that a call refuses with has its reason
either : {X : Type 0} (a b : Bool) → (a || b) ≡ true → (a ≡ true → X) → (b ≡ true → X) → X
either true b e left right = left refl
either false b e left right = right e

pub reason_of : (number : ℕ) → is_given number ≡ true → (r : Reason) × (number_of r ≡ number)
reason_of number given =
    either _ (eqb number tally_unsound) given (λ rest.
    either _ (eqb number light_moment_negative) rest (λ rest.
    either _ (eqb number no_light_weight) rest (λ rest.
    either _ (eqb number slot_empty) rest (λ rest.
    either _ (eqb number slot_taken) rest (λ rest.
    either _ (eqb number no_such_slot) rest (λ rest.
    either _ (eqb number room_too_short) rest (λ rest.
    either _ (eqb number contents_above_capacity) rest (λ rest.
    either _ (eqb number too_heavy) rest (λ rest.
    either _ (eqb number too_light) rest (λ rest.
    either _ (eqb number rows_not_usable) rest (λ rest.
    either _ (eqb number metacentre_too_high) rest (λ rest.
    either _ (eqb number displacement_not_rising) rest (λ rest.
    either _ (eqb number wrong_size) rest (λ rest.
    either _ (eqb number token_after_end) rest (λ rest.
    either _ (eqb number ends_too_early) rest (λ rest.
    either _ (eqb number out_of_range) rest (λ rest.
    either _ (eqb number count_not_allowed) rest (λ rest.
    either _ (eqb number not_anumber) rest (λ rest.
    (FileTooLong, sym (eqb-true number file_too_long rest)))
    (λ is. (NotANumber, sym (eqb-true number not_anumber is))))
    (λ is. (CountNotAllowed, sym (eqb-true number count_not_allowed is))))
    (λ is. (OutOfRange, sym (eqb-true number out_of_range is))))
    (λ is. (EndsTooEarly, sym (eqb-true number ends_too_early is))))
    (λ is. (TokenAfterEnd, sym (eqb-true number token_after_end is))))
    (λ is. (WrongSize, sym (eqb-true number wrong_size is))))
    (λ is. (DisplacementNotRising, sym (eqb-true number displacement_not_rising is))))
    (λ is. (MetacentreTooHigh, sym (eqb-true number metacentre_too_high is))))
    (λ is. (RowsNotUsable, sym (eqb-true number rows_not_usable is))))
    (λ is. (TooLight, sym (eqb-true number too_light is))))
    (λ is. (TooHeavy, sym (eqb-true number too_heavy is))))
    (λ is. (ContentsAboveCapacity, sym (eqb-true number contents_above_capacity is))))
    (λ is. (RoomTooShort, sym (eqb-true number room_too_short is))))
    (λ is. (NoSuchSlot, sym (eqb-true number no_such_slot is))))
    (λ is. (SlotTaken, sym (eqb-true number slot_taken is))))
    (λ is. (SlotEmpty, sym (eqb-true number slot_empty is))))
    (λ is. (NoLightWeight, sym (eqb-true number no_light_weight is))))
    (λ is. (LightMomentNegative, sym (eqb-true number light_moment_negative is))))
    (λ is. (TallyUnsound, sym (eqb-true number tally_unsound is)))

pub reason_same : {r s : Reason} → number_of r ≡ number_of s → r ≡ s
reason_same {r} {s} e = sym (named_by r) ∙ ap named e ∙ named_by s

pub refusal_same : {A : Type 0} (r s : Refusal) → ◌≡◌ {A = Outcome A} (refused (number_of r.reason) r.place) (refused (number_of s.reason) s.place) → r ≡ s
refusal_same r s e = ap₂ (λ why p. record { reason = why; place = p }) (reason_same (cc)) (cc)

-- a call's answer is known from what it says in the paper's words
pub answer_known : {A : Type 0} (a b : Result A Refusal) → paper a ≡ paper b → a ≡ b
answer_known (Ok a) (Ok b) e = ap Ok (answer_same e)
answer_known (Ok a) (Err s) e = refused_not (sym e)
answer_known (Err r) (Ok b) e = refused_not e
answer_known (Err r) (Err s) e = ap Err (refusal_same r s e)

-- and what it says: an answer's values, a refusal's reason and place
pub paper_ok : {A : Type 0} {r : Result A Refusal} {a : A} → paper r ≡ answered a → r ≡ Ok a
paper_ok {r} {a} e = answer_known r (Ok a) e

-- ---- tests
pub not_refused : {A : Type 0} {t : Bool} {other : Outcome A} {a : A} (number place : ℕ) → (when t then refused number place else other) ≡ answered a → (t ≡ false) × (other ≡ answered a)
unfolding when◌then◌else◌
not_refused {t = true} number place e = refused_not e
not_refused {t = false} number place e = (refl, e)

pub was_passed : {A : Type 0} {t : Bool} {other : Outcome A} {a : A} (number place : ℕ) → (when t then other else refused number place) ≡ answered a → (t ≡ true) × (other ≡ answered a)
unfolding when◌then◌else◌
was_passed {t = true} number place e = (refl, e)
was_passed {t = false} number place e = refused_not e

pub was_refused : {A : Type 0} {t : Bool} {n p : ℕ} (number place : ℕ) (a : A) → (when t then refused number place else answered a) ≡ refused n p → t ≡ true
unfolding when◌then◌else◌
was_refused {t = true} number place a e = refl
was_refused {t = false} number place a e = refused_not (sym e)

-- ---- steps
pub answered_then : {A B : Type 0} {o : Outcome A} {next : A → Outcome B} {b : B} → and_then o next ≡ answered b → (a : A) × (o ≡ answered a) × (next a ≡ answered b)
unfolding and_then
answered_then {o = answered a} e = (a, refl, e)
answered_then {o = refused number place} e = refused_not e

pub then_assoc : {A B C : Type 0} (o : Outcome A) (next : A → Outcome B) (last : B → Outcome C) → and_then (and_then o next) last ≡ and_then o (λ a. and_then (next a) last)
unfolding and_then
then_assoc (answered a) next last = refl
then_assoc (refused number place) next last = refl

-- ---- a part in the values' place
pub with_answered : {A B : Type 0} (part : A → B) (o : Outcome A) {b : B} → answer_with part o ≡ answered b → (a : A) × (o ≡ answered a) × (b ≡ part a)
unfolding answer_with
with_answered part (answered a) e = (a, refl, sym (answer_same e))
with_answered part (refused number place) e = refused_not e

pub with_refused : {A B : Type 0} (part : A → B) (o : Outcome A) {number place : ℕ} → answer_with part o ≡ refused number place → o ≡ refused number place
unfolding answer_with
with_refused part (answered a) e = refused_not (sym e)
with_refused part (refused number place) e = cc

-- ---- lent tables
pub left_refused : {A B : Type 0} (numbers : A → List B) (o : Outcome A) (was : List B) {number place : ℕ} → o ≡ refused number place → left_with numbers o was ≡ was
unfolding left_with
left_refused numbers o was e = rw e
