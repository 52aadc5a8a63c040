-- What is promised of the room, where a file passed the writer's tests.
--     writes_refused                   a refusal
--     writes_straight                  room that the text is put in front of
--     TextStands, writes_text          the text stands in front of an array, and is copied from there
--     text_stands, writes_copied       it was put there, and is copied from there
--     writes_short                     room that is too short for it
-- Assumes nothing.
use mathlib.Core.Path.{◌≡◌, refl, sym, ap, ◌∙◌}
use mathlib.Core.List.{List, ◌++◌}
use Prim.Native.Nat.{ℕ, ◌≤◌, ◌<◌}
use native.Mathlib.Omega.{arith}
use lib.IntN.{ℤ}
use lib.ListN.{length, take, drop, length-append}
use lib.Seq.{take_at}
use Rattle.std.specs.Prelude.{Result, Ok, Err}
use Rattle.numerals.specs.Pieces.{InFront}
use Rattle.ranges.specs.Outcome.{refused, answer_with, left_with}
use Rattle.ranges.specs.Reasons.{number_of}
use Rattle.ranges.specs.declared.Particulars.{Particulars}
use Rattle.ranges.specs.declared.refusal.Refusal.{Refusal}
use Rattle.ranges.specs.declared.refusal.Reason.TheVariants.{RoomTooShort}
use Rattle.writer.specs.Private.Putting.{Passes}
use Rattle.writer.specs.Writer.{writer_of, Writes}
use Rattle.writer.specs.Written.{text_of}
use Rattle.writer.proofs.Tried.{answers, refuses_room}

module _ {p : Particulars} {h : List ℕ} {i t : List ℤ} {room : List ℕ} where
  pub writes_refused : {r : Refusal} {answer : Result ℕ Refusal} → writer_of p h i t (length room) ≡ refused (number_of r.reason) r.place → answer ≡ Err r → Writes p h i t room room answer
  unfolding answer_with left_with
  writes_refused e a = record { answer_is = rw (e, a); left = rw e }

  pub writes_straight : {left : List ℕ} {count : ℕ} → Passes p h i t → length (text_of p h i t) ≤ length room → InFront (text_of p h i t) room left count → Writes p h i t room left (Ok count)
  unfolding answer_with left_with
  writes_straight o fits front =
      let answer = answers p h i t (length room) o fits in
      record { answer_is = rw (answer, front.count_is); left = front.left ∙ rw answer }

-- the text stands in front of an array
pub record TextStands (p : Particulars) (h : List ℕ) (i t : List ℤ) (array : List ℕ) (count : ℕ) : Type 0 where
  pub count_is : count ≡ length (text_of p h i t)
  pub stands : take count array ≡ text_of p h i t
  pub within : count ≤ length array

module _ {p : Particulars} {h : List ℕ} {i t : List ℤ} {array : List ℕ} {count : ℕ} (o : Passes p h i t) where
  pub writes_text : {room left : List ℕ} → TextStands p h i t array count → count ≤ length room → left ≡ take count array ++ drop count room → Writes p h i t room left (Ok count)
  writes_text s l e = writes_straight o (omega (arith, s.count_is)) (record { count_is = s.count_is; left = e ∙ rw (s.stands, s.count_is) refl })

  -- it was put there
  module _ {was : List ℕ} (front : InFront (text_of p h i t) was array count) where
    pub text_stands : TextStands p h i t array count
    text_stands =
        record {
          count_is = front.count_is;
          stands = rw front.left (take_at (text_of p h i t) (drop (length (text_of p h i t)) was) count (sym front.count_is));
          within = omega (arith, front.count_is, ap length front.left, length-append (text_of p h i t) (drop (length (text_of p h i t)) was));
        }

    pub writes_short : {room : List ℕ} {r : Refusal} → length room < count → r ≡ record { reason = RoomTooShort; place = count } → Writes p h i t room room (Err r)
    writes_short {room} {r} l e =
        writes_refused {r = r} (rw (e, front.count_is) (refuses_room p h i t (length room) o (omega (arith, front.count_is)))) refl

    pub writes_copied : {room left : List ℕ} → count ≤ length room → left ≡ take count array ++ drop count room → Writes p h i t room left (Ok count)
    writes_copied l e = writes_text text_stands l e
