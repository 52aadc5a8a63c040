-- Pieces put into lent room, one after another.
--     few_of_wholes, few_of_signed     a number that 64 bits hold takes 21 bytes at most
--     piece_put, piece_laid            bytes that were copied to the place after what was put, or laid into the room that was left
--     text_unlaid, lines_same          bytes that were laid into room too short for them; with the text as it was, all is
--     with_room, without_room          what is answered where there is room, and where there is none
--     was_put                          what there was room for was put
--     puts_none, puts_append           nothing is put; two pieces, one after the other
--     puts_length                      what is put grows by the piece
--     room_first, room_second          room for two pieces is room for the first, and then for the second
--     both_put                         what there was room for was put, of two pieces
--     Leads                            what is left to put leads to the whole
--     leads_all, leads_on, leads_end   nothing put yet; one piece more; nothing left
--     room_for_next                    the room suffices for the next piece
--     in_front                         what was put into a text from its front
-- Assumes nothing.
use mathlib.Core.Bool.{Bool, true, false}
use mathlib.Core.Path.{◌≡◌, refl, sym, ap, subst, ◌∙◌}
use mathlib.Core.List.{List, [], ◌++◌, append_assoc, append-nil}
use Prim.Native.Nat.{ℕ, ◌+◌, ◌-◌, ◌^◌, ◌≤◌, ◌<◌}
use native.Mathlib.Omega.{arith}
use lib.IntN.{ℤ, pos, nat_abs}
use lib.ListN.{length, take, drop, length-append, length-drop, take-append-drop}
use lib.Seq.{length-take-le, take_at, drop_at, drop-drop}
use native.Mathlib.Bridge.{le_prop}
use borrow.Rule.Slice.Mut.{set_vals}
use mir.Syntax.{w64}
use mir.Val.{Fits, SFits}
use Rattle.arithmetic.specs.Signed.{is_negative}
use Rattle.arithmetic.specs.Room.{laid}
use Rattle.arithmetic.proofs.Crossing.{back_is, turn, cast_defined}
use Rattle.arithmetic.proofs.Parts.{part_filled, part_end}
use Rattle.arithmetic.proofs.Room.{laid_fits, laid_short}
use Rattle.numerals.specs.Pieces.{said_in, room_of, Puts, HasRoom, PutsWhereRoom, InFront}
use Rattle.numerals.specs.Printed.{printed, most_printed}
use Rattle.numerals.specs.Private.Sign.{most_printed_digits}
use Rattle.numerals.specs.declared.lines.Lines.{Lines}
use Rattle.numerals.proofs.Printed.{length_of_printed}

-- ---- numbers
few_digits : (v : ℤ) → nat_abs v < 10 ^ most_printed_digits → length (printed v) ≤ most_printed
few_digits v h = length_of_printed v most_printed_digits (omega arith) h

pub few_of_wholes : (n : ℕ) → n < 2 ^ 64 → length (printed (pos n)) ≤ most_printed
few_of_wholes n fits = few_digits (pos n) (omega arith)

pub few_of_signed : {v : ℤ} → SFits w64 v → length (printed v) ≤ most_printed
few_of_signed {v} fits = go (is_negative v) refl
  where
    go : (t : Bool) → is_negative v ≡ t → length (printed v) ≤ most_printed
    go true e = let turned = turn v fits e in few_digits v (omega (arith, turned.magnitude_is, turned.small))
    go false e = let held : Fits w64 (nat_abs v) = rw (back_is fits) at (cast_defined fits e).1 in few_digits v (omega arith)

-- ---- one piece
-- bytes stand after the first `at` of a text, before what stood behind them
after_front : (at : ℕ) (text after bytes : List ℕ) → at ≤ length text → after ≡ (take at text ++ bytes) ++ drop (at + length bytes) text
    → (take (at + length bytes) after ≡ take at text ++ bytes) × (drop (at + length bytes) after ≡ drop (length bytes) (drop at text))
after_front at text after bytes h e =
    let long : length (take at text ++ bytes) ≡ at + length bytes = length-append (take at text) bytes ∙ omega (arith, length-take-le at text h) in (
      rw e (take_at (take at text ++ bytes) (drop (at + length bytes) text) (at + length bytes) long),
      rw (e, drop-drop) (drop_at (take at text ++ bytes) (drop (at + length bytes) text) (at + length bytes) long),
    )

module _ (was is : Lines) (bytes : List ℕ) (same : is.text.ghost_name ≡ was.text.ghost_name) (next : is.at ≡ was.at + length bytes) where
  stands : is.text.now ≡ (take was.at was.text.now ++ bytes) ++ drop (was.at + length bytes) was.text.now → Puts bytes was is
  stands e =
      let x = after_front was.at was.text.now is.text.now bytes was.within e in
      record { same_text = same; said_is = rw next x.0; room_is = rw next x.1 }

  -- the bytes were copied to their place
  pub piece_put : (back : List ℕ) → back ≡ bytes → is.text.now ≡ take was.at was.text.now ++ (back ++ drop (was.at + length bytes - was.at) (drop was.at was.text.now)) → Puts bytes was is
  piece_put back e f =
      let many : was.at + length bytes - was.at ≡ length bytes = omega arith in
      stands (f ∙ rw (e, many, drop-drop) (sym (append_assoc (take was.at was.text.now) bytes (drop (was.at + length bytes) was.text.now))))

  -- they were laid into the part of the text from their place to its end
  pub piece_laid : (back : List ℕ) → was.at + length bytes ≤ length was.text.now
      → back ≡ laid bytes (take (length was.text.now - was.at) (drop was.at was.text.now))
      → is.text.now ≡ take was.at was.text.now ++ (back ++ drop (length was.text.now - was.at) (drop was.at was.text.now)) → Puts bytes was is
  piece_laid back h e f =
      let text = was.text.now in
      let part = take (length text - was.at) (drop was.at text) in
      let fits : length bytes ≤ length part = rw part_end (omega (arith, length-drop was.at text)) in
      stands (f ∙ part_filled was.at (length bytes) (take was.at text) bytes text text back (length-take-le was.at text (omega arith)) (sym (take-append-drop was.at text)) (e ∙ laid_fits bytes part fits))

-- ---- where there is room, and where there is none
abbrev with_text : (l : Lines) (text : List ℕ) → l.at ≤ length text → Lines
with_text l text within = record { text = set_vals text l.text; at = l.at; within = within }

pub lines_same : (l : Lines) {text : List ℕ} (within : l.at ≤ length text) → text ≡ l.text.now → with_text l text within ≡ l
lines_same l within e = subst (λ t. (w : l.at ≤ length t) → with_text l t w ≡ l) (sym e) (λ w. ap (λ v. with_text l l.text.now v) (le_prop w l.within)) within

-- the part from the place on was too short for bytes to be laid into it
pub text_unlaid : (was : Lines) (bytes back : List ℕ) → length was.text.now - was.at < length bytes
    → back ≡ laid bytes (take (length was.text.now - was.at) (drop was.at was.text.now))
    → take was.at was.text.now ++ (back ++ drop (length was.text.now - was.at) (drop was.at was.text.now)) ≡ was.text.now
text_unlaid was bytes back short e =
    let text = was.text.now in
    let room = length text - was.at in
    let small : length (take room (drop was.at text)) < length bytes = rw part_end (omega (arith, length-drop was.at text)) in
    rw (e, laid_short bytes (take room (drop was.at text)) small, take-append-drop, take-append-drop) refl

module _ {bytes : List ℕ} {was is : Lines} where
  pub with_room : length bytes ≤ length was.text.now - was.at → Puts bytes was is → PutsWhereRoom bytes was is true
  with_room h p = record { put_if = λ _. (p, refl); else_same = λ short. absurd (omega (arith, length-drop was.at was.text.now)) }

  pub without_room : length was.text.now - was.at < length bytes → is ≡ was → PutsWhereRoom bytes was is false
  without_room h e = record { put_if = λ room. absurd (omega (arith, room.enough, length-drop was.at was.text.now)); else_same = λ _. (e, refl) }

  pub was_put : {put : Bool} → HasRoom (length bytes) was → PutsWhereRoom bytes was is put → Puts bytes was is
  was_put room p = (p.put_if room).0

-- ---- pieces
pub puts_append : {a b : List ℕ} {was mid is : Lines} → Puts a was mid → Puts b mid is → Puts (a ++ b) was is
puts_append {a} {b} {was} p q = record {
  same_text = q.same_text ∙ p.same_text;
  said_is = q.said_is ∙ ap (λ l. l ++ b) p.said_is ∙ append_assoc (said_in was) a b;
  room_is = q.room_is ∙ ap (drop (length b)) p.room_is ∙ rw (drop-drop, length-append) refl;
}

pub puts_none : (l : Lines) → Puts [] l l
puts_none l = record { same_text = refl; said_is = sym (append-nil (said_in l)); room_is = refl }

pub puts_length : {bytes : List ℕ} {was is : Lines} → Puts bytes was is → length (said_in is) ≡ length (said_in was) + length bytes
puts_length {bytes} {was} p = ap length p.said_is ∙ length-append (said_in was) bytes

pub room_left : {bytes : List ℕ} {was is : Lines} → Puts bytes was is → length (room_of is) ≡ length (room_of was) - length bytes
room_left {bytes} {was} p = ap length p.room_is ∙ length-drop (length bytes) (room_of was)

pub room_first : (a b : List ℕ) {l : Lines} → HasRoom (length (a ++ b)) l → HasRoom (length a) l
room_first a b h = record { enough = omega (arith, h.enough, length-append a b) }

pub room_second : {a : List ℕ} (b : List ℕ) {was is : Lines} → HasRoom (length (a ++ b)) was → Puts a was is → HasRoom (length b) is
room_second {a} b h p = record { enough = omega (arith, h.enough, room_left p, length-append a b) }

-- there was room for two pieces, so that both were put
pub both_put : {a b : List ℕ} {was mid is : Lines} {put also : Bool} → HasRoom (length (a ++ b)) was → PutsWhereRoom a was mid put → PutsWhereRoom b mid is also → Puts (a ++ b) was is
both_put {a} {b} h p q = let first = was_put (room_first a b h) p in puts_append first (was_put (room_second b h first) q)

-- ---- what is left to put
-- to put `rest` here is to put `whole` at the start, and there is room for it
pub record Leads (rest : List ℕ) (now : Lines) (whole : List ℕ) (was : Lines) : Type 0 where
  pub same_text : now.text.ghost_name ≡ was.text.ghost_name
  pub said_is : said_in now ++ rest ≡ said_in was ++ whole
  pub room_is : drop (length rest) (room_of now) ≡ drop (length whole) (room_of was)
  pub enough : length rest ≤ length (room_of now)

pub leads_all : (whole : List ℕ) (was : Lines) → HasRoom (length whole) was → Leads whole was whole was
leads_all whole was h = record { same_text = refl; said_is = refl; room_is = refl; enough = h.enough }

pub leads_on : {a rest whole : List ℕ} {now next was : Lines} → Puts a now next → Leads (a ++ rest) now whole was → Leads rest next whole was
leads_on {a} {rest} {now = now} p l = record {
  same_text = p.same_text ∙ l.same_text;
  said_is = ap (λ k. k ++ rest) p.said_is ∙ append_assoc (said_in now) a rest ∙ l.said_is;
  room_is = ap (drop (length rest)) p.room_is ∙ rw (drop-drop, ← length-append) l.room_is;
  enough = omega (arith, l.enough, room_left p, length-append a rest);
}

pub leads_end : {whole : List ℕ} {now was : Lines} → Leads [] now whole was → Puts whole was now
leads_end {now = now} l = record { same_text = l.same_text; said_is = sym (append-nil (said_in now)) ∙ l.said_is; room_is = l.room_is }

pub room_for_next : (a rest : List ℕ) {whole : List ℕ} {now was : Lines} → Leads (a ++ rest) now whole was → HasRoom (length a) now
room_for_next a rest l = record { enough = omega (arith, l.enough, length-append a rest) }

-- ---- the text that was lent
-- what was put into a text from its front
pub in_front : {bytes text left : List ℕ} {start end : Lines} → said_in start ≡ [] → room_of start ≡ text → Puts bytes start end → left ≡ end.text.now → InFront bytes text left (length (said_in end))
in_front {bytes} {text} {start} {end} none room p e =
    let said : said_in end ≡ bytes = p.said_is ∙ ap (λ l. l ++ bytes) none in
    record { count_is = ap length said; left = e ∙ sym (take-append-drop end.at end.text.now) ∙ rw (said, p.room_is, room) refl }
