-- The round trip for the two calls, over what they promise: whatever keeps the promises gives back what it was given.
--     write_then_read                 what was written is read back
--     WrittenAgain                    a writer's answer whose text is read back so
--     read_then_write                 what was read can be written, and is read back
-- Assumes nothing.
use mathlib.Core.Path.{◌≡◌, refl, sym, ap, ◌∙◌}
use mathlib.Core.List.{List, [], ◌∷◌, map}
use Prim.Native.Nat.{ℕ, ◌≤◌}
use lib.IntN.{ℤ, pos, nat_abs}
use lib.ListN.{length, take, drop}
use lib.Seq.{take_at}
use Rattle.std.specs.Prelude.{Result, Ok}
use Rattle.ranges.specs.Outcome.{Outcome, answered, refused, answer_with, left_with}
use Rattle.ranges.specs.Outside.{particulars_of}
use Rattle.ranges.specs.declared.Particulars.{Particulars}
use Rattle.ranges.specs.declared.refusal.Refusal.{Refusal}
use Rattle.ranges.proofs.Outcomes.{refused_not, paper_ok}
use Rattle.offsets.specs.Back.{RoomForAnyFile, ReadBack, summary_with}
use Rattle.offsets.specs.File.{Contents}
use Rattle.offsets.specs.Reader.{Reads, summary_of}
use Rattle.offsets.specs.declared.Summary.{Summary}
use Rattle.offsets.proofs.Answers.{on_file}
use Rattle.offsets.proofs.Sound.{Sound}
use Rattle.offsets.proofs.WasRead.{reads_contents, half_breadths_read, items_read, tanks_read, contents_read}
use Rattle.writer.specs.Longest.{longest_text}
use Rattle.writer.specs.Written.{text_of}
use Rattle.writer.specs.Writer.{Writes, writer_of, length_of, room_after}
use Rattle.writer.proofs.RoundTrip.{contents_of, written_is_read, read_is_written}

-- ---- from the writer to the reader
-- the text that a writer which answered a length left in front of its room
pub record Text (p : Particulars) (h : List ℕ) (i t : List ℤ) (room room_left : List ℕ) (count : ℕ) : Type 0 where
  pub text : List ℕ
  pub written : writer_of p h i t (length room) ≡ answered text
  pub stands : take count room_left ≡ text

module _ {p : Particulars} {h : List ℕ} {i t : List ℤ} {room room_left : List ℕ} {count : ℕ} where
  text_of_outcome : (o : Outcome (List ℕ)) → writer_of p h i t (length room) ≡ o → answered count ≡ length_of o → room_left ≡ room_after o room → Text p h i t room room_left count
  unfolding answer_with left_with
  text_of_outcome (answered text) e n l =
      let long : length text ≡ count = cc n in
      record { text = text; written = e; stands = rw l (take_at text (drop (length text) room) count long) }
  text_of_outcome (refused why place) e n l = refused_not (sym n)

  text_of_writes : Writes p h i t room room_left (Ok count) → Text p h i t room room_left count
  text_of_writes w = text_of_outcome (writer_of p h i t (length room)) refl w.answer_is w.left

sizes_again : (h : List ℕ) → map nat_abs (map pos h) ≡ h
sizes_again [] = refl
sizes_again (y ∷ h) = ap (λ l. y ∷ l) (sizes_again h)

pub write_then_read : {p : Particulars} {h : List ℕ} {i t : List ℤ} {room room_left : List ℕ} {count : ℕ} {h₀ h' : List ℕ} {i₀ i' t₀ t' : List ℤ} {answer : Result Summary Refusal}
    → Writes p h i t room room_left (Ok count) → RoomForAnyFile h₀ i₀ t₀ → Reads (take count room_left) h₀ h' i₀ i' t₀ t' answer
    → ReadBack (summary_with p i t) h i t h₀ h' i₀ i' t₀ t' answer
write_then_read {p} {h} {i} {t} {room} {h₀ = h₀} {i₀ = i₀} {t₀ = t₀} w rooms r =
    let x = text_of_writes w in
    let back = written_is_read p h i t (length room) x.written in
    let opened = on_file x.text h₀ i₀ t₀ (record { text_length = back.0; half_breadth_room = rooms.half_breadth_room; item_room = rooms.item_room; tank_room = rooms.tank_room }) in
    rw (sizes_again h) at (reads_contents (contents_of p h i t) (opened ∙ back.1) (rw x.stands at r))

-- ---- from the reader to the writer
pub record WrittenAgain (summary : Summary) (h : List ℕ) (i t : List ℤ) (room_left : List ℕ) (answer : Result ℕ Refusal) : Type 0 where
  pub count : ℕ
  pub answer_is : answer ≡ Ok count
  pub read_back : {h₀ h' : List ℕ} {i₀ i' t₀ t' : List ℤ} {answer : Result Summary Refusal} → RoomForAnyFile h₀ i₀ t₀ → Reads (take count room_left) h₀ h' i₀ i' t₀ t' answer → ReadBack summary h i t h₀ h' i₀ i' t₀ t' answer

-- what was read, written from tables that hold just that
rewritten : (c : Contents) → Sound c → {room room_left : List ℕ} {answer : Result ℕ Refusal}
    → Writes (particulars_of c.hull) (map nat_abs c.half_breadths) c.items c.tanks room room_left answer → longest_text ≤ length room
    → WrittenAgain (summary_of c) (map nat_abs c.half_breadths) c.items c.tanks room_left answer
unfolding answer_with
rewritten c s {room} {answer = answer} w l =
    let text = text_of (particulars_of c.hull) (map nat_abs c.half_breadths) c.items c.tanks in
    let e : answer ≡ Ok (length text) = paper_ok (w.answer_is ∙ ap length_of (read_is_written c s (length room) l)) in
    record { count = length text; answer_is = e; read_back = λ rooms r. write_then_read (rw e at w) rooms r }

pub read_then_write : {text h₀ h' : List ℕ} {i₀ i' t₀ t' : List ℤ} {summary : Summary} {room room_left : List ℕ} {answer : Result ℕ Refusal}
    → Reads text h₀ h' i₀ i' t₀ t' (Ok summary) → longest_text ≤ length room
    → Writes summary.particulars (half_breadths_read summary h') (items_read summary i') (tanks_read summary t') room room_left answer
    → WrittenAgain summary (half_breadths_read summary h') (items_read summary i') (tanks_read summary t') room_left answer
read_then_write r l w =
    let x = contents_read r in
    rw x.summary_is
    (rw (x.half_breadths_are, x.items_are, x.tanks_are)
    (rewritten x.contents x.sound (rw (x.half_breadths_are, x.items_are, x.tanks_are) at (rw x.summary_is at w)) l))
