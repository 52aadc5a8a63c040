-- What a reader that answered has read.
--     reads_contents                  one that read contents answers and leaves them
--     half_breadths_read, items_read, tanks_read      the fronts of the tables that a reader with a summary filled
--     ReadContents, contents_read     what a reader with a summary read: sound contents, which stand in front of its tables
-- Assumes nothing.
use mathlib.Core.Path.{◌≡◌, sym, ◌∙◌}
use mathlib.Core.List.{List, ◌++◌, map}
use Prim.Native.Nat.{ℕ, ◌*◌}
use native.Mathlib.Omega.{arith}
use lib.IntN.{ℤ, nat_abs}
use lib.ListN.{length, take, drop, length-map}
use lib.Seq.{take_at}
use Rattle.ranges.specs.Fields.{item, tank}
use Rattle.ranges.specs.Outcome.{answered, answer_with, left_with}
use Rattle.ranges.specs.declared.refusal.Refusal.{Refusal}
use Rattle.std.specs.Prelude.{Result, Ok}
use Rattle.ranges.specs.Sizes.{points_of, item_width, tank_width}
use Rattle.ranges.proofs.Outcomes.{not_refused, paper_ok, with_answered}
use Rattle.offsets.specs.Back.{ReadBack}
use Rattle.offsets.specs.File.{Contents}
use Rattle.offsets.specs.Reader.{Reads, reader_of, reader_by, summary_of}
use Rattle.offsets.specs.Tokens.{tokens}
use Rattle.offsets.specs.declared.Summary.{Summary}
use Rattle.offsets.proofs.FileIn.{file_in}
use Rattle.offsets.proofs.Sound.{Sound, records_in, length_of_half_breadths, length_of_items, length_of_tanks}

-- a reader that read contents answers and leaves them
pub reads_contents : {text h₀ h' : List ℕ} {i₀ i' t₀ t' : List ℤ} {answer : Result Summary Refusal} (c : Contents)
    → reader_of text (length h₀) (length i₀) (length t₀) ≡ answered c → Reads text h₀ h' i₀ i' t₀ t' answer
    → ReadBack (summary_of c) (map nat_abs c.half_breadths) c.items c.tanks h₀ h' i₀ i' t₀ t' answer
unfolding answer_with left_with
reads_contents {answer = answer} c e r = record {
  answer_is = paper_ok (r.answer_is ∙ rw e);
  half_breadths_are = r.tables_are.half_breadths_left ∙ rw e;
  items_are = r.tables_are.items_left ∙ rw e;
  tanks_are = r.tables_are.tanks_left ∙ rw e;
}

-- the fronts of the tables that a reader with this summary filled
abbrev pub half_breadths_read : Summary → List ℕ → List ℕ
half_breadths_read summary = take (points_of summary.particulars.n summary.particulars.m)

abbrev pub items_read : Summary → List ℤ → List ℤ
items_read summary = take (item_width * summary.items)

abbrev pub tanks_read : Summary → List ℤ → List ℤ
tanks_read summary = take (tank_width * summary.tanks)

reader_sound : (text : List ℕ) (h i t : ℕ) {c : Contents} → reader_of text h i t ≡ answered c → Sound c
unfolding reader_by
reader_sound text h i t e =
    let a = not_refused _ _ e in
    let b = not_refused _ _ a.1 in
    let d = not_refused _ _ b.1 in
    let f = not_refused _ _ d.1 in
    (file_in (length text) (tokens text) f.1).sound

-- the contents that a reader read to answer a summary: they are sound, and the fronts of its tables
pub record ReadContents (text h₀ h' : List ℕ) (i₀ i' t₀ t' : List ℤ) (summary : Summary) : Type 0 where
  pub contents : Contents
  pub read : reader_of text (length h₀) (length i₀) (length t₀) ≡ answered contents
  pub summary_is : summary ≡ summary_of contents
  pub sound : Sound contents
  pub half_breadths_are : half_breadths_read (summary_of contents) h' ≡ map nat_abs contents.half_breadths
  pub items_are : items_read (summary_of contents) i' ≡ contents.items
  pub tanks_are : tanks_read (summary_of contents) t' ≡ contents.tanks

front_of : {A : Type 0} (read was after : List A) (n : ℕ) → length read ≡ n → after ≡ read ++ drop (length read) was → take n after ≡ read
front_of read was after n e l = rw l (take_at read (drop (length read) was) n e)

pub contents_read : {text h₀ h' : List ℕ} {i₀ i' t₀ t' : List ℤ} {summary : Summary} → Reads text h₀ h' i₀ i' t₀ t' (Ok summary) → ReadContents text h₀ h' i₀ i' t₀ t' summary
contents_read {text} {h₀} {h'} {i₀} {i'} {t₀} {t'} r =
    let x = with_answered summary_of (reader_of text (length h₀) (length i₀) (length t₀)) (sym r.answer_is) in
    let c = x.0 in
    let s = reader_sound text (length h₀) (length i₀) (length t₀) x.1 in
    let b = reads_contents c x.1 r in
    record {
      contents = c;
      read = x.1;
      summary_is = x.2;
      sound = s;
      half_breadths_are = front_of (map nat_abs c.half_breadths) h₀ h' _ (length-map c.half_breadths nat_abs ∙ length_of_half_breadths c s) b.half_breadths_are;
      items_are = front_of c.items i₀ i' (item_width * records_in item c.items) (omega (arith, length_of_items c s)) b.items_are;
      tanks_are = front_of c.tanks t₀ t' (tank_width * records_in tank c.tanks) (omega (arith, length_of_tanks c s)) b.tanks_are;
    }
