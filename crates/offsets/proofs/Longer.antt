-- Longer tables: what the reader answered by shorter limits, it answers alike by longer ones.
--     numbers_still, hull_still, file_still     numbers in wider ranges; the particulars; a whole file
--     read_still                                the call's outcome, with room for the longer tables
--     hull_then                                 by document 01's limits the particulars are refused for their ranges alone
--     read_since, read_back_since               a file that the reader answered by document 01's limits, and what it leaves in the tables
--     read_since_first                          the same by document 01's grammar too, as it stood before request 3
-- Assumes nothing.
use mathlib.Core.Path.{◌≡◌, refl}
use mathlib.Core.List.{List, [], ◌∷◌, map}
use Prim.Native.Nat.{ℕ, ◌≤◌}
use native.Mathlib.Omega.{arith}
use borrow.Author.Tests.{le-ltb, ltb-false}
use lib.IntN.{ℤ, nat_abs}
use lib.ListN.{length}
use Rattle.arithmetic.proofs.Choice.{chosen}
use Rattle.ranges.specs.Fields.{Range, particulars, particulars_by}
use Rattle.ranges.specs.Limits.{Limits}
use Rattle.ranges.specs.Outcome.{Outcome, answered, refused, and_then}
use Rattle.ranges.specs.Outside.{first_outside, numbers_of, particulars_of}
use Rattle.ranges.specs.Refusals.{out_of_range}
use Rattle.ranges.specs.Sizes.{room_for_half_breadths_by, room_for_half_breadths, room_for_items, room_for_tanks}
use Rattle.ranges.proofs.Longer.{Wider, Widened, none, both, Longer, particulars_widened, not_too_long_still, document_one, longer_now, no_length_then}
use Rattle.ranges.proofs.Outcomes.{refused_not, not_refused, was_passed, answered_then}
use Rattle.offsets.specs.Back.{RoomForAnyFile, ReadBack}
use Rattle.offsets.specs.File.{Contents, records, hull_by, file_by}
use Rattle.offsets.specs.Reader.{reader_by, reader_of, summary_of, Reads}
use Rattle.offsets.specs.Reading.{one, numbers}
use Rattle.offsets.specs.Tokens.{Token, number, no_number, tokens}
use Rattle.offsets.specs.declared.Summary.{Summary}
use Rattle.ranges.specs.declared.refusal.Refusal.{Refusal}
use Rattle.std.specs.Prelude.{Result}
use Rattle.offsets.proofs.AsBefore.{tokens_before, answered_as_before}
use Rattle.offsets.proofs.WasRead.{reads_contents}
use Rattle.offsets.proofs.InRanges.{in_ranges_length, no_number_outside, hull_again}
use Rattle.offsets.proofs.Within.{numbers_within, hull_within}

-- what is answered in the end is answered still, where each step answers still
then_still : {A B : Type 0} {o o' : Outcome A} {next next' : A → Outcome B} {b : B}
    → ((a : A) → o ≡ answered a → o' ≡ answered a) → ((a : A) → next a ≡ answered b → next' a ≡ answered b) → and_then o next ≡ answered b → and_then o' next' ≡ answered b
unfolding and_then
then_still first further e = let a = answered_then e in rw (first a.0 a.1) (further a.0 a.2)

-- ---- the parts of a file
module _ (len : ℕ) where
  one_still : (why : ℕ) (narrow wide : Range) → Wider narrow wide → (ts : List Token) {read : ℤ × List Token} → one len why narrow ts ≡ answered read → one len why wide ts ≡ answered read
  unfolding one
  one_still why narrow wide w [] e = refused_not e
  one_still why narrow wide w (no_number place ∷ ts) e = refused_not e
  one_still why narrow wide w (number place v ∷ ts) e = let passed = was_passed why place e in rw (w v passed.0) (simp chosen passed.1)

  pub numbers_still : {narrow wide : List Range} → Widened narrow wide → (ts : List Token) {read : List ℤ × List Token} → numbers len narrow ts ≡ answered read → numbers len wide ts ≡ answered read
  unfolding numbers
  numbers_still none ts e = e
  numbers_still (both {a = a} {b = b} w more) ts e =
      then_still (λ v. one_still out_of_range a b w ts) (λ v. then_still (λ vs. numbers_still more v.1 {read = vs}) (λ vs h. h)) e

  module _ {short long : Limits} (longer : Longer short long) where
    pub hull_still : (ts : List Token) {read : List ℤ × List Token} → hull_by len short ts ≡ answered read → hull_by len long ts ≡ answered read
    unfolding hull_by and_then
    hull_still ts {read} e =
        let held = hull_within len short ts e in
        rw (numbers_still (particulars_widened longer) ts held.0, not_too_long_still longer (particulars_of read.0) held.1) (simp chosen)

    pub file_still : (ts : List Token) {c : Contents} → file_by len short ts ≡ answered c → file_by len long ts ≡ answered c
    unfolding file_by
    file_still ts e = then_still (λ five h. h) (λ five. then_still (λ hull. hull_still five.1) (λ hull h. h)) e

-- ---- the call's outcome
module _ {short long : Limits} (longer : Longer short long) where
  pub read_still : (text : List ℕ) (h i t : ℕ) {c : Contents} → reader_by short text h i t ≡ answered c
      → (h' i' t' : ℕ) → room_for_half_breadths_by long ≤ h' → room_for_items ≤ i' → room_for_tanks ≤ t' → reader_by long text h' i' t' ≡ answered c
  unfolding reader_by
  read_still text h i t e h' i' t' half items tanks =
      let past = not_refused _ _ (not_refused _ _ (not_refused _ _ e).1).1 in
      let bytes = not_refused _ _ past.1 in
      let short-text : length text ≤ long.longest_file = omega (arith, ltb-false short.longest_file (length text) bytes.0, longer.file) in
      simp (le-ltb h' (room_for_half_breadths_by long) half, le-ltb i' room_for_items items, le-ltb t' room_for_tanks tanks, le-ltb long.longest_file (length text) short-text, chosen)
      (file_still (length text) longer (tokens text) bytes.1)

-- ---- document 01's limits
-- what numbers by its ranges come to, the particulars come to
hull_follows : (len : ℕ) (ts : List Token) (o : Outcome (List ℤ × List Token)) → numbers len (particulars_by document_one) ts ≡ o → hull_by len document_one ts ≡ o
unfolding hull_by and_then
hull_follows len ts (refused why place) e = rw e
hull_follows len ts (answered (vs, rest)) e =
    let five = numbers_within len (particulars_by document_one) ts e in
    let again : numbers_of (particulars_of vs) ≡ vs = hull_again document_one five in
    let inside : first_outside (particulars_by document_one) vs ≡ length vs = no_number_outside 1 (particulars_by document_one) vs (unfold records in five) in
    let all : length particulars ≤ first_outside (particulars_by document_one) (numbers_of (particulars_of vs)) = rw again (omega (arith, inside, in_ranges_length five)) in
    rw (e, no_length_then (particulars_of vs) all) (simp chosen)

pub hull_then : (len : ℕ) (ts : List Token) → hull_by len document_one ts ≡ numbers len (particulars_by document_one) ts
hull_then len ts = hull_follows len ts (numbers len (particulars_by document_one) ts) refl

-- a file that was accepted is read, as the same contents
pub read_since : (text : List ℕ) (h i t : ℕ) {c : Contents} → reader_by document_one text h i t ≡ answered c
    → (h' i' t' : ℕ) → room_for_half_breadths ≤ h' → room_for_items ≤ i' → room_for_tanks ≤ t' → reader_of text h' i' t' ≡ answered c
read_since text h i t e = read_still longer_now text h i t e

-- of the call: its answer and the fronts of its tables are those contents
pub read_back_since : {text h₀ h' : List ℕ} {i₀ i' t₀ t' : List ℤ} {answer : Result Summary Refusal} (h i t : ℕ) {c : Contents} → reader_by document_one text h i t ≡ answered c
    → RoomForAnyFile h₀ i₀ t₀ → Reads text h₀ h' i₀ i' t₀ t' answer
    → ReadBack (summary_of c) (map nat_abs c.half_breadths) c.items c.tanks h₀ h' i₀ i' t₀ t' answer
read_back_since {text} {h₀} {i₀ = i₀} {t₀ = t₀} h i t {c} e rooms r =
    reads_contents c (read_since text h i t e (length h₀) (length i₀) (length t₀) rooms.half_breadth_room rooms.item_room rooms.tank_room) r

-- by document 01 alone, before request 3 too
pub read_since_first : (text : List ℕ) (h i t : ℕ) {c : Contents} → file_by (length text) document_one (tokens_before text) ≡ answered c → length text ≤ document_one.longest_file
    → room_for_half_breadths ≤ h → room_for_items ≤ i → room_for_tanks ≤ t → reader_of text h i t ≡ answered c
read_since_first text h i t {c} e short half items tanks =
    answered_as_before text h i t c half items tanks (omega (arith, longer_now.file)) (file_still (length text) longer_now (tokens_before text) e)
