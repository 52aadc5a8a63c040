-- What change request 6 asks is met.
--     longer_tables        all of `LongerTables`, from the theorems of the crates below
-- Assumes nothing.
use mathlib.Core.Path.{◌≡◌, refl, sym, ap, ◌∙◌}
use Rattle.std.specs.Prelude.{Err}
use mathlib.Core.Bool.{true}
use mathlib.Core.List.{List}
use Prim.Native.Nat.{ℕ, zero, suc, ◌*◌, ◌%◌, ◌≤◌, ◌<◌}
use native.Mathlib.Omega.{arith}
use borrow.Author.Tests.{lt-ltb, le-ltb}
use lib.IntN.{ℤ, pos}
use lib.ListN.{length, get_or}
use Rattle.ranges.specs.Fields.{◌to◌, within, particulars}
use Rattle.ranges.specs.Limits.{Limits, limits}
use Rattle.ranges.specs.Outcome.{refused, answer_with}
use Rattle.ranges.specs.Reasons.{paper}
use Rattle.ranges.specs.declared.refusal.Reason.TheVariants.{OutOfRange}
use Rattle.ranges.specs.declared.refusal.Refusal.{Refusal}
use Rattle.ranges.specs.Outside.{first_outside, numbers_of, too_long, bad_particular}
use Rattle.ranges.specs.declared.Particulars.{Particulars}
use Rattle.ranges.proofs.Facts.{all_inside, whole_within, particulars_in_range}
use Rattle.ranges.proofs.Hulls.{bad_outside, bad_length, bad_none}
use Rattle.ranges.proofs.Longer.{Longer}
use Rattle.offsets.specs.Back.{RoomForAnyFile}
use Rattle.offsets.specs.File.{file}
use Rattle.offsets.specs.Reader.{Reads, summarised}
use Rattle.offsets.specs.Tokens.{tokens}
use Rattle.offsets.specs.declared.Summary.{Summary}
use Rattle.offsets.proofs.Answers.{past_sizes, text_too_long}
use Rattle.offsets.proofs.WasRead.{reads_contents}
use Rattle.offsets.proofs.Longer.{read_still}
use Rattle.offsets.proofs.Particulars.{refused_before, refused_at_spacing}
use Rattle.writer.proofs.Tried.{refuses_particular}
use Rattle.writer.proofs.Writing.{writes_refused}
use Rattle.offsets.proofs.Unique.{reads_unique}
use Rattle.writer.proofs.Unique.{writes_unique}
use Rattle.hydrostatics.proofs.Answers.{bad_particular_said, refuses}
use Rattle.hydrostatics.proofs.Longer.{made_still}
use Rattle.hydrostatics.proofs.Unique.{makes_rows_unique}
use Rattle.demands.specs.Answering.{Answer, RefusedWith}
use Rattle.demands.specs.LongerTables.{FiveInRange, NowhereLonger, LongerTables}

longer : {short : Limits} → NowhereLonger short → Longer short limits
longer shorter = record { intervals = shorter.intervals; hull = shorter.hull; file = shorter.file }

module _ (p : Particulars) where
  all_five : FiveInRange p → first_outside particulars (numbers_of p) ≡ length particulars
  all_five five = all_inside particulars (numbers_of p) each
    where
      each : (i : ℕ) → i < length particulars → within (get_or particulars (i % length particulars) (1 to 0)) (get_or (numbers_of p) i (pos 0)) ≡ true
      each zero h = whole_within 2 80 p.n five.n_in
      each (suc zero) h = whole_within 3 20 p.m five.m_in
      each (suc (suc zero)) h = whole_within 50 2_500 p.s five.s_in
      each (suc (suc (suc zero))) h = whole_within 10 500 p.d five.d_in
      each (suc (suc (suc (suc zero)))) h = whole_within 900 1_100 p.density five.density_in
      each (suc (suc (suc (suc (suc i))))) h = absurd (omega arith)

  five_of : length particulars ≤ bad_particular p → FiveInRange p × (p.n * p.s ≤ 100_000)
  five_of h =
      let range = particulars_in_range p h in (
        record {
          n_in = (range.n_least, range.n_most);
          m_in = (range.m_least, range.m_most);
          s_in = (range.s_least, range.s_most);
          d_in = (range.d_least, range.d_most);
          density_in = (range.density_least, range.density_most);
        },
        range.length_most,
      )

  module _ (five : FiveInRange p) where
    short_is : p.n * p.s ≤ 100_000 → bad_particular p ≡ length particulars
    short_is h = bad_none limits p (omega (arith, all_five five)) (unfold too_long in le-ltb limits.longest_hull (p.n * p.s) h)

    long_is : 100_000 < p.n * p.s → too_long limits p ≡ true
    unfolding too_long
    long_is h = lt-ltb limits.longest_hull (p.n * p.s) h

    at_spacing : 100_000 < p.n * p.s → bad_particular p ≡ 2
    at_spacing h = bad_length limits p (omega (arith, all_five five)) (long_is h)

-- what a file of allowed length is refused for, the reader answers
file_refuses : {text h₀ h' : List ℕ} {i₀ i' t₀ t' : List ℤ} {answer : Answer Summary} {why place : ℕ} → RoomForAnyFile h₀ i₀ t₀ → length text ≤ 32_768 → file (length text) (tokens text) ≡ refused why place → Reads text h₀ h' i₀ i' t₀ t' answer
    → RefusedWith why place answer
unfolding answer_with
file_refuses {text} {h₀} {i₀ = i₀} {t₀ = t₀} rooms short said reads =
    let opened = past_sizes text (length h₀) (length i₀) (length t₀) rooms.half_breadth_room rooms.item_room rooms.tank_room short in
    reads.answer_is ∙ ap summarised (opened ∙ said)

-- out of range, at s
at_s : Refusal
at_s = record { reason = OutOfRange; place = 2 }

pub longer_tables : LongerTables
unfolding at_s
longer_tables = record {
  hulls_taken = λ p. (λ none. five_of p (omega (arith, none)), λ so. short_is p so.0 so.1);
  too_long_for_the_rows = λ {half_breadths} {p} {rows} five long made.
      let both = makes_rows_unique made (refuses {answer = Err at_s} (bad_particular_said half_breadths p (length rows) (sym (at_spacing p five long)) (omega arith)) refl) in
      (ap paper both.0, both.1);
  too_long_for_the_writer = λ {p} {half_breadths} {items} {tanks} {room} five long writes.
      let both = writes_unique writes (writes_refused {r = at_s} (refuses_particular p half_breadths items tanks (length room) (sym (at_spacing p five long)) (omega arith)) refl) in
      (ap paper both.0, both.1);
  too_long_for_the_reader = λ {text} {p = p} rooms short begins five long reads.
      file_refuses rooms short (refused_at_spacing (length text) p begins (omega (arith, all_five p five)) (long_is p five long)) reads;
  ranges_come_first = λ p out. bad_outside limits p out;
  particulars_come_first = λ {text} rooms short begins read reads. file_refuses rooms short (refused_before (length text) begins read) reads;
  too_many_bytes = λ {text} {h₀} {i₀ = i₀} {t₀ = t₀} rooms long reads. ap paper (reads_unique reads (text_too_long text h₀ i₀ t₀ rooms.half_breadth_room rooms.item_room rooms.tank_room long)).0;
  room_and_places = (refl, refl, refl);
  files_read_alike = λ {text = text} {h₀ = h₀} {i₀ = i₀} {t₀ = t₀} {c = c} shorter h i t then-read rooms reads.
      reads_contents c (read_still (longer shorter) text h i t then-read (length h₀) (length i₀) (length t₀) rooms.half_breadth_room rooms.item_room rooms.tank_room) reads;
  rows_stay_the_same = λ {half_breadths = half_breadths} {p = p} {rows = rows} shorter taken made. made_still half_breadths p (longer shorter) taken made;
}
