-- What change request 6 asks of longer tables, sentence by sentence and in its own numbers.
use Rattle.std.specs.Prelude.{◌≡◌, List, ◌∷◌, map, ◌↔◌, ℕ, ◌*◌, ◌≤◌, ◌<◌, ℤ, pos, nat_abs, length}
use Rattle.ranges.specs.Fields.{particulars}
use Rattle.ranges.specs.Limits.{Limits, limits}
use Rattle.ranges.specs.Outcome.{answered, refused}
use Rattle.ranges.specs.Outside.{first_outside, numbers_of, bad_particular, bad_particular_by}
use Rattle.ranges.specs.Reasons.{paper}
use Rattle.ranges.specs.Refusals.{place_of_items, place_of_tanks}
use Rattle.ranges.specs.Sizes.{room_for_half_breadths}
use Rattle.ranges.specs.declared.Particulars.{Particulars}
use Rattle.offsets.specs.Back.{RoomForAnyFile, ReadBack}
use Rattle.offsets.specs.File.{Contents}
use Rattle.offsets.specs.Reader.{reader_by, summary_of, Reads}
use Rattle.offsets.specs.Reading.{numbers}
use Rattle.offsets.specs.Tokens.{Token, number, tokens}
use Rattle.writer.specs.Writer.{Writes}
use Rattle.offsets.specs.declared.Summary.{Summary}
use Rattle.hydrostatics.specs.Promise.{count_of, table_after, MakesRows}
use Rattle.hydrostatics.specs.Rows.{rows_by}
use Rattle.demands.specs.Answering.{Answer, RefusedWith}

-- each particular in its range
pub record FiveInRange (p : Particulars) : Type 0 where
  pub n_in : (2 ≤ p.n) × (p.n ≤ 80)
  pub m_in : (3 ≤ p.m) × (p.m ≤ 20)
  pub s_in : (50 ≤ p.s) × (p.s ≤ 2_500)
  pub d_in : (10 ≤ p.d) × (p.d ≤ 500)
  pub density_in : (900 ≤ p.density) × (p.density ≤ 1_100)

-- limits that are nowhere longer than today's, as those before the request are
pub record NowhereLonger (short : Limits) : Type 0 where
  pub intervals : short.most_intervals ≤ limits.most_intervals
  pub hull : short.longest_hull ≤ limits.longest_hull
  pub file : short.longest_file ≤ limits.longest_file

pub record LongerTables : Type 0 where
  -- "Raise n to 80, with n·s at most 100,000": no particular is refused just where
  pub hulls_taken : (p : Particulars) → (bad_particular p ≡ length particulars) ↔ (FiveInRange p × (p.n * p.s ≤ 100_000))
  -- "n·s too large is 4 at s, after all five ranges"
  pub too_long_for_the_rows : {half_breadths : List ℕ} {p : Particulars} {rows after : List ℕ} {answer : Answer ℕ} → FiveInRange p → 100_000 < p.n * p.s → MakesRows half_breadths p rows after answer
      → RefusedWith 4 2 answer × (after ≡ rows)
  pub too_long_for_the_writer : {p : Particulars} {half_breadths : List ℕ} {items tanks : List ℤ} {room room_left : List ℕ} {answer : Answer ℕ} → FiveInRange p → 100_000 < p.n * p.s → Writes p half_breadths items tanks room room_left answer
      → RefusedWith 4 2 answer × (room_left ≡ room)
  -- in the reader, whatever follows the five, at the place of the third
  pub too_long_for_the_reader : {text h₀ h' : List ℕ} {i₀ i' t₀ t' : List ℤ} {answer : Answer Summary} {p : Particulars} {count n m s d density : ℕ} {rest : List Token} → RoomForAnyFile h₀ i₀ t₀ → length text ≤ 32_768
      → tokens text ≡ number count (pos 5) ∷ number n (pos p.n) ∷ number m (pos p.m) ∷ number s (pos p.s) ∷ number d (pos p.d) ∷ number density (pos p.density) ∷ rest
      → FiveInRange p → 100_000 < p.n * p.s → Reads text h₀ h' i₀ i' t₀ t' answer
      → RefusedWith 4 s answer
  -- "after all five ranges": what refuses one of the five refuses them, however long their hull; in the reader also what is no number, and the file's end
  pub ranges_come_first : (p : Particulars) → first_outside particulars (numbers_of p) < length particulars → bad_particular p ≡ first_outside particulars (numbers_of p)
  pub particulars_come_first : {text h₀ h' : List ℕ} {i₀ i' t₀ t' : List ℤ} {answer : Answer Summary} {count why place : ℕ} {rest : List Token} → RoomForAnyFile h₀ i₀ t₀ → length text ≤ 32_768
      → tokens text ≡ number count (pos 5) ∷ rest → numbers (length text) particulars rest ≡ refused why place → Reads text h₀ h' i₀ i' t₀ t' answer
      → RefusedWith why place answer
  -- "1 now speaks of 32,768 bytes, its place too"
  pub too_many_bytes : {text h₀ h' : List ℕ} {i₀ i' t₀ t' : List ℤ} {answer : Answer Summary} → RoomForAnyFile h₀ i₀ t₀ → 32_768 < length text → Reads text h₀ h' i₀ i' t₀ t' answer
      → RefusedWith 1 32_768 answer
  -- "The reader's half-breadth room becomes 1,701. Places for items move to 3,000+i and for tanks to 4,000+i."
  pub room_and_places : (room_for_half_breadths ≡ 1_701) × (place_of_items ≡ 3_000) × (place_of_tanks ≡ 4_000)
  -- "A file that was accepted reads to the same numbers": whatever tables it was read into then
  pub files_read_alike : {short : Limits} {text h₀ h' : List ℕ} {i₀ i' t₀ t' : List ℤ} {answer : Answer Summary} {c : Contents} → NowhereLonger short → (h i t : ℕ) → reader_by short text h i t ≡ answered c
      → RoomForAnyFile h₀ i₀ t₀ → Reads text h₀ h' i₀ i' t₀ t' answer
      → ReadBack (summary_of c) (map nat_abs c.half_breadths) c.items c.tanks h₀ h' i₀ i' t₀ t' answer
  -- "and the rows of an old hull stay the same": whether they were answered or refused
  pub rows_stay_the_same : {short : Limits} {half_breadths : List ℕ} {p : Particulars} {rows after : List ℕ} {answer : Answer ℕ} → NowhereLonger short → length particulars ≤ bad_particular_by short p → MakesRows half_breadths p rows after answer
      → (paper answer ≡ count_of (rows_by half_breadths p short (length rows))) × (after ≡ table_after (rows_by half_breadths p short (length rows)) rows)
