-- What the reader refuses has one of the paper's numbers.
--     one_numbered, count_numbered, numbers_numbered, hull_numbered, section_numbered, complete_numbered, file_numbered     the parts of a file
--     reader_numbered             the call's outcome
-- Assumes nothing.
use Prim.Native.Nat.{ℕ, ◌≤◌}
use mathlib.Core.Bool.{true}
use mathlib.Core.List.{List, [], ◌∷◌}
use mathlib.Core.Path.{◌≡◌, refl}
use native.Mathlib.Omega.{arith}
use lib.ListN.{length}
use Rattle.ranges.specs.Fields.{Range, ◌to◌, particulars, half_breadth, item, tank}
use Rattle.ranges.specs.Limits.{limits}
use Rattle.ranges.specs.Outcome.{Numbered}
use Rattle.ranges.specs.Refusals.{first_refusal, last_refusal, is_given, count_not_allowed, out_of_range}
use Rattle.ranges.specs.Sizes.{most_items, most_tanks}
use Rattle.ranges.proofs.Numbered.{numbered, answered_numbered, then_numbered}
use Rattle.offsets.specs.File.{Contents, points, records, hull_by, section, complete, file_by, file}
use Rattle.offsets.specs.Reader.{reader_of, reader_by}
use Rattle.offsets.specs.Reading.{one, count, numbers}
use Rattle.offsets.specs.Tokens.{Token, number, no_number, tokens}

module _ (len : ℕ) where
  pub one_numbered : (why : ℕ) (range : Range) (ts : List Token) → first_refusal ≤ why → why ≤ last_refusal → is_given why ≡ true → Numbered (one len why range ts)
  unfolding one
  one_numbered why range [] least most given = search numbered
  one_numbered why range (no_number place ∷ ts) least most given = search numbered
  one_numbered why range (number place v ∷ ts) least most given = search numbered

  pub count_numbered : (least most : ℕ) (ts : List Token) → Numbered (count len least most ts)
  unfolding count
  count_numbered least most ts = then_numbered (one_numbered count_not_allowed (least to most) ts (omega arith) (omega arith) refl) (λ read. answered_numbered _)

  pub numbers_numbered : (ranges : List Range) (ts : List Token) → Numbered (numbers len ranges ts)
  unfolding numbers
  numbers_numbered [] ts = answered_numbered _
  numbers_numbered (range ∷ ranges) ts =
      then_numbered (one_numbered out_of_range range ts (omega arith) (omega arith) refl) (λ read. then_numbered (numbers_numbered ranges read.1) (λ read. answered_numbered _))

  pub hull_numbered : (ts : List Token) → Numbered (hull_by len limits ts)
  unfolding hull_by
  hull_numbered ts = then_numbered (numbers_numbered particulars ts) (λ read. search numbered)

  pub section_numbered : (least most : ℕ) (fields : List Range) (ts : List Token) → Numbered (section len least most fields ts)
  unfolding section
  section_numbered least most fields ts = then_numbered (count_numbered least most ts) (λ read. numbers_numbered (records read.0 fields) read.1)

  pub complete_numbered : (c : Contents) (ts : List Token) → Numbered (complete len c ts)
  unfolding complete
  complete_numbered c [] = search numbered
  complete_numbered c (number place v ∷ ts) = search numbered
  complete_numbered c (no_number place ∷ ts) = search numbered

  pub file_numbered : (ts : List Token) → Numbered (file len ts)
  unfolding file_by
  file_numbered ts =
      then_numbered (count_numbered (length particulars) (length particulars) ts) (λ five.
      then_numbered (hull_numbered five.1) (λ hull.
      then_numbered (section_numbered (points hull.0) (points hull.0) half_breadth hull.1) (λ half_breadths.
      then_numbered (section_numbered 0 most_items item half_breadths.1) (λ items.
      then_numbered (section_numbered 0 most_tanks tank items.1) (λ tanks.
      complete_numbered _ tanks.1)))))

pub reader_numbered : (text : List ℕ) (half_breadths items tanks : ℕ) → Numbered (reader_of text half_breadths items tanks)
unfolding reader_by
reader_numbered text half_breadths items tanks = let rest = file_numbered (length text) (tokens text) in search numbered depth 8
