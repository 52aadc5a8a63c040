-- The definitions give the papers' figures of the shortest files.
--     shortest_files_are             what is refused of each, and where
--     shortest_files_before_are      the same by document 01 alone
-- The others are run by the crate trials. Assumes nothing.
use Prim.Native.Nat.{ℕ}
use mathlib.Core.Path.{◌≡◌, refl}
use mathlib.Core.List.{List, [], ◌∷◌, ◌++◌, map}
use lib.ListN.{length, replicate}
use Rattle.arithmetic.specs.Choice.{when◌then◌else◌}
use Rattle.numerals.specs.Number.{minus, is_digit, all_digits, value_from, is_whole, number_of}
use Rattle.ranges.specs.Fields.{within}
use Rattle.ranges.specs.Outcome.{Outcome, refused, and_then}
use Rattle.ranges.specs.Outside.{too_long}
use Rattle.ranges.specs.Refusals.{not_anumber, count_not_allowed, out_of_range, ends_too_early}
use Rattle.ranges.specs.Sizes.{room_for_half_breadths, room_for_items, room_for_tanks}
use Rattle.ranges.proofs.Longer.{document_one}
use Rattle.offsets.specs.File.{Contents, hull_by, file_by}
use Rattle.offsets.specs.Reader.{reader_of, reader_by}
use Rattle.offsets.specs.Reading.{one, count, numbers}
use Rattle.offsets.specs.Tokens.{is_separator, said, closed, tokens_by}
use Rattle.offsets.proofs.AsBefore.{separated_before, leading_zero, without_minus, number_before, tokens_before}

-- 5 80 3 1251 10, with a space after it: 80 intervals of 1,251 mm are too long, and the density is still to come
abbrev too_long_so_far : List ℕ
too_long_so_far = 53 ∷ 32 ∷ 56 ∷ 48 ∷ 32 ∷ 51 ∷ 32 ∷ 49 ∷ 50 ∷ 53 ∷ 49 ∷ 32 ∷ 49 ∷ 48 ∷ 32 ∷ []

-- a text, and what the reader says of it
abbrev pub shortest_files : List (List ℕ × Outcome Contents)
shortest_files =
    -- nothing; 6; 05; -0
    ([], refused ends_too_early 0)
    ∷ (54 ∷ [], refused count_not_allowed 0)
    ∷ (48 ∷ 53 ∷ [], refused ends_too_early 2)
    ∷ (minus ∷ 48 ∷ [], refused not_anumber 0)
    -- -000; -01; 5 with eight zeros in front, and with nine
    ∷ (minus ∷ 48 ∷ 48 ∷ 48 ∷ [], refused not_anumber 0)
    ∷ (minus ∷ 48 ∷ 49 ∷ [], refused count_not_allowed 0)
    ∷ (replicate 8 48 ++ 53 ∷ [], refused ends_too_early 9)
    ∷ (replicate 9 48 ++ 53 ∷ [], refused not_anumber 0)
    -- 5 between a tab and a carriage return and line feed; beside the bytes 8, 11, 12 and 14
    ∷ (9 ∷ 53 ∷ 13 ∷ 10 ∷ [], refused ends_too_early 4)
    ∷ (53 ∷ 8 ∷ [], refused not_anumber 0)
    ∷ (53 ∷ 11 ∷ [], refused not_anumber 0)
    ∷ (53 ∷ 12 ∷ [], refused not_anumber 0)
    ∷ (53 ∷ 14 ∷ [], refused not_anumber 0)
    -- a hull too long: with 900 after it at its s; with 899 or - at that, and with nothing at the end
    ∷ (too_long_so_far ++ 57 ∷ 48 ∷ 48 ∷ [], refused out_of_range 7)
    ∷ (too_long_so_far ++ 56 ∷ 57 ∷ 57 ∷ [], refused out_of_range 15)
    ∷ (too_long_so_far ++ minus ∷ [], refused not_anumber 15)
    ∷ (too_long_so_far, refused ends_too_early 15)
    ∷ []

abbrev read_whole : List ℕ → Outcome Contents
read_whole text = reader_of text room_for_half_breadths room_for_items room_for_tanks

pub shortest_files_are : map (λ f. read_whole f.0) shortest_files ≡ map (λ f. f.1) shortest_files
unfolding reader_by file_by hull_by too_long count one numbers tokens_by closed said number_of is_whole all_digits is_digit value_from is_separator within and_then when◌then◌else◌
shortest_files_are = refl

abbrev shortest_files_before : List (List ℕ × Outcome Contents)
shortest_files_before =
    -- nothing; 6; 05; -0
    ([], refused ends_too_early 0)
    ∷ (54 ∷ [], refused count_not_allowed 0)
    ∷ (48 ∷ 53 ∷ [], refused not_anumber 0)
    ∷ (minus ∷ 48 ∷ [], refused not_anumber 0)
    ∷ []

pub shortest_files_before_are : map (λ f. file_by (length f.0) document_one (tokens_before f.0)) shortest_files_before ≡ map (λ f. f.1) shortest_files_before
unfolding file_by count one tokens_by closed said number_before without_minus leading_zero number_of is_whole all_digits is_digit value_from separated_before within and_then when◌then◌else◌
shortest_files_before_are = refl
