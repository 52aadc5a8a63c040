-- A program need not read past the first byte that no file may have.
--     long_said        a text that is too long has the one E line
--     cut_alike        a text cut after so many bytes has the same sheet as the whole
-- Assumes nothing.
use Prim.Native.Nat.{ℕ, suc, ◌<◌}
use mathlib.Core.Path.{◌≡◌, refl, ap, sym, ◌∙◌}
use mathlib.Core.Bool.{Bool, true, false}
use mathlib.Core.List.{List}
use native.Mathlib.Omega.{arith}
use borrow.Author.Tests.{lt-ltb, ltb-true, ltb-false}
use lib.Dec.{ltb}
use lib.ListN.{length, take}
use lib.Seq.{take_all, length-take-le}
use Rattle.arithmetic.proofs.Choice.{chosen}
use Rattle.offsets.specs.Reader.{reader_by}
use Rattle.ranges.specs.Refusals.{file_too_long}
use Rattle.ranges.specs.Sizes.{longest_file}
use Rattle.loading.specs.declared.Reading.{Reading}
use Rattle.report.specs.Lines.{refusal_line}
use Rattle.report.specs.Sheet.{file_said, sheet_by}

pub long_said : (reading : Reading) (text : List ℕ) → longest_file < length text → sheet_by reading text ≡ refusal_line file_too_long longest_file
unfolding sheet_by file_said reader_by
long_said reading text long = simp (lt-ltb longest_file (length text) long, chosen)

pub cut_alike : (reading : Reading) (text : List ℕ) → sheet_by reading (take (suc longest_file) text) ≡ sheet_by reading text
cut_alike reading text = by_length (ltb longest_file (length text)) refl
  where
    by_length : (long : Bool) → ltb longest_file (length text) ≡ long → sheet_by reading (take (suc longest_file) text) ≡ sheet_by reading text
    by_length true e =
        let whole : longest_file < length text = ltb-true _ _ e in
        let front : length (take (suc longest_file) text) ≡ suc longest_file = length-take-le (suc longest_file) text (omega (arith, whole)) in
        long_said reading (take (suc longest_file) text) (omega (arith, front)) ∙ sym (long_said reading text whole)
    by_length false e = ap (sheet_by reading) (take_all (suc longest_file) text (omega (arith, ltb-false longest_file (length text) e)))
