-- The text of a file as its four tables, which are put one after another.
--     tables_next        the particulars and the others are the text, where the writer's tests were passed
-- Assumes nothing.
use mathlib.Core.Path.{◌≡◌, ap, ◌∙◌}
use mathlib.Core.List.{List, [], ◌++◌, map, append_assoc, append-nil}
use Prim.Native.Nat.{ℕ, ◌+◌, ◌/◌}
use native.Mathlib.Nat.{mul-div_cancel}
use native.Mathlib.Omega.{arith}
use lib.IntN.{ℤ, pos}
use lib.ListN.{length, length-map}
use Rattle.std.proofs.lemmas.List.{map-id}
use Rattle.numerals.specs.Pieces.{HasRoom}
use Rattle.numerals.specs.declared.lines.Lines.{Lines}
use Rattle.numerals.proofs.Pieces.{Leads, leads_all}
use Rattle.ranges.specs.Fields.{particulars}
use Rattle.ranges.specs.Outside.{numbers_of}
use Rattle.ranges.specs.Sizes.{item_width, tank_width}
use Rattle.ranges.specs.declared.Particulars.{Particulars}
use Rattle.writer.specs.Private.Putting.{Passes, rows_text, table_text}
use Rattle.writer.specs.Written.{lines, section_text, text_of}

module _ {p : Particulars} {h : List ℕ} {i t : List ℤ} (o : Passes p h i t) where
  -- as many lines as stations
  stations : rows_text (p.m + 1) (map pos h) ≡ lines (p.m + 1) (p.n + 1) (map pos h)
  stations =
      let count : length (map pos h) / (p.m + 1) ≡ p.n + 1 =
      ap (λ k. k / (p.m + 1)) (length-map h pos ∙ o.right_sizes.half_breadth_size) ∙ mul-div_cancel (p.n + 1) (omega arith) in
      ap (λ k. lines (p.m + 1) k (map pos h)) count

  -- the particulars are a table of one line
  tables : text_of p h i t
      ≡ table_text (length particulars) (length particulars) (numbers_of p)
      ++ (table_text (length h) (p.m + 1) (map pos h) ++ (table_text (length i / item_width) item_width i ++ (table_text (length t / tank_width) tank_width t ++ [])))
  unfolding text_of section_text lines
  tables = rw (stations, o.right_sizes.half_breadth_size) (simp (append_assoc, append-nil))

  pub tables_next : (numbers : List ℕ) → map pos numbers ≡ numbers_of p → (was : Lines) → HasRoom (length (text_of p h i t)) was
      → Leads (table_text (length particulars) (length particulars) (map pos numbers)
      ++ (table_text (length h) (p.m + 1) (map pos h) ++ (table_text (length i / item_width) item_width (map (λ v. v) i) ++ (table_text (length t / tank_width) tank_width (map (λ v. v) t) ++ []))))
      was (text_of p h i t) was
  tables_next numbers five was room = rw (map-id i, map-id t, five, ← tables) (leads_all (text_of p h i t) was room)
