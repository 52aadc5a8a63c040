-- A file that passed the writer's tests.
use Rattle.std.specs.Prelude.{ℕ, ◌≡◌, Result, List, ℤ}
use Rattle.ranges.specs.declared.Particulars.{Particulars}
use Rattle.ranges.specs.declared.refusal.Refusal.{Refusal}
use Rattle.writer.specs.Writer.{Writes}
use Rattle.writer.specs.Written.{text_of}
use Rattle.writer.specs.declared.file.File.{File}

-- it has such particulars and tables
pub record IsOf (p : Particulars) (half_breadths : List ℕ) (items tanks : List ℤ) (file : File) : Type 0 where
  pub particulars_are : file.particulars ≡ p
  pub half_breadths_are : file.half_breadths.now ≡ half_breadths
  pub items_are : file.items.now ≡ items
  pub tanks_are : file.tanks.now ≡ tanks

-- its text, and what the writer promises of it
abbrev pub text_in : File → List ℕ
text_in file = text_of file.particulars file.half_breadths.now file.items.now file.tanks.now

abbrev pub WritesFile : File → List ℕ → List ℕ → Result ℕ Refusal → Type 0
WritesFile file = Writes file.particulars file.half_breadths.now file.items.now file.tanks.now
