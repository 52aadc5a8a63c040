-- Longer tables: what the writer answered by shorter limits, it answers alike by longer ones.
--     written_still      of any limits and longer ones
--     written_since      of document 01's
-- Assumes nothing.
use mathlib.Core.Path.{◌≡◌}
use mathlib.Core.List.{List}
use Prim.Native.Nat.{ℕ}
use borrow.Author.Tests.{ltb-false}
use lib.IntN.{ℤ}
use Rattle.arithmetic.proofs.Choice.{chosen}
use Rattle.ranges.specs.Limits.{Limits}
use Rattle.ranges.specs.Outcome.{answered}
use Rattle.ranges.specs.declared.Particulars.{Particulars}
use Rattle.ranges.proofs.Longer.{Longer, none_bad_still, document_one, longer_now}
use Rattle.ranges.proofs.Outcomes.{not_refused}
use Rattle.writer.specs.Writer.{writer_by, writer_of}

module _ {short long : Limits} (longer : Longer short long) where
  pub written_still : (p : Particulars) (h : List ℕ) (i t : List ℤ) (room : ℕ) {text : List ℕ} → writer_by short p h i t room ≡ answered text → writer_by long p h i t room ≡ answered text
  unfolding writer_by
  written_still p h i t room e =
      let hull = not_refused _ _ e in
      simp (none_bad_still longer p (ltb-false _ _ hull.0), chosen) hull.1

pub written_since : (p : Particulars) (h : List ℕ) (i t : List ℤ) (room : ℕ) {text : List ℕ} → writer_by document_one p h i t room ≡ answered text → writer_of p h i t room ≡ answered text
written_since p h i t room e = written_still longer_now p h i t room e
