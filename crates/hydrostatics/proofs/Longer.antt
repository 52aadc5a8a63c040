-- Longer tables: the rows of a hull that shorter limits let pass are the same rows by longer ones.
--     rows_still            whatever they come to, an answer or 7, 8, 9 or a half-breadth's 4
--     made_still            of the call: it answers and leaves what it did by the shorter ones
--     rows_since            the rows of a hull of document 01
-- Assumes nothing.
use mathlib.Core.Path.{◌≡◌, ap, ◌∙◌}
use mathlib.Core.List.{List}
use Prim.Native.Nat.{ℕ, ◌≤◌}
use borrow.Author.Tests.{le-ltb}
use lib.ListN.{length}
use Rattle.arithmetic.proofs.Choice.{chosen}
use Rattle.ranges.specs.Fields.{particulars}
use Rattle.ranges.specs.Limits.{Limits, limits}
use Rattle.ranges.specs.Outside.{bad_particular_by}
use Rattle.ranges.specs.declared.Particulars.{Particulars}
use Rattle.ranges.proofs.Longer.{Longer, none_bad_still, document_one, longer_now}
use Rattle.ranges.specs.Reasons.{paper}
use Rattle.hydrostatics.specs.Promise.{count_of, table_after, MakesRows}
use Rattle.hydrostatics.specs.Rows.{rows_by, rows_of}
use Rattle.ranges.specs.declared.refusal.Refusal.{Refusal}
use Rattle.std.specs.Prelude.{Result}

module _ (table : List ℕ) (p : Particulars) where
  pub rows_still : {short long : Limits} → Longer short long → length particulars ≤ bad_particular_by short p → (room : ℕ) → rows_by table p long room ≡ rows_by table p short room
  unfolding rows_by
  rows_still longer h room = simp (le-ltb (bad_particular_by _ p) (length particulars) h, none_bad_still longer p h, chosen)

  pub made_still : {short : Limits} {rows after : List ℕ} {answer : Result ℕ Refusal} → Longer short limits → length particulars ≤ bad_particular_by short p → MakesRows table p rows after answer
      → (paper answer ≡ count_of (rows_by table p short (length rows))) × (after ≡ table_after (rows_by table p short (length rows)) rows)
  made_still {rows = rows} longer h made =
      let same = rows_still longer h (length rows) in
      (made.answer_is ∙ ap count_of same, made.left ∙ ap (λ o. table_after o rows) same)

  pub rows_since : length particulars ≤ bad_particular_by document_one p → (room : ℕ) → rows_of table p room ≡ rows_by table p document_one room
  rows_since h room = rows_still longer_now h room
