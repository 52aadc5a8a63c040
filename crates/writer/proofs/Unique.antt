-- No two answers with rooms meet one promise.
--     writes_unique               the answer and the room are determined
-- Assumes nothing.
use mathlib.Core.Path.{◌≡◌}
use mathlib.Core.List.{List}
use Prim.Native.Nat.{ℕ}
use lib.IntN.{ℤ}
use Rattle.std.specs.Prelude.{Result}
use Rattle.arithmetic.proofs.Only.{only}
use Rattle.ranges.specs.declared.Particulars.{Particulars}
use Rattle.ranges.specs.declared.refusal.Refusal.{Refusal}
use Rattle.ranges.proofs.Outcomes.{answer_known}
use Rattle.writer.specs.Writer.{Writes}

pub writes_unique : {p : Particulars} {h : List ℕ} {i t : List ℤ} {room left left' : List ℕ} {a a' : Result ℕ Refusal}
    → Writes p h i t room left a → Writes p h i t room left' a' → (a ≡ a') × (left ≡ left')
writes_unique {a = a} {a' = a'} w v = (answer_known a a' (only w.answer_is v.answer_is), only w.left v.left)
