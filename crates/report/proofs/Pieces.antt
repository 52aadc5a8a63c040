-- Pieces of the sheet put one after another, each of so many bytes at most.
--     puts_both, few_le             two pieces, one after the other; a piece is of more bytes at most, too
--     room_le, room_next           room for more is room for less; room for two pieces is room for the second
--     few_of, puts_copied          a piece of known length; bytes that were copied to the place after what was put
--     few_field                    a space and a number
-- Assumes nothing.
use Prim.Native.Nat.{ℕ, ◌+◌, ◌-◌, ◌≤◌}
use mathlib.Core.Path.{◌≡◌}
use mathlib.Core.List.{List, [], ◌∷◌, ◌++◌}
use native.Mathlib.Omega.{arith}
use lib.IntN.{ℤ}
use lib.ListN.{length, take, drop, length-append}
use Rattle.numerals.specs.Pieces.{Puts, HasRoom}
use Rattle.numerals.specs.Printed.{printed, most_printed}
use Rattle.numerals.specs.declared.lines.Lines.{Lines}
use Rattle.numerals.proofs.Pieces.{piece_put, puts_append, room_left}
use Rattle.offsets.specs.Tokens.{space}
use Rattle.report.specs.Lines.{field}
use Rattle.report.specs.Private.Putting.{PutsFew, most_field}

pub few_of : {said : List ℕ} {was is : Lines} → Puts said was is → PutsFew (length said) said was is
few_of p = record { few = omega arith; puts = p }

-- the bytes were copied to their place
pub puts_copied : (was is : Lines) (said back : List ℕ) → is.text.ghost_name ≡ was.text.ghost_name → is.at ≡ was.at + length said → back ≡ said
    → is.text.now ≡ take was.at was.text.now ++ (back ++ drop (was.at + length said - was.at) (drop was.at was.text.now)) → PutsFew (length said) said was is
puts_copied was is said back same next e f = few_of (piece_put was is said same next back e f)

pub few_le : {most : ℕ} {said : List ℕ} {was is : Lines} → PutsFew most said was is → (more : ℕ) → most ≤ more → PutsFew more said was is
few_le p more h = record { few = omega (arith, p.few); puts = p.puts }

pub puts_both : {most more : ℕ} {said then : List ℕ} {was mid is : Lines} → PutsFew most said was mid → PutsFew more then mid is → PutsFew (most + more) (said ++ then) was is
puts_both {said} {then} p q = record { few = omega (arith, length-append said then, p.few, q.few); puts = puts_append p.puts q.puts }

pub room_le : {m n : ℕ} {l : Lines} → n ≤ m → HasRoom m l → HasRoom n l
room_le h r = record { enough = omega (arith, r.enough) }

pub room_next : {all most more : ℕ} {said : List ℕ} {was mid : Lines} → PutsFew most said was mid → HasRoom all was → most + more ≤ all → HasRoom more mid
room_next p r h = record { enough = omega (arith, room_left p.puts, p.few, r.enough) }

pub few_field : (v : ℤ) {was mid is : Lines} → Puts (space ∷ []) was mid → Puts (printed v) mid is → length (printed v) ≤ most_printed → PutsFew most_field (field v) was is
few_field v p q few = record { few = omega arith; puts = puts_append p q }
