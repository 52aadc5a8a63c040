-- The values that a table is read as, of whole numbers and of those of either sign.
--     reads_wholes, reads_signed     they are those of its numbers, one by one (`reads_each`, as the impl of each kind shows it)
-- Assumes nothing.
use mathlib.Core.Path.{refl, sym}
use mathlib.Core.List.{map}
use lib.IntN.{pos}
use Rattle.std.proofs.lemmas.List.{map-id}
use Rattle.ranges.specs.Numbers.{ReadsEach, as_they_are}

pub reads_wholes : ReadsEach pos (map pos)
reads_wholes table = refl

pub reads_signed : ReadsEach (λ v. v) as_they_are
reads_signed table = sym (map-id table)
