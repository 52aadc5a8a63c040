-- The rows by the two engines, as other languages call them.
--     one_promise        the two calls make one promise, word for word; what it leaves open is nothing, by `tells_unique` and the table's own equation
-- Assumes nothing.
use mathlib.Core.Path.{◌≡◌, refl}
use Rattle.rugulosca.proofs.hulls.rugulosca_rows.Reads as by-waterplanes
use Rattle.rugulosca.proofs.hulls.rugulosca_rows_by_sections.Reads as by-sections

pub one_promise : by-waterplanes.Post ≡ by-sections.Post
one_promise = refl
