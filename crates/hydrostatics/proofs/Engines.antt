-- The two engines beside each other, by the contracts of the two calls as the checker has them.
--     one_promise        what the two calls ensure is one statement, word for word
--     engines_agree      so a call of the one and a call of the other, lent the same, answer and leave the same, whatever was lent
-- The same of any answers that keep the promise: `makes_rows_unique` of Unique. Assumes nothing.
use mathlib.Core.Path.{◌≡◌, refl}
use contract.Lifetimes.{Lfts}
use borrow.Fn.Kinds.{Dens, ended_of, res_t}
use denote.Triple.Clauses.{AtExit}
use Rattle.hydrostatics.proofs.Unique.{makes_rows_unique}
use Rattle.hydrostatics.proofs.make_rows.Kinds as kinds
use Rattle.hydrostatics.proofs.make_rows.Reads as by-waterplanes
use Rattle.hydrostatics.proofs.make_rows_by_sections.Reads as by-sections

pub one_promise : by-waterplanes.Post ≡ by-sections.Post
one_promise = refl

-- `lent`: half-breadths, particulars and table; `left`: what the call leaves of them, the table last
pub engines_agree :
    (κs : Lfts 2) (lent : Dens κs kinds.ps) (answer answer' : (res_t kinds.r κs).Denot) (left left' : AtExit (ended_of 2 kinds.ps kinds.r) κs)
    → by-waterplanes.Post κs lent answer left
    → by-sections.Post κs lent answer' left'
    → (answer ≡ answer') × (left.1.1.0.now ≡ left'.1.1.0.now)
engines_agree κs lent answer answer' left left' one other = makes_rows_unique one other
