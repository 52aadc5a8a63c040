-- Each rule by its mark. Assumes nothing.
use mathlib.Core.Path.{refl}
use Rattle.rugulosca.proofs.profiles.wholes_of.Goals as goal

pub returns : goal.returns
returns c = rw (c.met-5.ensures, c.met-4.ensures, c.met-3.ensures, c.met-2.ensures, c.met.ensures) refl
