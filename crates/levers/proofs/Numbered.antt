-- What is refused has one of the paper's numbers.
--     profile_numbered        of a profile
-- Assumes nothing.
use mathlib.Core.List.{List}
use Prim.Native.Nat.{ℕ}
use Rattle.ranges.specs.Outcome.{Numbered}
use Rattle.ranges.proofs.Numbered.{numbered}
use Rattle.levers.specs.Promise.{profile_of}

pub profile_numbered : (kn : List ℕ) (km kg : ℕ) → Numbered (profile_of kn km kg)
unfolding profile_of
profile_numbered kn km kg = search numbered
