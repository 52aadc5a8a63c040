-- What is refused has one of the paper's numbers.
--     surface_numbered        of a free surface
-- Assumes nothing.
use mathlib.Core.List.{List}
use Prim.Native.Nat.{ℕ}
use Rattle.ranges.specs.Outcome.{Numbered}
use Rattle.ranges.proofs.Numbered.{numbered}
use Rattle.hoppers.specs.Hopper.{surface_of}

pub surface_numbered : (port starboard : List ℕ) (h density : ℕ) → Numbered (surface_of port starboard h density)
unfolding surface_of
surface_numbered port starboard h density = search numbered
