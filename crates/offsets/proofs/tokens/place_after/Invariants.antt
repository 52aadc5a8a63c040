-- Each number passed leaves one fewer to pass. Assumes nothing.
use Prim.Native.Nat.{◌-◌}
use mathlib.Core.Path.{◌≡◌}
use Rattle.offsets.specs.Private.Steps.{tokens_at, place_after}
use Rattle.offsets.proofs.tokens.place_after.Given as goal

abbrev pub invariant-loop-passed : goal.invariant-loop-passed
invariant-loop-passed l = place_after (l.count - l._passed) (tokens_at l.text l.next) ≡ place_after l.count (tokens_at l.text l.from)
