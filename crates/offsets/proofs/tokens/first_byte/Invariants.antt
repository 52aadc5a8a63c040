-- Only separators were passed over. Assumes nothing.
use mathlib.Core.Path.{◌≡◌}
use Rattle.offsets.specs.Private.Steps.{tokens_at}
use Rattle.offsets.proofs.tokens.first_byte.Given as goal

abbrev pub invariant-loop-at : goal.invariant-loop-at
invariant-loop-at l = tokens_at l.text l.at ≡ tokens_at l.text l.from
