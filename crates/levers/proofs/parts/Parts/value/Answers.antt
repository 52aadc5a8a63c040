-- Small parts have a difference that 64 bits hold. Assumes nothing.
use Rattle.levers.proofs.Comparing.{value_back}
use Rattle.levers.proofs.parts.Parts.value.Goals as goal

pub returns : goal.returns
returns c = value_back c.args.self c.difference.ensures
