-- What the call beneath promises of its answer, told. Assumes nothing.
use Rattle.rugulosca.proofs.Telling.{condition_as}
use Rattle.rugulosca.proofs.conditions.rugulosca_condition_straight_line.Goals as goal

pub returns : goal.returns
returns c = condition_as c.condition_by-answer.ensures.answer_is c.tell_condition.ensures
