-- What the call beneath promises of its answer, told. Assumes nothing.
use Rattle.rugulosca.proofs.Telling.{tells_as}
use Rattle.rugulosca.proofs.sheets.rugulosca_report.Goals as goal

pub returns : goal.returns
returns c =
    let made = c.make_report-answer.ensures.reports in
    record { tells = tells_as made.answer_is c.tell.ensures; room_after = made.left }
