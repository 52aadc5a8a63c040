-- What the sheet's call refuses has one of the paper's numbers.
--     report_numbered     room too short, and nothing else
-- Assumes nothing.
use Prim.Native.Nat.{ℕ}
use mathlib.Core.List.{List}
use Rattle.ranges.specs.Outcome.{Numbered}
use Rattle.ranges.proofs.Numbered.{numbered}
use Rattle.loading.specs.declared.Reading.{Reading}
use Rattle.report.specs.Promise.{report_by}

pub report_numbered : (reading : Reading) (text : List ℕ) (room : ℕ) → Numbered (report_by reading text room)
unfolding report_by
report_numbered reading text room = search numbered
