-- The first tests; then the slot is tested, and filled. Assumes nothing.
use mathlib.Core.Path.{◌≡◌, refl}
use lib.ListN.{length}
use Rattle.std.proofs.Common.{rules}
use Rattle.std.proofs.lemmas.Result.{err_from_is_err_and}
use Rattle.tally.specs.Tally.{slot_count}
use Rattle.tally.proofs.Stepping.{Passed, passed_all, loads_tried, loads_taken, loads_done, fitting_load, refused_as, done_as}
use Rattle.tally.proofs.load.Goals as goal
use Rattle.tally.proofs.load.Goals.{In_ok-tried}

pub returns-in_err-tried : goal.returns-in_err-tried
returns-in_err-tried c =
    let s = c.args in
    let p = err_from_is_err_and c.from_residual.result c.from_residual.ensures.1 in
    rw (p.1, p.2) (refused_as refl (loads_tried s.slot s.item s.tally.now c.in_err-tried.ensures refl))

passed : (c : In_ok-tried) → let s = c.args in Passed s.tally.now s.item s.slot
passed c = let s = c.args in passed_all c.in_ok-tried.ensures refl

pub returns-then-was : goal.returns-then-was
returns-then-was c =
    let s = c.args in
    refused_as c.at.ensures (loads_taken s.slot s.item s.tally.now (passed (goal.at.returns-then-was c).In_ok-tried) c.if-was.true)

pub put-requires : goal.put-requires
put-requires c =
    let s = c.args in
    let all : length c.args.tally.now.slots ≡ slot_count = search rules in
    fitting_load s.slot s.item s.tally.now (passed (goal.at.put-requires c).In_ok-tried) all

pub returns : goal.returns
returns c =
    let s = c.args in
    done_as c.put.ensures (loads_done s.slot s.item s.tally.now (passed (goal.at.returns c).In_ok-tried) c.if-was.false)
