-- The first tests; then the slot is tested, and its item put at its new place. Assumes nothing.
use mathlib.Core.Path.{◌≡◌, refl, sym, ap, subst, ◌∙◌}
use borrow.Author.Tests.{not-true, not-false}
use lib.ListN.{length}
use Rattle.std.specs.Prelude.{Ok, Err}
use Rattle.std.proofs.Common.{rules}
use Rattle.std.proofs.lemmas.Result.{err_from_is_err_and}
use Rattle.tally.specs.Private.Listing.{Fitting}
use Rattle.tally.specs.Private.Trying.{Tried}
use Rattle.tally.specs.Steps.{moved_to, with_slot}
use Rattle.tally.specs.Tally.{slot_count, no_item, holding}
use Rattle.tally.specs.declared.Item.{Item}
use Rattle.tally.proofs.Stepping.{Passed, passed_all, shifts_tried, shifts_empty, shifts_done, fitting_shift, refused_as, done_as}
use Rattle.tally.proofs.shift.Goals as goal
use Rattle.tally.proofs.shift.Goals.{In_ok-tried}

pub returns-in_err-tried : goal.returns-in_err-tried
returns-in_err-tried c =
    let s = c.args in
    let p = err_from_is_err_and c.from_residual.result c.from_residual.ensures.1 in
    rw (p.1, p.2) (refused_as refl (shifts_tried s.slot s.place s.tally.now (subst (λ (i : Item). Tried s.tally.now i s.slot (Err c.in_err-tried.field-0.0)) c.moved_to.ensures c.in_err-tried.ensures) refl))

passed : (c : In_ok-tried) → let s = c.args in Passed s.tally.now (moved_to s.place no_item) s.slot
passed c = let s = c.args in passed_all (subst (λ (i : Item). Tried s.tally.now i s.slot (Ok c.in_ok-tried.field-0)) c.moved_to.ensures c.in_ok-tried.ensures) refl

pub returns-then-not-was : goal.returns-then-not-was
returns-then-not-was c =
    let s = c.args in
    refused_as c.at.ensures (shifts_empty s.slot s.place s.tally.now (passed (goal.at.returns-then-not-was c).In_ok-tried) (not-true _ c.if-not-was.true))

pub put-requires : goal.put-requires
put-requires c =
    let s = c.args in
    let all : length c.args.tally.now.slots ≡ slot_count = search rules in
    subst (λ (i : Item). Fitting s.tally.now s.slot (holding i)) (sym c.moved_to-item.ensures)
    (fitting_shift s.slot s.place s.tally.now (passed (goal.at.put-requires c).In_ok-tried) (not-false _ c.if-not-was.false) all)

pub returns : goal.returns
returns c =
    let s = c.args in
    done_as (c.put.ensures ∙ ap (λ (i : Item). with_slot s.tally.now s.slot (holding i)) c.moved_to-item.ensures) (shifts_done s.slot s.place s.tally.now (passed (goal.at.returns c).In_ok-tried) (not-false _ c.if-not-was.false))
