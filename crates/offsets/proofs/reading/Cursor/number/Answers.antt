-- The token that is found tells what is read. Assumes nothing.
use mathlib.Core.Path.{refl, sym, ◌∙◌}
use borrow.Author.Rules.{rules}
use mir.Syntax.{w64}
use mir.Val.{SFits}
use Rattle.arithmetic.proofs.Crossing.{back_is, heard}
use Rattle.ranges.specs.Fields.{within}
use Rattle.ranges.specs.Bounds.{range_by}
use Rattle.offsets.proofs.Taking.{one_end, one_none, one_in, one_out}
use Rattle.offsets.proofs.reading.Cursor.number.Goals as goal

pub returns-in_default : goal.returns-in_default
returns-in_default c = record { same_text = refl; read = rw c.at.ensures (one_end _ _ _ _ c.in_default.ensures) }

pub returns-in_default-number : goal.returns-in_default-number
returns-in_default-number c = record { same_text = refl; read = rw c.at-in_default-number.ensures (one_none _ _ _ _ _ (rw c.in_default-number.is at c.in-Some.ensures)) }

pub returns-then-not-is_within : goal.returns-then-not-is_within
returns-then-not-is_within c =
    let held : SFits w64 c.in-Some-number.numeral.value = search rules in
    let range = range_by c.args.bounds in
    record {
      same_text = refl;
      read = rw c.at-then-not-is_within.ensures (one_out _ _ _ range _ _ _ (rw c.in-Some-number.is at c.in-Some.ensures) (sym (heard (within range) held c.is_within.ensures) ∙ c.if-not-is_within.true));
    }

pub returns : goal.returns
returns c =
    let held : SFits w64 c.in-Some-number.numeral.value = search rules in
    let range = range_by c.args.bounds in
    record {
      same_text = refl;
      read = rw (back_is held) (one_in _ _ _ range _ _ _ (rw c.in-Some-number.is at c.in-Some.ensures) (sym (heard (within range) held c.is_within.ensures) ∙ c.if-not-is_within.false));
    }
