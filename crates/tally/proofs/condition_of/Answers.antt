-- A tally that is not sound is refused; the condition is that of the items aboard. Assumes nothing.
use mathlib.Core.Path.{sym, ap, ◌∙◌}
use Rattle.arithmetic.proofs.Choice.{chosen}
use Rattle.std.specs.Prelude.{Err}
use Rattle.ranges.specs.Reasons.{paper}
use Rattle.loading.specs.Condition.{condition_of}
use Rattle.tally.specs.Condition.{condition_aboard}
use Rattle.tally.proofs.condition_of.Goals as goal

pub returns-then-not-is_sound : goal.returns-then-not-is_sound
unfolding condition_aboard
returns-then-not-is_sound c = ap (λ r. paper (Err r)) c.at.ensures ∙ sym (simp (sym c.is_sound.ensures ∙ c.if-not-is_sound.true, chosen))

pub returns : goal.returns
unfolding condition_aboard
returns c =
    let s = c.args in
    c.condition_of.ensures.answer_is
    ∙ ap (λ items. condition_of items s.tanks.now s.rows.now) (c.items.ensures ∙ c.items_aboard-listed.ensures.is)
    ∙ sym (simp (sym c.is_sound.ensures ∙ c.if-not-is_sound.false, chosen))
