-- By what the table of the items aboard comes to. Assumes nothing.
use mathlib.Core.Path.{◌≡◌, sym, ◌∙◌}
use lib.ListN.{length}
use Rattle.std.proofs.Common.{rules}
use Rattle.tally.specs.Tally.{slot_count}
use Rattle.tally.proofs.Soundness.{totals_same, unsound_told, sound_told}
use Rattle.tally.proofs.Tally.is_sound.Goals as goal

pub returns-in-Err : goal.returns-in-Err
returns-in-Err c =
    let t = c.args.self.now in
    let all : length c.args.self.now.slots ≡ slot_count = search rules in
    sym (unsound_told t all c.added_up.ensures c.in-Err.is)

pub returns-in-Ok : goal.returns-in-Ok
returns-in-Ok c =
    let t = c.args.self.now in
    let all : length c.args.self.now.slots ≡ slot_count = search rules in
    c.eq.ensures ∙ totals_same t.totals c.in-Ok.of_items ∙ sym (sound_told t all c.added_up.ensures c.in-Ok.is)
