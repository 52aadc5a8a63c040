-- The items then aboard are in range, so that their totals are told. Assumes nothing.
use mathlib.Core.Path.{◌≡◌, ap, ◌∙◌}
use lib.ListN.{length, set, length-set}
use Rattle.std.proofs.Common.{rules}
use Rattle.tally.specs.Tally.{slot_count, tally_of}
use Rattle.tally.proofs.Soundness.{totals_told, in_range_told}
use Rattle.tally.proofs.Tally.put.Goals as goal
use Rattle.tally.proofs.Tally.put.Goals.{After-added_up}

all : (c : After-added_up) → let s = c.args in length (set s.self.now.slots s.slot s.content) ≡ slot_count
all c =
    let s = c.args in
    let size : length c.args.self.now.slots ≡ slot_count = search rules in
    length-set s.self.now.slots s.slot s.content ∙ size

pub unwrap-self-requires : goal.unwrap-self-requires
unwrap-self-requires c = let is = in_range_told _ (all c) c.added_up.ensures c.requires.is_in_range in search (rules, is)

pub returns : goal.returns
unfolding tally_of
returns c =
    let s = c.args in
    let slots = set s.self.now.slots s.slot s.content in
    let told = totals_told slots (all (goal.at.returns c).After-added_up) c.added_up.ensures c.unwrap-self.ensures in
    ap (λ totals. record { slots = slots; totals = totals }) told.1
