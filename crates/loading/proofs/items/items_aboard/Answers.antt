-- The walk, item by item. Assumes nothing.
use mathlib.Core.List.{[], ◌++◌}
use mathlib.Core.Path.{◌≡◌, ap, ◌∙◌}
use Prim.Native.Nat.{◌+◌, ◌*◌, ◌/◌, ◌<◌}
use native.Mathlib.Omega.{arith}
use lib.ListN.{length, drop, get_or, length-drop}
use Rattle.ranges.specs.Sizes.{item_width}
use Rattle.loading.specs.Private.Aboard.{Bearable, ◌with◌, weight_at}
use Rattle.loading.proofs.Reaches.{reach_weight, reach_less}
use Rattle.loading.proofs.Stowage.{at_first_item, next_stowed, few_items, past_item, past_all}
use Rattle.loading.proofs.Walks.{nothing_is, record_next}
use Rattle.loading.proofs.items.items_aboard.Goals as goal
use Rattle.loading.proofs.items.items_aboard.Goals.{In-loop-numbers}

pub loop-numbers-init : goal.loop-numbers-init
loop-numbers-init c = rw (nothing_is c.default-all.result c.default-all.ensures) (at_first_item c.args.items.now c.requires)

-- the record at hand is the front of what is left
next : (c : In-loop-numbers) → (drop (item_width * c.loop-numbers.numbers-index) c.args.items.now ≡ get_or c.as_chunks.result.0.now c.loop-numbers.numbers-index [] ++ drop (item_width * (c.loop-numbers.numbers-index + 1)) c.args.items.now) × (length (get_or c.as_chunks.result.0.now c.loop-numbers.numbers-index []) ≡ item_width)
next c =
    let more : c.loop-numbers.numbers-index < length c.args.items.now / item_width = omega (arith, c.loop-numbers-test.true, c.as_chunks.ensures.front_len) in
    record_next item_width c.args.items.now c.as_chunks.ensures.front c.loop-numbers.numbers-index more (omega arith)

pub of_item-requires : goal.of_item-requires
of_item-requires c = next_stowed c.loop-numbers.invariant _ _ (next c).0 (next c).1

pub add-all-requires : goal.add-all-requires
add-all-requires c =
    let at = (goal.at.add-all-requires c).In-loop-numbers in
    let one : Bearable c.aboard.result =
    rw (c.aboard.ensures ∙ ap (λ i. weight_at i.kg i.x i.y i.z 0) c.of_item.ensures)
    (reach_less (reach_weight (next_stowed c.loop-numbers.invariant _ _ (next at).0 (next at).1) 0) (omega arith) (omega arith)) in
    (few_items c.loop-numbers.invariant c.requires, one)

pub loop-numbers-preserved : goal.loop-numbers-preserved
loop-numbers-preserved c =
    let at = (goal.at.loop-numbers-preserved c).In-loop-numbers in
    past_item c.loop-numbers.invariant _ _ (next at).0 (next at).1
    (c.add-all.ensures ∙ ap (λ a. c.loop-numbers.all with a) (c.aboard.ensures ∙ ap (λ i. weight_at i.kg i.x i.y i.z 0) c.of_item.ensures))

pub returns : goal.returns
returns c =
    past_all c.loop-numbers.invariant (omega (arith, c.loop-numbers-test.false, c.as_chunks.ensures.front_len, length-drop (item_width * c.loop-numbers.numbers-index) c.args.items.now)) c.requires
