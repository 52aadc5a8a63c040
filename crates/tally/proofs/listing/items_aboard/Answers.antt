-- The walk, slot by slot. Assumes nothing.
use mathlib.Core.Path.{◌≡◌, refl}
use borrow.Author.Rules.{rules}
use lib.ListN.{length}
use Rattle.tally.specs.Tally.{slot_count}
use Rattle.tally.proofs.Listings.{listing_start, listing_empty, listing_filled, listing_end}
use Rattle.tally.proofs.listing.items_aboard.Goals as goal
use native.Mathlib.Omega.{arith}

pub loop-slot-init : goal.loop-slot-init
loop-slot-init c = listing_start _ _ refl

pub loop-slot-preserved-then-not-slot : goal.loop-slot-preserved-then-not-slot
loop-slot-preserved-then-not-slot c =
    let all : length c.args.slots.now ≡ slot_count = search rules in
    listing_empty c.loop-slot.invariant all (omega arith) c.if-not-slot.true

pub loop-slot-preserved : goal.loop-slot-preserved
loop-slot-preserved c =
    let all : length c.args.slots.now ≡ slot_count = search rules in
    listing_filled c.loop-slot.invariant all (omega arith) c.if-not-slot.false (record { kg = search rules; x = search rules; y = search rules; z = search rules })

pub returns : goal.returns
returns c = record { is = listing_end _ _ _ _ c.loop-slot.invariant (omega arith) }
