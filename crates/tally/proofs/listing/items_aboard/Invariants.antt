-- The walk, slot by slot. Assumes nothing.
use Rattle.tally.proofs.Listings.{Listing}
use Rattle.tally.proofs.listing.items_aboard.Given as goal

abbrev pub invariant-loop-slot : goal.invariant-loop-slot
invariant-loop-slot l = Listing l.fn.slots l.numbers l.count l.slot-index
