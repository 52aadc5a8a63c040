-- The first byte that is no separator begins the token. Assumes nothing.
use Rattle.offsets.proofs.tokens.next_token.Goals as goal

pub returns : goal.returns
returns c = rw c.in_ok-at.ensures.same at c.number_at-number.ensures
