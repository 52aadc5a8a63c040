-- What is known of a tally that is handed in.
--     all_slots     it has 32 slots: its list of them is an array
-- Assumes nothing.
use mathlib.Core.Path.{◌≡◌}
use mathlib.Core.List.{[], ◌∷◌}
use mir.Val.{Val}
use denote.Laws.{Is}
use denote.Struct.Laws as LL
use lib.ListN.{length}
use Rattle.tally.specs.Tally.{slot_count}
use Rattle.tally.specs.declared.Tally.{Tally}
use Rattle.tally.specs.contracts.Tally as T
use Rattle.tally.proofs.Tally.TheLaws as T'

pub all_slots : (t : Tally) {v : Val} → Is T.the_row t (v ∷ []) → length t.slots ≡ slot_count
all_slots t is = (LL.owed T.the_type T'.the_laws t _ is).0.1.0.1
