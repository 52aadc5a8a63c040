-- "Refusals by number": the number of each reason that the code has a name for; and a call's answer as the paper says it.
use Rattle.std.specs.Prelude.{ℕ, Result, Ok, Err}
use Rattle.ranges.specs.Outcome.{Outcome, answered, refused}
use Rattle.ranges.specs.Refusals.{file_too_long, not_anumber, count_not_allowed, out_of_range, ends_too_early, token_after_end, wrong_size, displacement_not_rising, metacentre_too_high, rows_not_usable, too_light, too_heavy, contents_above_capacity, room_too_short, no_such_slot, slot_taken, slot_empty, no_light_weight, light_moment_negative, tally_unsound}
use Rattle.ranges.specs.declared.refusal.Reason.{Reason}
use Rattle.ranges.specs.declared.refusal.Reason.TheVariants.{FileTooLong, NotANumber, CountNotAllowed, OutOfRange, EndsTooEarly, TokenAfterEnd, WrongSize, DisplacementNotRising, MetacentreTooHigh, RowsNotUsable, TooLight, TooHeavy, ContentsAboveCapacity, RoomTooShort, NoSuchSlot, SlotTaken, SlotEmpty, NoLightWeight, LightMomentNegative, TallyUnsound}
use Rattle.ranges.specs.declared.refusal.Refusal.{Refusal}

abbrev pub number_of : Reason → ℕ
number_of FileTooLong = file_too_long
number_of NotANumber = not_anumber
number_of CountNotAllowed = count_not_allowed
number_of OutOfRange = out_of_range
number_of EndsTooEarly = ends_too_early
number_of TokenAfterEnd = token_after_end
number_of WrongSize = wrong_size
number_of DisplacementNotRising = displacement_not_rising
number_of MetacentreTooHigh = metacentre_too_high
number_of RowsNotUsable = rows_not_usable
number_of TooLight = too_light
number_of TooHeavy = too_heavy
number_of ContentsAboveCapacity = contents_above_capacity
number_of RoomTooShort = room_too_short
number_of NoSuchSlot = no_such_slot
number_of SlotTaken = slot_taken
number_of SlotEmpty = slot_empty
number_of NoLightWeight = no_light_weight
number_of LightMomentNegative = light_moment_negative
number_of TallyUnsound = tally_unsound

-- what a call answers, as the paper says it: the values of an answer, or a refusal's number and place
abbrev pub paper : {A : Type 0} → Result A Refusal → Outcome A
paper (Ok a) = answered a
paper (Err refusal) = refused (number_of refusal.reason) refusal.place
