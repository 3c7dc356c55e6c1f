-- The table of numbers, and of what each leaves in a lent reply buffer, in the papers' order; of two rows that apply the first is given.
-- Computed.
-- Assumes nothing.
use mathlib.Core.Path.{◌≡◌, refl}
use mathlib.Core.Bool.{true, false}
use mathlib.Core.List.{List, [], ◌∷◌, map}
use Rattle.refusals.specs.declared.Refusal.{Refusal}
use Rattle.refusals.specs.declared.Refusal.TheVariants.{NoRoom, Foreign, Damaged, UnknownCommand, WrongLength, WrongField}
use Rattle.refusals.specs.declared.Refusal.TheVariants.{OutOfRange, OutOfOrder, FrameHeld, NoFrameHeld}
use Rattle.refusals.specs.declared.Refusal.TheVariants.{WrongCells, WrongCurrent, NoInternal, WrongPulses, NoBoard, WrongArea}
use Rattle.refusals.specs.declared.Refusal.TheVariants.{UsedAfterUnused, NeverRecorded, BadRecord, CutRecord, WrongSlice}
use Rattle.refusals.specs.declared.Refusal.TheVariants.{WrongStore, SpoiltStore, NoEdition, BrokenRules, EditionsUsedUp}
use Rattle.refusals.specs.declared.Refusal.TheVariants.{CutBill, PastTotal, WrongRecord}
use Rattle.std.specs.Prelude.{Some, None}
use Rattle.refusals.specs.Refusals.{refusal_number, left_by, number_of, first}

-- document 01's of a frame, and which of them a NACK answers
frames : List Refusal
frames = NoRoom ∷ Foreign ∷ Damaged ∷ UnknownCommand ∷ WrongLength ∷ WrongField ∷ OutOfRange 315 ∷ OutOfOrder ∷ []

frame_numbers : map refusal_number frames ≡ 1 ∷ 2 ∷ 3 ∷ 41 ∷ 42 ∷ 43 ∷ 44 ∷ 45 ∷ []
unfolding frames
frame_numbers = refl

frame_replies : map left_by frames ≡ None ∷ None ∷ Some 0x01 ∷ Some 0x00 ∷ Some 0x00 ∷ Some 0x00 ∷ Some 0x00 ∷ Some 0x00 ∷ []
unfolding frames
frame_replies = refl

-- of a tick and of a start; of the raw line; of an area; of a store; of a recording; of a cabinet's slice; of records of hires
others : List Refusal
others =
    WrongCells ∷ WrongCurrent ∷ NoInternal ∷ WrongPulses ∷ NoBoard ∷ FrameHeld ∷ NoFrameHeld ∷ WrongArea ∷ UsedAfterUnused ∷ NeverRecorded
    ∷ WrongStore ∷ SpoiltStore ∷ NoEdition ∷ BrokenRules ∷ EditionsUsedUp ∷ BadRecord ∷ CutRecord ∷ WrongSlice ∷ CutBill ∷ PastTotal
    ∷ WrongRecord ∷ []

other_numbers : map refusal_number others
    ≡ 11 ∷ 12 ∷ 13 ∷ 14 ∷ 21 ∷ 6 ∷ 7 ∷ 31 ∷ 32 ∷ 33 ∷ 51 ∷ 52 ∷ 53 ∷ 54 ∷ 55 ∷ 61 ∷ 62 ∷ 71 ∷ 81 ∷ 82 ∷ 83 ∷ []
unfolding others
other_numbers = refl

-- the first row that applies; 0 where none does
first_of_two :
    (number_of (first ((WrongCells, false) ∷ (WrongCurrent, true) ∷ (NoInternal, true) ∷ [])) ≡ 12)
    × (number_of (first ((WrongCells, false) ∷ (WrongCurrent, false) ∷ [])) ≡ 0)
unfolding first
first_of_two = (refl, refl)
