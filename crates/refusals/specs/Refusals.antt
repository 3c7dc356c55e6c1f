-- Numbers the caller gets. A call has rows, each a refusal and whether it applies; the first that applies is given, and where none does the
-- call is done.
-- Assumes nothing.
use Rattle.std.specs.Prelude.{Bool, true, false, cond, List, [], ◌∷◌, ℕ, ⊤, is_ok, Result, Ok, Err, Option, Some, None}
use Rattle.refusals.specs.declared.Refusal.{Refusal}
use Rattle.refusals.specs.declared.Refusal.TheVariants.{NoRoom, Foreign, Damaged, UnknownCommand, WrongLength, WrongField}
use Rattle.refusals.specs.declared.Refusal.TheVariants.{OutOfRange, OutOfOrder, FrameHeld, NoFrameHeld}
use Rattle.refusals.specs.declared.Refusal.TheVariants.{WrongCells, WrongCurrent, NoInternal, WrongPulses, NoBoard, WrongArea}
use Rattle.refusals.specs.declared.Refusal.TheVariants.{UsedAfterUnused, NeverRecorded, BadRecord, CutRecord, WrongSlice}
use Rattle.refusals.specs.declared.Refusal.TheVariants.{WrongStore, SpoiltStore, NoEdition, BrokenRules, EditionsUsedUp}
use Rattle.refusals.specs.declared.Refusal.TheVariants.{CutBill, PastTotal, WrongRecord}

-- document 01: frames, ticks, a start; and W-201, W-205, W-208 (41 to 45 in the place of 4), W-210, W-211, W-213 and W-214 of document 02.
-- There is no number 5 since W-209
abbrev pub refusal_number : Refusal → ℕ
refusal_number NoRoom = 1
refusal_number Foreign = 2
refusal_number Damaged = 3
refusal_number UnknownCommand = 41
refusal_number WrongLength = 42
refusal_number WrongField = 43
refusal_number (OutOfRange register) = 44
refusal_number OutOfOrder = 45
refusal_number FrameHeld = 6
refusal_number NoFrameHeld = 7
refusal_number WrongCells = 11
refusal_number WrongCurrent = 12
refusal_number NoInternal = 13
refusal_number WrongPulses = 14
refusal_number NoBoard = 21
refusal_number WrongArea = 31
refusal_number UsedAfterUnused = 32
refusal_number NeverRecorded = 33
refusal_number WrongStore = 51
refusal_number SpoiltStore = 52
refusal_number NoEdition = 53
refusal_number BrokenRules = 54
refusal_number EditionsUsedUp = 55
refusal_number BadRecord = 61
refusal_number CutRecord = 62
refusal_number WrongSlice = 71
refusal_number CutBill = 81
refusal_number PastTotal = 82
refusal_number WrongRecord = 83

-- 44, a setting outside its range, with its register number; of every other 0
abbrev pub refusal_register : Refusal → ℕ
refusal_register NoRoom = 0
refusal_register Foreign = 0
refusal_register Damaged = 0
refusal_register UnknownCommand = 0
refusal_register WrongLength = 0
refusal_register WrongField = 0
refusal_register (OutOfRange register) = register
refusal_register OutOfOrder = 0
refusal_register FrameHeld = 0
refusal_register NoFrameHeld = 0
refusal_register WrongCells = 0
refusal_register WrongCurrent = 0
refusal_register NoInternal = 0
refusal_register WrongPulses = 0
refusal_register NoBoard = 0
refusal_register WrongArea = 0
refusal_register UsedAfterUnused = 0
refusal_register NeverRecorded = 0
refusal_register WrongStore = 0
refusal_register SpoiltStore = 0
refusal_register NoEdition = 0
refusal_register BrokenRules = 0
refusal_register EditionsUsedUp = 0
refusal_register BadRecord = 0
refusal_register CutRecord = 0
refusal_register WrongSlice = 0
refusal_register CutBill = 0
refusal_register PastTotal = 0
refusal_register WrongRecord = 0

-- what a refusal leaves in a lent reply buffer: a NACK, error 0x01 or 0x00, or zeros alone
abbrev pub left_by : Refusal → Option ℕ
left_by NoRoom = None
left_by Foreign = None
left_by Damaged = Some 0x01
left_by UnknownCommand = Some 0x00
left_by WrongLength = Some 0x00
left_by WrongField = Some 0x00
left_by (OutOfRange register) = Some 0x00
left_by OutOfOrder = Some 0x00
left_by FrameHeld = None
left_by NoFrameHeld = None
left_by WrongCells = None
left_by WrongCurrent = None
left_by NoInternal = None
left_by WrongPulses = None
left_by NoBoard = None
left_by WrongArea = None
left_by UsedAfterUnused = None
left_by NeverRecorded = None
left_by WrongStore = None
left_by SpoiltStore = None
left_by NoEdition = None
left_by BrokenRules = None
left_by EditionsUsedUp = None
left_by BadRecord = None
left_by CutRecord = None
left_by WrongSlice = None
left_by CutBill = None
left_by PastTotal = None
left_by WrongRecord = None

-- what a call comes to
abbrev pub Outcome : Type 0
Outcome = Result ⊤ Refusal

abbrev pub Done : Outcome
Done = Ok tt

abbrev pub Refused : Refusal → Outcome
Refused = Err

-- 0, done
abbrev pub number_of : Outcome → ℕ
number_of (Ok done) = 0
number_of (Err refusal) = refusal_number refusal

abbrev pub register_of : Outcome → ℕ
register_of (Ok done) = 0
register_of (Err refusal) = refusal_register refusal

abbrev pub is_done : Outcome → Bool
is_done = is_ok

-- a call that gives a value where it is done, and else the refusal
abbrev pub giving : {A : Type 0} → Outcome → A → Result A Refusal
giving (Ok done) a = Ok a
giving (Err refusal) a = Err refusal

-- what that comes to
abbrev pub come_to : {A : Type 0} → Result A Refusal → Outcome
come_to (Ok a) = Done
come_to (Err refusal) = Refused refusal

-- rows stand from the lowest number on, so the first that applies is the lowest
unfoldable pub first : List (Refusal × Bool) → Outcome
first [] = Done
first ((refusal, applies) ∷ rest) = cond applies (Refused refusal) (first rest)
