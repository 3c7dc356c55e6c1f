-- Says nothing: the calls that wrong boards and needed hypotheses are put to, and what is looked at in their answers.
-- Assumes nothing.
use Rattle.std.specs.Prelude.{Option}
use mathlib.Core.Bool.{Bool, false}
use mathlib.Core.List.{List, [], ◌∷◌}
use Prim.Native.Nat.{ℕ}
use lib.IntN.{ℤ, pos, negsuc}
use lib.ListN.{get_or, replicate}
use Rattle.refusals.specs.Refusals.{Outcome, Done}
use Rattle.readings.specs.declared.Readings.{Readings}
use Rattle.answers.specs.Registers.{shown_at}
use Rattle.board.specs.declared.Board.{Board}
use Rattle.board.specs.Calls.{Call, Seen, tick, frame, handover}

-- ---- ticks

-- with that current, internal and external temperatures, those pulses and a charger or none
abbrev pub reading_of : ℤ → ℤ → ℤ → ℤ → ℕ → Bool → Readings
reading_of current internal external1 external2 pulses charger =
    record {
      current = current;
      internal = internal;
      external1 = external1;
      external2 = external2;
      pulses = pulses;
      charger = charger;
      ignition = false;
    }

-- four level cells
abbrev pub level : Readings → Call
level r = tick (replicate 4 37000) r

-- at 20 °C, with that current, those pulses and a charger or none
abbrev pub flow : ℤ → ℕ → Bool → Call
flow current pulses charger = level (reading_of current (pos 200) (pos 200) (pos 200) pulses charger)

abbrev pub still : Call
still = flow (pos 0) 0 false

-- DOC holds
abbrev pub drawn : Call
drawn = flow (negsuc 59999) 0 false

-- no current, with those temperatures; a sensor that is not connected
abbrev pub warmed : ℤ → ℤ → ℤ → Call
warmed internal external1 external2 = level (reading_of (pos 0) internal external1 external2 0 false)

abbrev pub unplugged : ℤ
unplugged = negsuc 32767

-- ---- a handover, with pack number 0

abbrev pub handing : Call
handing = handover 0 32

-- ---- frames

abbrev pub status : Call
status = frame (0xAA ∷ 0x18 ∷ 0x7F ∷ 0x1A ∷ []) 259

abbrev pub events : Call
events = frame (0xAA ∷ 0x12 ∷ 0xFF ∷ 0x1D ∷ []) 259

abbrev pub lifetime : Call
lifetime = frame (0xAA ∷ 0x19 ∷ 0xBE ∷ 0xDA ∷ []) 259

-- register 105, UV latchings
abbrev pub latchings : Call
latchings = frame (0xAA ∷ 0x03 ∷ 0x00 ∷ 0x69 ∷ 0x00 ∷ 0x01 ∷ 0x4D ∷ 0xCD ∷ []) 259

-- 332, the wait, written to 30 s: 300 ticks
abbrev pub longest_wait : Call
longest_wait = frame (0xAA ∷ 0x10 ∷ 0x01 ∷ 0x4C ∷ 0x00 ∷ 0x01 ∷ 0x02 ∷ 0x00 ∷ 0x1E ∷ 0xB3 ∷ 0xA3 ∷ []) 259

-- 316 written to 800
abbrev pub write_800 : List ℕ
write_800 = 0xAA ∷ 0x10 ∷ 0x01 ∷ 0x3C ∷ 0x00 ∷ 0x01 ∷ 0x02 ∷ 0x03 ∷ 0x20 ∷ 0x39 ∷ 0xB3 ∷ []

abbrev pub to_800 : Call
to_800 = frame write_800 259

-- 316 read by 0x03
abbrev pub ask_316 : List ℕ
ask_316 = 0xAA ∷ 0x03 ∷ 0x01 ∷ 0x3C ∷ 0x00 ∷ 0x01 ∷ 0x5C ∷ 0x21 ∷ []

abbrev pub read_316 : Call
read_316 = frame ask_316 259

-- ---- what is seen

-- of a board that shows no switch and no bit
abbrev pub says : Outcome → List ℕ → Seen
says outcome buffer =
    record { outcome = outcome; buffer = buffer; carried = 0; charge = false; discharge = false; decision = 0; balancing = 0 }

-- the n-th answer, what it came to, and a byte of its reply
abbrev pub answer_at : ℕ → List Seen → Seen
answer_at n answers = get_or answers n (says Done [])

abbrev pub outcome_at : ℕ → List Seen → Outcome
outcome_at n answers = (answer_at n answers).outcome

abbrev pub byte_at : ℕ → ℕ → List Seen → ℕ
byte_at n i answers = get_or (answer_at n answers).buffer i 0

-- a register of a board
abbrev pub shown_by : Board → ℕ → Option ℕ
shown_by b at = shown_at b.pack b.hire at
