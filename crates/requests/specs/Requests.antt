-- Requests. The command byte decides the length and the meaning; all lengths include AA and CRC. (The three writes: crate `writes`.)
-- Assumes nothing.
use Rattle.std.specs.Prelude.{Bool, true, false, ◌&&◌, ◌||◌, not, cond, List, [], ◌∷◌, ℕ, zero, suc, ◌+◌, ◌-◌, ◌*◌, ◌/◌, eqb, leb, ltb}
use Rattle.std.specs.Prelude.{length, take, get_or, Result, Ok, Err, Option, is_some, Some, None}
use Rattle.std.specs.Bool.{then_some}
use Rattle.std.specs.Option.{ok_or}
use Rattle.crc.specs.Crc.{crc_of}
use Rattle.refusals.specs.declared.Refusal.{Refusal}
use Rattle.refusals.specs.declared.Refusal.TheVariants.{Foreign, Damaged, UnknownCommand, WrongLength, WrongField}
use Rattle.refusals.specs.Refusals.{Outcome, first}
use Rattle.settings.specs.declared.Kind.{Kind}
use Rattle.settings.specs.declared.Kind.TheVariants.{Minimum, Maximum, Default, Current}
use Rattle.writes.specs.declared.Form.{Form}
use Rattle.writes.specs.declared.Form.TheVariants as form
use Rattle.numbers.specs.Numbers.{be16_at, le16_at}
use Rattle.writes.specs.Writes.{between, count_of, keeps_rules}
use Rattle.requests.specs.declared.Query.{Query}
use Rattle.requests.specs.declared.Query.TheVariants.{Registers, Listed, Bare, NewEvents, AllEvents, Temperatures, Cells, SettingsOf}
use Rattle.requests.specs.declared.Command.{Command}
use Rattle.requests.specs.declared.Command.TheVariants.{Clear, Block, QuickBlock, AskList, Write, Ask, AskSettings, Unknown}
use Rattle.requests.specs.declared.Expected.{Expected}
use Rattle.requests.specs.declared.Request.{Request}
use Rattle.requests.specs.declared.Request.TheVariants as request

abbrev pub expect : ℕ → Command → Expected
expect n c = record { length = n; command = c }

-- the length that the raw line takes for a command's request, and what it asks. PL is a plain count of the bytes between itself and the CRC:
-- the third byte of 0x09, 0x0B and 0x0D, 5+PL; the seventh of 0x10, 9+PL. 4 for an unknown command
unfoldable pub expected_of : ℕ → ℕ → ℕ → Expected
expected_of command third seventh =
    cond (eqb command 0x02) (expect 5 Clear)
    (cond (eqb command 0x03) (expect 8 Block)
    (cond (eqb command 0x07) (expect 7 QuickBlock)
    (cond (eqb command 0x09) (expect (5 + third) AskList)
    (cond (eqb command 0x0B) (expect (5 + third) (Write form.Block))
    (cond (eqb command 0x0D) (expect (5 + third) (Write form.List))
    (cond (eqb command 0x10) (expect (9 + seventh) (Write form.Modbus))
    (cond (eqb command 0x11) (expect 4 (Ask NewEvents))
    (cond (eqb command 0x12) (expect 4 (Ask AllEvents))
    (cond (eqb command 0x14) (expect 4 (Ask (Bare 0x14 36 2)))
    (cond (eqb command 0x15) (expect 4 (Ask (Bare 0x15 38 2)))
    (cond (eqb command 0x16) (expect 4 (Ask (Bare 0x16 41 1)))
    (cond (eqb command 0x17) (expect 4 (Ask (Bare 0x17 40 1)))
    (cond (eqb command 0x18) (expect 4 (Ask (Bare 0x18 50 1)))
    (cond (eqb command 0x19) (expect 4 (Ask (Bare 0x19 32 2)))
    (cond (eqb command 0x1B) (expect 4 (Ask Temperatures))
    (cond (eqb command 0x1C) (expect 4 (Ask Cells))
    (cond (eqb command 0x1D) (expect 7 AskSettings)
    (expect 4 Unknown))))))))))))))))))

-- the same of a request's bytes, and the length of the request that these bytes begin. A byte that has not come reads 0
abbrev pub expected_in : List ℕ → Expected
expected_in bytes = expected_of (get_or bytes 1 0) (get_or bytes 2 0) (get_or bytes 6 0)

unfoldable pub length_of : List ℕ → ℕ
length_of bytes = (expected_in bytes).length

-- ---- what its fields ask, where each keeps its rule

abbrev pub fields : Bool → Request → Option Request
fields good asks = then_some good asks

-- a register block must lie in one range: 0 to 55, 100 to 117, or 300 to 399
abbrev pub in_one_range : ℕ → ℕ → Bool
in_one_range at n = leb (at + n) 56 || leb 100 at && leb (at + n) 118 || leb 300 at && leb (at + n) 400

-- 0x02: option 01 clears events, 02 clears statistics; others are against its rule
abbrev pub cleared_by : ℕ → Request
cleared_by option = cond (eqb option 1) request.ClearEvents request.ClearStatistics

abbrev pub clear_fields : ℕ → Option Request
clear_fields option = fields (between 1 2 option) (cleared_by option)

-- 0x03: address high, low, 00, RL. 0x07: RL, address low, high. RL 1 to 127
abbrev pub block_fields : ℕ → ℕ → ℕ → ℕ → Option Request
block_fields command at padding rl = fields (eqb padding 0 && between 1 127 rl && in_one_range at rl) (request.Read (Registers command at rl))

-- 0x09: PL, addresses low, high. PL = 2n, n 1 to 63, each address in one of the ranges, which may mix
unfoldable pub address_at : List ℕ → ℕ → ℕ
address_at bytes i = le16_at bytes (3 + 2 * i)

unfoldable pub all_shown : List ℕ → ℕ → Bool
all_shown bytes zero = true
all_shown bytes (suc n) = all_shown bytes n && in_one_range (address_at bytes n) 1

abbrev pub list_fields : ℕ → List ℕ → Option Request
list_fields pl bytes = fields (eqb pl (2 * (pl / 2)) && between 1 63 (pl / 2) && all_shown bytes (pl / 2)) (request.Read (Listed (pl / 2)))

-- 0x10, 0x0B and 0x0D: so many registers
abbrev pub write_fields : Form → List ℕ → ℕ → Option Request
write_fields f bytes n = fields (keeps_rules f bytes n) (request.Write f n)

-- 0x1D: option 1 to 4 (minimum, maximum, default, current), 00, RL 1 to 100
unfoldable pub kind_of : ℕ → Kind
kind_of option = cond (eqb option 1) Minimum (cond (eqb option 2) Maximum (cond (eqb option 3) Default Current))

abbrev pub settings_fields : ℕ → ℕ → ℕ → Option Request
settings_fields option padding rl =
    fields (between 1 4 option && eqb padding 0 && between 1 100 rl) (request.Read (SettingsOf (kind_of option) rl))

unfoldable pub fields_of : Command → List ℕ → Option Request
fields_of Clear bytes = clear_fields (get_or bytes 2 0)
fields_of Block bytes = block_fields 0x03 (be16_at bytes 2) (get_or bytes 4 0) (get_or bytes 5 0)
fields_of QuickBlock bytes = block_fields 0x07 (le16_at bytes 3) 0 (get_or bytes 2 0)
fields_of AskList bytes = list_fields (get_or bytes 2 0) bytes
fields_of (Write f) bytes = write_fields f bytes (count_of f bytes)
fields_of (Ask q) bytes = Some (request.Read q)
fields_of AskSettings bytes = settings_fields (get_or bytes 2 0) (get_or bytes 3 0) (get_or bytes 4 0)
fields_of Unknown bytes = None

-- those of a whole request, by its own command
abbrev pub fields_in : List ℕ → Option Request
fields_in bytes = fields_of (expected_in bytes).command bytes

-- ---- when it is refused

-- under 4 bytes, or first byte not 0xAA
abbrev pub foreign : List ℕ → Bool
foreign s = ltb (length s) 4 || not (eqb (get_or s 0 0) 0xAA)

-- last two bytes are not the CRC of the rest
abbrev pub damaged : List ℕ → Bool
damaged s = not (eqb (crc_of (take (length s - 2) s)) (le16_at s (length s - 2)))

-- unknown command
abbrev pub is_unknown : Command → Bool
is_unknown Clear = false
is_unknown Block = false
is_unknown QuickBlock = false
is_unknown AskList = false
is_unknown (Write f) = false
is_unknown (Ask q) = false
is_unknown AskSettings = false
is_unknown Unknown = true

abbrev pub unknown_command : List ℕ → Bool
unknown_command s = is_unknown (expected_in s).command

-- wrong length: document 01's is 9+2·RL for 0x10, whatever its PL; of every other it is what the raw line takes
abbrev pub right_length : ℕ → ℕ → ℕ → ℕ
right_length command rl taken = cond (eqb command 0x10) (9 + 2 * rl) taken

abbrev pub wrong_length_by : ℕ → List ℕ → Bool
wrong_length_by taken s = not (eqb (length s) (right_length (get_or s 1 0) (get_or s 5 0) taken))

abbrev pub wrong_length : List ℕ → Bool
wrong_length s = wrong_length_by (expected_in s).length s

-- a field outside its rule: address, count, option or padding
abbrev pub wrong_field : List ℕ → Bool
wrong_field s = not (is_some (fields_in s))

-- the rows of a request, the lowest number first
abbrev pub request_rows : List ℕ → List (Refusal × Bool)
request_rows s =
    (Foreign, foreign s)
    ∷ (Damaged, damaged s)
    ∷ (UnknownCommand, unknown_command s)
    ∷ (WrongLength, wrong_length s)
    ∷ (WrongField, wrong_field s)
    ∷ []

-- ---- what it comes to: what its fields ask where no row applies, else the refusal that is first

abbrev pub Asked : Type 0
Asked = Result Request Refusal

abbrev pub asked_of : List ℕ → Asked
asked_of s = ok_or (fields_in s) WrongField

abbrev pub request_by : Outcome → Asked → Asked
request_by (Ok done) asked = asked
request_by (Err refusal) asked = Err refusal

unfoldable pub request_of : List ℕ → Asked
request_of s = request_by (first (request_rows s)) (asked_of s)

-- ---- what its reply is like

-- the command that a query answers to
unfoldable pub command_of : Query → ℕ
command_of (Registers command at n) = command
command_of (Listed n) = 0x09
command_of (Bare command at n) = command
command_of NewEvents = 0x11
command_of AllEvents = 0x12
command_of Temperatures = 0x1B
command_of Cells = 0x1C
command_of (SettingsOf kind n) = 0x1D

-- 0x14 to 0x19 have no PL
unfoldable pub has_length : Query → Bool
has_length (Registers command at n) = true
has_length (Listed n) = true
has_length (Bare command at n) = false
has_length NewEvents = true
has_length AllEvents = true
has_length Temperatures = true
has_length Cells = true
has_length (SettingsOf kind n) = true

-- except in 0x03 and 0x10, multi-byte data goes low byte first
unfoldable pub high_first : Query → Bool
high_first (Registers command at n) = eqb command 0x03
high_first (Listed n) = false
high_first (Bare command at n) = false
high_first NewEvents = false
high_first AllEvents = false
high_first Temperatures = false
high_first Cells = false
high_first (SettingsOf kind n) = false

-- 0x11 marks what it sends; 0x12 sends all kept and marks nothing
unfoldable pub marks : Query → Bool
marks (Registers command at n) = false
marks (Listed n) = false
marks (Bare command at n) = false
marks NewEvents = true
marks AllEvents = false
marks Temperatures = false
marks Cells = false
marks (SettingsOf kind n) = false

-- how many words of sixteen bits it has, where so many events are new, so many kept, and there are so many cells
unfoldable pub word_count : Query → ℕ → ℕ → ℕ → ℕ
word_count (Registers command at n) new kept cells = n
word_count (Listed n) new kept cells = 2 * n
word_count (Bare command at n) new kept cells = n
word_count NewEvents new kept cells = 2 + 2 * new
word_count AllEvents new kept cells = 2 + 2 * kept
word_count Temperatures new kept cells = 3
word_count Cells new kept cells = cells
word_count (SettingsOf kind n) new kept cells = n
