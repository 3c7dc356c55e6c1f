-- The three writes, 0x10, 0x0B and 0x0D: which registers they write, their rules, and what they make of the settings.
-- Assumes nothing.
use Rattle.std.specs.Prelude.{Bool, true, ◌&&◌, List, [], ◌∷◌, map, ℕ, zero, suc, ◌+◌, ◌-◌, ◌*◌, ◌/◌, eqb, leb, get_or, Result}
use Rattle.laws.specs.History.{head_or, newest}
use Rattle.settings.specs.declared.Draft.{Draft}
use Rattle.settings.specs.declared.Settings.{Settings}
use Rattle.refusals.specs.declared.Refusal.{Refusal}
use Rattle.settings.specs.Settings as settings
use Rattle.writes.specs.declared.Form.{Form}
use Rattle.writes.specs.declared.Form.TheVariants as form
use Rattle.writes.specs.declared.Pair.{Pair}
use Rattle.numbers.specs.Numbers.{be16_at, le16_at}

-- from least to most
abbrev pub between : ℕ → ℕ → ℕ → Bool
between least most n = leb least n && leb n most

-- the command of each
unfoldable pub write_command : Form → ℕ
write_command form.Modbus = 0x10
write_command form.Block = 0x0B
write_command form.List = 0x0D

-- 0x10: address high, low, 00, RL, PL, registers high byte first; 0x0B: PL, address low, high, registers low byte first; 0x0D: PL, pairs of
-- an address and its value, low byte first. The i-th register that is written, and its value
unfoldable pub pair_at : Form → List ℕ → ℕ → Pair
pair_at form.Modbus bytes i = record { at = be16_at bytes 2 + i; value = be16_at bytes (7 + 2 * i) }
pair_at form.Block bytes i = record { at = le16_at bytes 3 + i; value = le16_at bytes (5 + 2 * i) }
pair_at form.List bytes i = record { at = le16_at bytes (3 + 4 * i); value = le16_at bytes (5 + 4 * i) }

-- the first n of them, the last first
unfoldable pub pairs_of : Form → List ℕ → ℕ → List Pair
pairs_of f bytes zero = []
pairs_of f bytes (suc n) = pair_at f bytes n ∷ pairs_of f bytes n

-- how many registers: RL; PL = 2 + 2n; PL = 4n
unfoldable pub count_of : Form → List ℕ → ℕ
count_of form.Modbus bytes = get_or bytes 5 0
count_of form.Block bytes = get_or bytes 2 0 / 2 - 1
count_of form.List bytes = get_or bytes 2 0 / 4

-- RL 1 to 100 and PL = 2·RL; n 1 to 100; n 1 to 50
unfoldable pub well_counted : Form → List ℕ → ℕ → Bool
well_counted form.Modbus bytes n = eqb (get_or bytes 4 0) 0 && between 1 100 n && eqb (get_or bytes 6 0) (2 * n)
well_counted form.Block bytes n = between 1 100 n && eqb (get_or bytes 2 0) (2 + 2 * n)
well_counted form.List bytes n = between 1 50 n && eqb (get_or bytes 2 0) (4 * n)

-- addresses all in 300 to 399
unfoldable pub all_settings : List Pair → Bool
all_settings [] = true
all_settings (p ∷ ps) = all_settings ps && between 300 399 p.at

-- the rules of its fields
abbrev pub keeps_rules : Form → List ℕ → ℕ → Bool
keeps_rules f bytes n = well_counted f bytes n && all_settings (pairs_of f bytes n)

-- its registers put into a draft in order: a repeated address takes the later value
unfoldable pub drafted_of : Draft → List Pair → Draft
drafted_of d [] = d
drafted_of d (p ∷ ps) = settings.put_of (drafted_of d ps) p.at p.value

-- judged whole: the settings that it leaves, or why it is refused
abbrev pub written_to : Settings → List Pair → Result Settings Refusal
written_to st ps = settings.written_of (drafted_of (settings.draft_of st) ps)

-- what the last of these pairs that names a register gives it; a repeated address takes the later value
abbrev pub names : ℕ → Pair → Bool
names register p = eqb p.at register

abbrev pub last_of : {A : Type 0} → A → ℕ → (ℕ → A) → List Pair → A
last_of factory register value ps = head_or factory (map (λ p. value p.value) (newest (names register) ps))
