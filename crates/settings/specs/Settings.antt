-- The twelve settings, their ranges, and a write that is taken whole or not at all.
-- Assumes nothing.
use Rattle.std.specs.Prelude.{◌≡◌, Bool, ◌&&◌, not, cond, List, [], ◌∷◌, map, ℕ, zero, suc, ◌-◌, eqb, leb, ltb, ℤ, pos, negsuc, get_or, set}
use Rattle.std.specs.Prelude.{Result, Ok, Err}
use Rattle.std.specs.Int.Signed.{le_z}
use Rattle.laws.specs.History.{any}
use Rattle.refusals.specs.declared.Refusal.{Refusal}
use Rattle.refusals.specs.declared.Refusal.TheVariants.{OutOfRange, OutOfOrder}
use Rattle.refusals.specs.Refusals.{Outcome, giving, first}
use Rattle.signed.specs.Signed.{bits_of, from_bits}
use Rattle.settings.specs.declared.Settings.{Settings}
use Rattle.settings.specs.declared.Kind.{Kind}
use Rattle.settings.specs.declared.Kind.TheVariants.{Minimum, Maximum, Default, Current}
use Rattle.settings.specs.declared.Draft.{Draft}

-- the factory, least and greatest settings
abbrev pub factory : Settings
factory =
    record {
      r301 = 3000;
      r303 = 4000;
      r308 = 15;
      r315 = 4200;
      r316 = 2900;
      r317 = 60;
      r318 = 30;
      r319 = 60;
      r320 = pos 0;
      r332 = 5;
      r334 = 0;
      r335 = 1;
    }

abbrev pub minimum : Settings
minimum =
    record {
      r301 = 1000;
      r303 = 1000;
      r308 = 15;
      r315 = 1200;
      r316 = 800;
      r317 = 1;
      r318 = 1;
      r319 = 20;
      r320 = negsuc 39;
      r332 = 1;
      r334 = 0;
      r335 = 1;
    }

abbrev pub maximum : Settings
maximum =
    record {
      r301 = 3500;
      r303 = 4500;
      r308 = 100;
      r315 = 4500;
      r316 = 3500;
      r317 = 750;
      r318 = 750;
      r319 = 90;
      r320 = pos 10;
      r332 = 30;
      r334 = 6;
      r335 = 7;
    }

-- minimum, maximum, default, current: the settings of a kind, on a board whose own are s
unfoldable pub of_kind : Settings → Kind → Settings
of_kind s Minimum = minimum
of_kind s Maximum = maximum
of_kind s Default = factory
of_kind s Current = s

-- a register's value by its number; an unlisted register reads 0
unfoldable pub register_of : Settings → ℕ → ℕ
register_of s at =
    cond (eqb at 301) s.r301
    (cond (eqb at 303) s.r303
    (cond (eqb at 308) s.r308
    (cond (eqb at 315) s.r315
    (cond (eqb at 316) s.r316
    (cond (eqb at 317) s.r317
    (cond (eqb at 318) s.r318
    (cond (eqb at 319) s.r319
    (cond (eqb at 320) (bits_of s.r320)
    (cond (eqb at 332) s.r332
    (cond (eqb at 334) s.r334
    (cond (eqb at 335) s.r335
    0)))))))))))

-- registers 300 to 399, from the lowest on
abbrev pub up_from : ℕ → ℕ → List ℕ
up_from at zero = []
up_from at (suc n) = at ∷ up_from (suc at) n

unfoldable pub registers : List ℕ
registers = up_from 300 100

-- their values, and that of one of them
unfoldable pub values_of : Settings → List ℕ
values_of s = map (register_of s) registers

abbrev pub value_in : List ℕ → ℕ → ℕ
value_in values at = get_or values (at - 300) 0

-- the settings that those values are
unfoldable pub settings_of : List ℕ → Settings
settings_of values =
    record {
      r301 = value_in values 301;
      r303 = value_in values 303;
      r308 = value_in values 308;
      r315 = value_in values 315;
      r316 = value_in values 316;
      r317 = value_in values 317;
      r318 = value_in values 318;
      r319 = value_in values 319;
      r320 = from_bits (value_in values 320);
      r332 = value_in values 332;
      r334 = value_in values 334;
      r335 = value_in values 335;
    }

-- the number that a register's sixteen bits mean: 320 is signed
abbrev pub meant_by : ℕ → ℕ → ℤ
meant_by at bits = cond (eqb at 320) (from_bits bits) (pos bits)

-- a value is in the range of a register, from the least to the greatest; an unlisted register has range 0 to 0, as both read there
unfoldable pub fits : ℕ → ℕ → Bool
fits at value =
    le_z (meant_by at (register_of minimum at)) (meant_by at value) && le_z (meant_by at value) (meant_by at (register_of maximum at))

-- a register's value is outside its range; the lowest of such registers
unfoldable pub is_out : List ℕ → ℕ → Bool
is_out values at = not (fits at (value_in values at))

abbrev pub lowest : (ℕ → Bool) → List ℕ → ℕ
lowest applies [] = 0
lowest applies (at ∷ ats) = cond (applies at) at (lowest applies ats)

-- each setting is in its range
unfoldable pub in_range : Settings → Bool
in_range s = not (any (is_out (values_of s)) registers)

-- 316 ≤ 301 < 315
unfoldable pub ordered : Settings → Bool
ordered s = leb s.r316 s.r301 && ltb s.r301 s.r315

-- a setting against its rule: outside its range, the lowest such register; or the ordering rule
abbrev pub write_rows : List ℕ → List (Refusal × Bool)
write_rows values =
    (OutOfRange (lowest (is_out values) registers), any (is_out values) registers)
    ∷ (OutOfOrder, not (ordered (settings_of values)))
    ∷ []

-- what those values are judged to be, all at once
unfoldable pub judged_of : List ℕ → Outcome
judged_of values = first (write_rows values)

-- a write under way on the settings s: nothing is written yet
abbrev pub draft_of : Settings → Draft
draft_of s = record { values = values_of s }

-- one register of it: a repeated address takes the later value. A register outside 300 to 399 is no setting
abbrev pub put_in : List ℕ → ℕ → ℕ → List ℕ
put_in values at value = cond (leb 300 at && leb at 399) (set values (at - 300) value) values

unfoldable pub put_of : Draft → ℕ → ℕ → Draft
put_of d at value = record { values = put_in d.values at value }

-- `after` is `before` with one register put
pub record Put (before : List ℕ) (at value : ℕ) (after : List ℕ) : Type 0 where
  pub put : after ≡ put_in before at value

-- what it is judged to be, by its final values alone, and the settings that it would leave
abbrev pub outcome_of : Draft → Outcome
outcome_of d = judged_of d.values

abbrev pub settings_in : Draft → Settings
settings_in d = settings_of d.values

-- a write is taken whole or not at all
abbrev pub written_of : Draft → Result Settings Refusal
written_of d = giving (outcome_of d) (settings_in d)

-- the settings that then stand, where these stood
unfoldable pub standing_of : Settings → Result Settings Refusal → Settings
standing_of standing (Ok written) = written
standing_of standing (Err refusal) = standing
