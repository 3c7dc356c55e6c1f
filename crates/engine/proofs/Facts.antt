-- W-204's story from the bytes of a recording, computed: external 2 is hot, is unplugged, is back at 58 °C, and cools. OT is latched until
-- then, and nothing else ever: four cells of the sixteen count. And a wait, to its last tick.
-- Assumes nothing.
use mathlib.Core.Path.{◌≡◌, refl}
use mathlib.Core.Bool.{true, false}
use mathlib.Core.List.{List, [], ◌∷◌, ◌++◌}
use Prim.Native.Nat.{ℕ, zero, suc, ◌/◌, ◌%◌}
use lib.ListN.{length, replicate}
use Rattle.signed.specs.Signed.{from_bits, from_bits32}
use Rattle.settings.specs.Settings.{factory}
use Rattle.guard.specs.declared.Conditions.{Conditions}
use Rattle.guard.specs.Guard.{holds_of, no_conditions}
use Rattle.guard.specs.Account.{latched_from}
use Rattle.record.specs.Record.{record_of, readings_of, cells_of}
use Rattle.engine.specs.Engine.{moment_at, moments_of}

word : ℕ → List ℕ
word n = n % 256 ∷ n / 256 ∷ []

-- four cells at 3.6 V; a current as two words; internal at 25 °C, external 1 at 20 °C, and external 2
tick : ℕ → ℕ → ℕ → List ℕ
tick low high external2 =
    word 36000 ++ word 36000 ++ word 36000 ++ word 36000 ++ replicate 24 0 ++ word low ++ word high ++ word 250 ++ word 200
    ++ word external2 ++ replicate 6 0

hot_unplugged_back_cool : List ℕ
hot_unplugged_back_cool = tick 0 0 650 ++ tick 0 0 0x8000 ++ tick 0 0 580 ++ tick 0 0 400

latched_after : ℕ → Conditions
latched_after n = latched_from (moments_of factory 4 hot_unplugged_back_cool n)

OT : Conditions
OT = record { uv = false; ov = false; ot = true; doc = false; coc = false; roc = false; lt = false }

unplugged : (length hot_unplugged_back_cool ≡ 192) × (latched_after 0 ≡ no_conditions) × (latched_after 1 ≡ OT) × (latched_after 2 ≡ OT)
    × (latched_after 3 ≡ OT) × (latched_after 4 ≡ no_conditions)
unfolding word tick hot_unplugged_back_cool latched_after OT latched_from moment_at holds_of record_of readings_of cells_of from_bits from_bits32
unplugged = (refl, refl, refl, refl, refl, refl)

-- DOC holds at -60 A and waits 5 s: it is latched with 49 ticks after it, and not with 50
at_rest : ℕ → List ℕ
at_rest zero = []
at_rest (suc n) = tick 0 0 200 ++ at_rest n

drawn : List ℕ
drawn = tick 0x15A0 0xFFFF 200 ++ at_rest 50

waited : ((latched_from (moments_of factory 4 drawn 50)).doc ≡ true) × ((latched_from (moments_of factory 4 drawn 51)).doc ≡ false)
unfolding word tick at_rest drawn latched_from moment_at holds_of record_of readings_of cells_of from_bits from_bits32
waited = (refl, refl)
