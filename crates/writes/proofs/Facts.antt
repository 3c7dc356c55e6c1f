-- The rules of W-202's writes, computed: which keep them, and how many registers they write; and a register that is written twice.
-- Assumes nothing.
use mathlib.Core.Path.{◌≡◌, refl}
use mathlib.Core.Bool.{Bool, true, false}
use mathlib.Core.List.{List, [], ◌∷◌, ◌++◌}
use Prim.Native.Nat.{ℕ, zero, suc}
use lib.ListN.{replicate}
use Rattle.refusals.specs.Refusals.{Outcome, Done, Refused, come_to, first}
use Rattle.refusals.specs.declared.Refusal.TheVariants.{OutOfRange, OutOfOrder}
use Rattle.settings.specs.Settings as settings
use Rattle.signed.specs.Signed.{bits_of, from_bits}
use Rattle.writes.specs.declared.Form.{Form}
use Rattle.writes.specs.declared.Form.TheVariants as form
use Rattle.writes.specs.Writes.{write_command, pair_at, pairs_of, count_of, well_counted, all_settings, keeps_rules, drafted_of, written_to}

-- those bytes, so many times
times : ℕ → List ℕ → List ℕ
times zero bytes = []
times (suc n) bytes = bytes ++ times n bytes

-- of a write with that PL and what follows it, up to the CRC: whether it keeps the rules, and how many registers it writes
kept : Form → ℕ → List ℕ → Bool × ℕ
kept f pl fields = let s : List ℕ = 0xAA ∷ write_command f ∷ pl ∷ fields in (keeps_rules f s (count_of f s), count_of f s)

-- writes by block give 1 to 100 registers, all in 300 to 399: none, 1, 100 and 101; 100 from 301 on; a PL that is odd
by_block :
    (kept form.Block 2 (0x2C ∷ 0x01 ∷ []) ≡ (false, 0)) × (kept form.Block 4 (0x2C ∷ 0x01 ∷ 0 ∷ 0 ∷ []) ≡ (true, 1))
    × (kept form.Block 202 (0x2C ∷ 0x01 ∷ replicate 200 0) ≡ (true, 100))
    × (kept form.Block 204 (0x2C ∷ 0x01 ∷ replicate 202 0) ≡ (false, 101))
    × (kept form.Block 202 (0x2D ∷ 0x01 ∷ replicate 200 0) ≡ (false, 100)) × (kept form.Block 5 (0x2C ∷ 0x01 ∷ 0 ∷ 0 ∷ 0 ∷ []) ≡ (false, 1))
unfolding kept write_command count_of well_counted pairs_of pair_at all_settings
by_block = (refl, refl, refl, refl, refl, refl)

-- by list 1 to 50 pairs: none, 1, 50 and 51; 299 and 400; a PL that is no multiple of four
by_list :
    (kept form.List 0 [] ≡ (false, 0)) × (kept form.List 4 (0x8F ∷ 0x01 ∷ 0 ∷ 0 ∷ []) ≡ (true, 1))
    × (kept form.List 200 (times 50 (0x2C ∷ 0x01 ∷ 0 ∷ 0 ∷ [])) ≡ (true, 50))
    × (kept form.List 204 (times 51 (0x2C ∷ 0x01 ∷ 0 ∷ 0 ∷ [])) ≡ (false, 51))
    × (kept form.List 4 (0x2B ∷ 0x01 ∷ 0 ∷ 0 ∷ []) ≡ (false, 1))
    × (kept form.List 8 (0x2C ∷ 0x01 ∷ 0 ∷ 0 ∷ 0x90 ∷ 0x01 ∷ 0 ∷ 0 ∷ []) ≡ (false, 2))
    × (kept form.List 6 (0x2C ∷ 0x01 ∷ 0 ∷ 0 ∷ 0x2C ∷ 0x01 ∷ []) ≡ (false, 1))
unfolding kept times write_command count_of well_counted pairs_of pair_at all_settings
by_list = (refl, refl, refl, refl, refl, refl, refl)

-- a repeated address takes the later value, and only the final values are judged. Two pairs to the factory settings: 315 to 3000 (against
-- the rule) and 4200; 302, which is unlisted, to 5 and 0; each the other way round; and 315 to 4100 and 4000
two_pairs : List ℕ → Outcome × ℕ
two_pairs fields =
    let w = written_to settings.factory (pairs_of form.List (0xAA ∷ 0x0D ∷ 8 ∷ fields) 2) in
    (come_to w, settings.register_of (settings.standing_of settings.factory w) 315)

repeated :
    (two_pairs (0x3B ∷ 0x01 ∷ 0xB8 ∷ 0x0B ∷ 0x3B ∷ 0x01 ∷ 0x68 ∷ 0x10 ∷ []) ≡ (Done, 4200))
    × (two_pairs (0x2E ∷ 0x01 ∷ 0x05 ∷ 0x00 ∷ 0x2E ∷ 0x01 ∷ 0x00 ∷ 0x00 ∷ []) ≡ (Done, 4200))
    × (two_pairs (0x3B ∷ 0x01 ∷ 0x68 ∷ 0x10 ∷ 0x3B ∷ 0x01 ∷ 0xB8 ∷ 0x0B ∷ []) ≡ (Refused OutOfOrder, 4200))
    × (two_pairs (0x2E ∷ 0x01 ∷ 0x00 ∷ 0x00 ∷ 0x2E ∷ 0x01 ∷ 0x05 ∷ 0x00 ∷ []) ≡ (Refused (OutOfRange 302), 4200))
    × (two_pairs (0x3B ∷ 0x01 ∷ 0x04 ∷ 0x10 ∷ 0x3B ∷ 0x01 ∷ 0xA0 ∷ 0x0F ∷ []) ≡ (Done, 4000))
unfolding two_pairs pairs_of pair_at drafted_of first bits_of from_bits settings.standing_of settings.put_of settings.judged_of settings.is_out
    settings.fits
    settings.registers settings.values_of settings.settings_of settings.ordered settings.register_of
repeated = (refl, refl, refl, refl, refl)
