-- The ranges and factory values that document 01 lists, the ordering rule, and P12, computed.
-- Assumes nothing.
use mathlib.Core.Path.{◌≡◌, refl}
use mathlib.Core.Bool.{true}
use mathlib.Core.List.{List, [], ◌∷◌, map}
use Prim.Native.Nat.{ℕ}
use Rattle.refusals.specs.declared.Refusal.TheVariants.{OutOfRange, OutOfOrder}
use Rattle.refusals.specs.Refusals.{Outcome, Done, Refused, first}
use Rattle.signed.specs.Signed.{bits_of, from_bits}
use Rattle.settings.specs.declared.Settings.{Settings}
use Rattle.settings.specs.declared.Draft.{Draft}
use Rattle.settings.specs.Settings.{factory, minimum, maximum, register_of, registers, values_of, settings_of, fits, is_out, in_range}
use Rattle.settings.specs.Settings.{ordered, judged_of, draft_of, put_of, outcome_of, standing_of, written_of}

-- the registers of the list, in its order
numbers : List ℕ
numbers = 301 ∷ 303 ∷ 308 ∷ 315 ∷ 316 ∷ 317 ∷ 318 ∷ 319 ∷ 320 ∷ 332 ∷ 334 ∷ 335 ∷ []

shown : Settings → List ℕ
shown s = map (register_of s) numbers

-- range and factory value of each; -40 is 65,496 as sixteen bits
least : shown minimum ≡ 1000 ∷ 1000 ∷ 15 ∷ 1200 ∷ 800 ∷ 1 ∷ 1 ∷ 20 ∷ 65496 ∷ 1 ∷ 0 ∷ 1 ∷ []
unfolding shown numbers register_of bits_of
least = refl

greatest : shown maximum ≡ 3500 ∷ 4500 ∷ 100 ∷ 4500 ∷ 3500 ∷ 750 ∷ 750 ∷ 90 ∷ 10 ∷ 30 ∷ 6 ∷ 7 ∷ []
unfolding shown numbers register_of bits_of
greatest = refl

at_the_factory : shown factory ≡ 3000 ∷ 4000 ∷ 15 ∷ 4200 ∷ 2900 ∷ 60 ∷ 30 ∷ 60 ∷ 0 ∷ 5 ∷ 0 ∷ 1 ∷ []
unfolding shown numbers register_of bits_of
at_the_factory = refl

-- the factory settings are in range and in order
factory_fits : (in_range factory ≡ true) × (judged_of (values_of factory) ≡ Done)
unfolding judged_of first in_range is_out fits registers values_of register_of settings_of ordered bits_of from_bits
factory_fits = (refl, refl)

-- what a write to the factory settings comes to: one register, or two, one after the other
one : ℕ → ℕ → Outcome
one at value = outcome_of (put_of (draft_of factory) at value)

two : ℕ → ℕ → ℕ → ℕ → Draft
two at value then other = put_of (put_of (draft_of factory) at value) then other

-- P12: factory settings, write 315: 3000 refused, 3001 taken
P12 : (one 315 3000 ≡ Refused OutOfOrder) × (one 315 3001 ≡ Done)
unfolding one judged_of first is_out fits registers values_of register_of settings_of put_of ordered bits_of from_bits
P12 = (refl, refl)

-- 320 takes 65,535 as -1; an unlisted register takes 0 alone
signed_320 : (one 320 65535 ≡ Done) × (one 320 65495 ≡ Refused (OutOfRange 320))
unfolding one judged_of first is_out fits registers values_of register_of settings_of put_of ordered bits_of from_bits
signed_320 = (refl, refl)

unlisted : (one 302 0 ≡ Done) × (one 302 1 ≡ Refused (OutOfRange 302))
unfolding one judged_of first is_out fits registers values_of register_of settings_of put_of ordered bits_of from_bits
unlisted = (refl, refl)

-- W-202: a repeated address takes the later value, and only the final values are judged: 315 and 302 pass through a value that is against
-- their rule, or end on one
passing : (outcome_of (two 315 3000 315 4200) ≡ Done) × (outcome_of (two 302 5 302 0) ≡ Done)
unfolding two judged_of first is_out fits registers values_of register_of settings_of put_of ordered bits_of from_bits
passing = (refl, refl)

ending : (outcome_of (two 315 4200 315 3000) ≡ Refused OutOfOrder) × (outcome_of (two 302 0 302 5) ≡ Refused (OutOfRange 302))
unfolding two judged_of first is_out fits registers values_of register_of settings_of put_of ordered bits_of from_bits
ending = (refl, refl)

-- 302 is put right and 304 is not
one_of_two : outcome_of (put_of (two 304 5 302 5) 302 0) ≡ Refused (OutOfRange 304)
unfolding two judged_of first is_out fits registers values_of register_of settings_of put_of ordered bits_of from_bits
one_of_two = refl

-- the lowest register out of its range is told, in whichever order they come, and before the ordering rule
lowest_told : (outcome_of (two 335 8 302 5) ≡ Refused (OutOfRange 302)) × (outcome_of (two 302 5 335 8) ≡ Refused (OutOfRange 302))
    × (outcome_of (two 335 8 315 3000) ≡ Refused (OutOfRange 335))
unfolding two judged_of first is_out fits registers values_of register_of settings_of put_of ordered bits_of from_bits
lowest_told = (refl, refl, refl)

later_value : register_of (standing_of factory (written_of (two 315 4100 315 4000))) 315 ≡ 4000
unfolding two judged_of first is_out fits registers values_of register_of settings_of put_of standing_of ordered bits_of from_bits
later_value = refl

-- the places of the first and the last register, and none beyond them
at_the_ends : (one 300 1 ≡ Refused (OutOfRange 300)) × (one 399 1 ≡ Refused (OutOfRange 399)) × (one 299 1 ≡ Done) × (one 400 1 ≡ Done)
unfolding one judged_of first is_out fits registers values_of register_of settings_of put_of ordered bits_of from_bits
at_the_ends = (refl, refl, refl, refl)
