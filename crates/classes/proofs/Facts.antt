-- Each row where just it applies and where two do, and the sentences of W-210, on stores that are written out: computed.
-- Assumes nothing.
use mathlib.Core.Path.{◌≡◌, refl}
use mathlib.Core.Bool.{true, false}
use mathlib.Core.List.{List, [], ◌∷◌, ◌++◌, map}
use Prim.Native.Nat.{ℕ}
use lib.ListN.{set, replicate}
use lib.Seq.{sets}
use Rattle.refusals.specs.Refusals.{Outcome, Done, Refused, first}
use Rattle.std.specs.Prelude.{Ok, Err}
use Rattle.refusals.specs.declared.Refusal.TheVariants.{WrongStore, SpoiltStore, NoEdition, BrokenRules, EditionsUsedUp}
use Rattle.signed.specs.Signed.{bits_of, from_bits}
use Rattle.settings.specs.Settings.{factory, minimum, maximum, register_of, registers, values_of, settings_of, fits, is_out, ordered}
use Rattle.settings.specs.Settings.{judged_of, put_of, standing_of}
use Rattle.writes.specs.Writes.{drafted_of}
use Rattle.editions.specs.Editions.{edition_of, spoilt, repeated, place_for, put_in, tidied_by}
use Rattle.classes.specs.Store.{record_of, records_in, store_of, editions_in, store_rows, keep_rows, kept_of, kept_store, kept_by, pairs_in}
use Rattle.classes.specs.Store.{pairs_for, not_found, breaks_rules, recall_rows, recall_of, tidied_store}

-- a store of unused records: all zeros; the same with these bytes from a place on
empty : List ℕ
empty = replicate 512 0

with : ℕ → List ℕ → List ℕ
with at bytes = sets empty at bytes

-- ---- each row

-- 51: of no byte, one too few, one too many
wrong_store : (first (store_rows []) ≡ Refused WrongStore) × (first (store_rows (replicate 511 0)) ≡ Refused WrongStore)
    × (first (store_rows (replicate 513 0)) ≡ Refused WrongStore) × (first (store_rows empty) ≡ Done)
unfolding store_rows first records_in edition_of repeated spoilt empty
wrong_store = (refl, refl, refl, refl)

-- 52: nonzero padding, of the first record and of the last; edition 0 with a nonzero byte after it, the first and the last; two equal
-- nonzero editions, first and last
spoilt_store : (first (store_rows (set (with 0 (1 ∷ [])) 28 1)) ≡ Refused SpoiltStore)
    × (first (store_rows (set (with 480 (1 ∷ [])) 511 1)) ≡ Refused SpoiltStore) × (first (store_rows (set (with 480 (1 ∷ [])) 507 1)) ≡ Done)
    × (first (store_rows (with 4 (1 ∷ []))) ≡ Refused SpoiltStore) × (first (store_rows (with 511 (1 ∷ []))) ≡ Refused SpoiltStore)
    × (first (store_rows (set (with 0 (7 ∷ [])) 480 7)) ≡ Refused SpoiltStore) × (first (store_rows (set (with 0 (7 ∷ [])) 481 7)) ≡ Done)
unfolding store_rows first records_in edition_of repeated spoilt empty with
spoilt_store = (refl, refl, refl, refl, refl, refl, refl)

-- 55: the last edition in a store with unused records; one below it is followed by the last
used_up_lem : (first (keep_rows (with 32 (255 ∷ 255 ∷ 255 ∷ 255 ∷ []))) ≡ Refused EditionsUsedUp)
    × (kept_by (with 32 (254 ∷ 255 ∷ 255 ∷ 255 ∷ [])) ≡ Ok 4294967295)
unfolding store_rows first records_in edition_of repeated spoilt empty with
used_up_lem = (refl, refl)

-- the least settings kept in an empty store
kept : List ℕ
kept = kept_store empty minimum

recall : List ℕ → ℕ → Outcome
recall store edition = first (recall_rows factory store edition)

-- 53: an edition that is not found, and 0. Such a one has no settings, so 54 applies too and comes after it
no_edition : (recall kept 2 ≡ Refused NoEdition) × (recall kept 0 ≡ Refused NoEdition) × (recall empty 0 ≡ Refused NoEdition)
    × (breaks_rules factory (pairs_for kept 2) ≡ true) × (breaks_rules factory (pairs_for kept 0) ≡ true) × (not_found kept 1 ≡ false)
unfolding recall kept store_rows first records_in store_of edition_of repeated spoilt empty place_for kept_of record_of register_of bits_of from_bits
    pairs_in drafted_of put_of judged_of is_out fits registers values_of settings_of ordered
no_edition = (refl, refl, refl, refl, refl, refl)

-- 54: 301 one below its range; 316 one above 301, against the order
broken : (recall (sets kept 4 (0xE7 ∷ 0x03 ∷ [])) 1 ≡ Refused BrokenRules)
    × (recall (sets kept 12 (0xE9 ∷ 0x03 ∷ [])) 1 ≡ Refused BrokenRules)
    × (recall (sets kept 12 (0xE8 ∷ 0x03 ∷ [])) 1 ≡ Done)
unfolding recall kept store_rows first records_in store_of edition_of repeated spoilt empty place_for kept_of record_of register_of bits_of from_bits
    pairs_in drafted_of put_of judged_of is_out fits registers values_of settings_of ordered
broken = (refl, refl, refl)

-- ---- two rows at once

-- 51 before 52, before 53 and before 55; 52 before 53, before 54 and before 55
two_at_once : (first (store_rows (replicate 511 1)) ≡ Refused WrongStore) × (recall (replicate 511 0) 7 ≡ Refused WrongStore)
    × (first (keep_rows (replicate 4 255 ++ replicate 507 0)) ≡ Refused WrongStore) × (recall (with 4 (1 ∷ [])) 7 ≡ Refused SpoiltStore)
    × (recall (set (with 0 (7 ∷ [])) 28 1) 7 ≡ Refused SpoiltStore)
    × (first (keep_rows (set (with 0 (255 ∷ 255 ∷ 255 ∷ 255 ∷ [])) 28 1)) ≡ Refused SpoiltStore)
unfolding recall store_rows first records_in edition_of repeated spoilt empty with
two_at_once = (refl, refl, refl, refl, refl, refl)

-- ---- saving

-- 1 in an empty store: every byte of the record, and nothing after it. -40 is 65,496 as its sixteen bits
first_kept : (kept_by empty ≡ Ok 1)
    × (kept
    ≡ (1 ∷ 0 ∷ 0 ∷ 0 ∷ [])
    ++ (0xE8 ∷ 3 ∷ 0xE8 ∷ 3 ∷ 15 ∷ 0 ∷ 0xB0 ∷ 4 ∷ 0x20 ∷ 3 ∷ 1 ∷ 0 ∷ 1 ∷ 0 ∷ 20 ∷ 0 ∷ 0xD8 ∷ 0xFF ∷ 1 ∷ 0 ∷ 0 ∷ 0 ∷ 1 ∷ 0 ∷ [])
    ++ (0 ∷ 0 ∷ 0 ∷ 0 ∷ []) ++ replicate 480 0)
unfolding kept store_rows first records_in store_of edition_of repeated spoilt empty place_for kept_of record_of register_of bits_of
first_kept = (refl, refl)

-- the first unused record: the third of a store whose others stand before and behind it
next_kept : editions_in (kept_store (sets (sets (sets empty 0 (9 ∷ [])) 32 (5 ∷ [])) 96 (7 ∷ [])) minimum)
    ≡ (9 ∷ 5 ∷ 10 ∷ 7 ∷ []) ++ replicate 12 0
unfolding records_in store_of edition_of empty place_for kept_of record_of register_of bits_of
next_kept = refl

-- with none unused, the one with the smallest edition
full : List ℕ
full = store_of (map (λ e. record_of e factory) (9 ∷ 8 ∷ 300 ∷ 7 ∷ 6 ∷ 3 ∷ 4 ∷ 5 ∷ 10 ∷ 11 ∷ 12 ∷ 13 ∷ 14 ∷ 15 ∷ 16 ∷ 17 ∷ []))

smallest_replaced : editions_in (kept_store full minimum)
    ≡ 9 ∷ 8 ∷ 300 ∷ 7 ∷ 6 ∷ 301 ∷ 4 ∷ 5 ∷ 10 ∷ 11 ∷ 12 ∷ 13 ∷ 14 ∷ 15 ∷ 16 ∷ 17 ∷ []
unfolding full records_in store_of edition_of place_for kept_of record_of register_of bits_of
smallest_replaced = refl

-- ---- recalling

-- all twelve, as one write; one that is refused leaves all that stood
recalled :
    let refused = recall_of maximum (sets kept 26 (8 ∷ 0 ∷ [])) 1 in
    (recall_of maximum kept 1 ≡ Ok minimum) × (refused ≡ Err BrokenRules) × (standing_of maximum refused ≡ maximum)
unfolding recall_of kept store_rows first records_in store_of edition_of repeated spoilt empty place_for kept_of record_of register_of bits_of
    from_bits pairs_in drafted_of put_of judged_of is_out fits registers values_of settings_of ordered standing_of
recalled = (refl, refl, refl)

-- ---- tidying

-- used records by rising edition, then unused; each with all its bytes
tidied : (editions_in (tidied_store full) ≡ 3 ∷ 4 ∷ 5 ∷ 6 ∷ 7 ∷ 8 ∷ 9 ∷ 10 ∷ 11 ∷ 12 ∷ 13 ∷ 14 ∷ 15 ∷ 16 ∷ 17 ∷ 300 ∷ [])
    × (tidied_store (sets (sets empty 64 (record_of 9 minimum)) 480 (record_of 5 maximum))
    ≡ record_of 5 maximum ++ record_of 9 minimum ++ replicate 448 0)
unfolding full records_in store_of edition_of empty tidied_by put_in record_of register_of bits_of
tidied = (refl, refl)
