-- Settings by hire class (W-210 of document 02): a store of 16 records of 32 bytes, no header: an edition number (32 bits, 0 for unused),
-- the twelve listed settings in register order, four zero bytes, all low byte first; unused is all zeros. A record is a list of bytes.
-- Assumes nothing.
use Rattle.std.specs.Prelude.{Bool, ◌||◌, not, cond, List, [], ◌∷◌, ◌++◌, map, ◌≡◌, ℕ, zero, suc, ◌+◌, ◌*◌, eqb, length, get_or, take, drop}
use Rattle.std.specs.Prelude.{set, replicate, is_ok, Result}
use Rattle.laws.specs.History.{each, any}
use Rattle.numbers.specs.Numbers.{le16_at, le16, le32}
use Rattle.refusals.specs.declared.Refusal.{Refusal}
use Rattle.refusals.specs.declared.Refusal.TheVariants.{WrongStore, SpoiltStore, NoEdition, BrokenRules, EditionsUsedUp}
use Rattle.refusals.specs.Refusals.{Outcome, is_done, giving, first}
use Rattle.settings.specs.declared.Settings.{Settings}
use Rattle.settings.specs.Settings.{register_of}
use Rattle.settings.specs.Settings as settings
use Rattle.writes.specs.declared.Pair.{Pair}
use Rattle.writes.specs.Writes.{drafted_of, written_to}
use Rattle.editions.specs.Editions.{edition_of, spoilt, places, is_in, record_for, repeated, place_for, next_edition, used_up, tidied_by}

-- ---- a record

-- the twelve listed settings in register order
abbrev pub twelve : List ℕ
twelve = 301 ∷ 303 ∷ 308 ∷ 315 ∷ 316 ∷ 317 ∷ 318 ∷ 319 ∷ 320 ∷ 332 ∷ 334 ∷ 335 ∷ []

-- an edition number (32 bits), the twelve, four zero bytes, all low byte first
unfoldable pub record_of : ℕ → Settings → List ℕ
record_of edition s = le32 edition ++ each (λ at. le16 (register_of s at)) twelve ++ replicate 4 0

-- ---- a store

-- 16 records of 32 bytes
abbrev pub record_length : ℕ
record_length = 32

abbrev pub store_length : ℕ
store_length = 512

-- so many records from the front on; those of a store
abbrev pub pieces : ℕ → List ℕ → List (List ℕ)
pieces zero bytes = []
pieces (suc n) bytes = take record_length bytes ∷ pieces n (drop record_length bytes)

unfoldable pub records_in : List ℕ → List (List ℕ)
records_in store = pieces places store

-- no header: the bytes of the records, one after the other
unfoldable pub store_of : List (List ℕ) → List ℕ
store_of rs = each (λ r. r) rs

abbrev pub editions_in : List ℕ → List ℕ
editions_in store = map edition_of (records_in store)

-- ---- 51, store not 512 bytes; 52, two equal nonzero editions, nonzero padding, or edition 0 with a nonzero byte after it

abbrev pub ill_formed : List (List ℕ) → Bool
ill_formed rs = repeated (map edition_of rs) || any spoilt rs

unfoldable pub store_rows : List ℕ → List (Refusal × Bool)
store_rows store = (WrongStore, not (eqb (length store) store_length)) ∷ (SpoiltStore, ill_formed (records_in store)) ∷ []

-- ---- saving

-- 55, editions used up at 2^32 - 1
abbrev pub keep_rows : List ℕ → List (Refusal × Bool)
keep_rows store = store_rows store ++ ((EditionsUsedUp, used_up (editions_in store)) ∷ [])

-- saving uses the first unused record if there is one, else the one with the smallest edition; the new edition is the largest in the store
-- plus one
unfoldable pub kept_of : List (List ℕ) → Settings → List (List ℕ)
kept_of rs s = set rs (place_for (map edition_of rs)) (record_of (next_edition (map edition_of rs)) s)

abbrev pub kept_store : List ℕ → Settings → List ℕ
kept_store store s = store_of (kept_of (records_in store) s)

-- the new edition, where it is not refused
abbrev pub kept_by : List ℕ → Result ℕ Refusal
kept_by store = giving (first (keep_rows store)) (next_edition (editions_in store))

-- every byte of the store; refused, nothing changed
pub record Keeps (s : Settings) (before : List ℕ) (r : Result ℕ Refusal) (after : List ℕ) : Type 0 where
  pub gives : r ≡ kept_by before
  pub store : after ≡ cond (is_done (first (keep_rows before))) (kept_store before s) before

-- ---- recalling

-- all twelve, as one write: the first n of them, the last first, as a write has them
unfoldable pub pairs_in : List ℕ → ℕ → List Pair
pairs_in r zero = []
pairs_in r (suc n) = record { at = get_or twelve n 0; value = le16_at r (4 + 2 * n) } ∷ pairs_in r n

abbrev pub recalled_pairs : List ℕ → List Pair
recalled_pairs r = pairs_in r 12

-- of the record of an edition
abbrev pub class_for : List ℕ → ℕ → List ℕ
class_for store edition = record_for [] edition_of (records_in store) edition

abbrev pub pairs_for : List ℕ → ℕ → List Pair
pairs_for store edition = recalled_pairs (class_for store edition)

-- 53, edition not found, or 0
abbrev pub not_found : List ℕ → ℕ → Bool
not_found store edition = eqb edition 0 || not (is_in edition (editions_in store))

-- 54, its settings break the rules
abbrev pub breaks_rules : Settings → List Pair → Bool
breaks_rules standing ps = not (is_ok (written_to standing ps))

abbrev pub edition_rows : Bool → Bool → List (Refusal × Bool)
edition_rows missing broken = (NoEdition, missing) ∷ (BrokenRules, broken) ∷ []

abbrev pub recall_rows : Settings → List ℕ → ℕ → List (Refusal × Bool)
recall_rows standing store edition =
    store_rows store ++ edition_rows (not_found store edition) (breaks_rules standing (pairs_for store edition))

-- writes all twelve under 01's rules: the settings that it leaves, or why it is refused
unfoldable pub recall_of : Settings → List ℕ → ℕ → Result Settings Refusal
recall_of standing store edition =
    giving (first (recall_rows standing store edition))
    (settings.settings_in (drafted_of (settings.draft_of standing) (pairs_for store edition)))

-- ---- a scan tidies a store: used records by rising edition, then unused

abbrev pub tidy_rows : List ℕ → List (Refusal × Bool)
tidy_rows = store_rows

abbrev pub tidied_store : List ℕ → List ℕ
tidied_store store = store_of (tidied_by edition_of (records_in store))

-- every byte of the store; refused, nothing changed
pub record Tidies (before : List ℕ) (outcome : Outcome) (after : List ℕ) : Type 0 where
  pub outcome_is : outcome ≡ first (tidy_rows before)
  pub store : after ≡ cond (is_done (first (tidy_rows before))) (tidied_store before) before
