-- What holds of a store (W-210 of document 02) by the promises of the three calls; proofs/Laws.antt proves it. Assumes nothing.
use Rattle.std.specs.Prelude.{true, false, cond, ◌⊎◌, ◌≡◌, ℕ, ◌*◌, ◌<◌, length, get_or, Ok, Err}
use mathlib.Core.List.{List, ◌∷◌, ◌++◌, reverse, Permᴰ}
use Rattle.std.specs.Int.Signed.{mag}
use Rattle.laws.specs.History.{each}
use Rattle.numbers.specs.Numbers.{le16}
use Rattle.refusals.specs.declared.Refusal.{Refusal}
use Rattle.refusals.specs.Refusals.{Outcome, Done, is_done, come_to, first}
use Rattle.settings.specs.declared.Settings.{Settings}
use Rattle.settings.specs.Settings.{values_of, judged_of, standing_of}
use Rattle.writes.specs.declared.Form.TheVariants as form
use Rattle.writes.specs.declared.Pair.{Pair}
use Rattle.writes.specs.Writes.{pairs_of, all_settings, keeps_rules, written_to}
use Rattle.editions.specs.Editions.{places, is_in, smallest}
use Rattle.classes.specs.Store.{record_of, records_in, editions_in, store_rows, Keeps, recalled_pairs, class_for, pairs_for, recall_of}
use Rattle.classes.specs.Store.{Tidies}

-- 512 bytes, no edition twice, and zero where zero is asked
abbrev pub WellFormed : List ℕ → Type 0
WellFormed store = first (store_rows store) ≡ Done

-- an edition is found in one store as in another: whether it is there, and its record
abbrev pub FoundAlike : ℕ → List ℕ → List ℕ → Type 0
FoundAlike e store other = (is_in e (editions_in store) ≡ is_in e (editions_in other)) × (class_for store e ≡ class_for other e)

-- the edition that a save replaces: of an unused record if there is one, else the smallest
abbrev pub replaced_in : List ℕ → ℕ
replaced_in store = cond (is_in 0 (editions_in store)) 0 (smallest (editions_in store))

-- ---- after a save of the settings s

pub record AfterKeep (s : Settings) (before after : List ℕ) (edition : ℕ) : Type 0 where
  pub well_formed : WellFormed after
  -- the new edition is larger than all others, and fits 32 bits
  pub larger : (e : ℕ) → is_in e (editions_in before) ≡ true → e < edition
  pub fits : edition < 4294967296
  -- it is found, with its record
  pub found : (is_in edition (editions_in after) ≡ true) × (class_for after edition ≡ record_of edition s)
  -- every edition but the replaced one is found as before
  pub others : (e : ℕ) → (e ≡ edition → ⊥) → (e ≡ replaced_in before → ⊥) → FoundAlike e after before
  -- a recall of the new edition gives the settings that were kept, whatever settings stand; they keep the rules, and 320 has its 16 bits
  pub recalled : (standing : Settings) → judged_of (values_of s) ≡ Done → mag s.r320 < 32768
      → recall_of standing after edition ≡ Ok s

-- ---- a recall is one write

-- a 0x0D request: PL, pairs of an address and its value, low byte first
abbrev pub list_request : List Pair → List ℕ
list_request ps = 0xAA ∷ 0x0D ∷ 4 * length ps ∷ each (λ p. le16 p.at ++ le16 p.value) (reverse ps)

-- the twelve of a record are what a request of twelve pairs writes, which keeps the rules of its fields
pub record OneRequest (ps : List Pair) : Type 0 where
  pub written : pairs_of form.List (list_request ps) 12 ≡ ps
  pub rules : keeps_rules form.List (list_request ps) 12 ≡ true
  pub settings : all_settings ps ≡ true

-- ---- after a tidying

-- of two editions the later is unused, or the earlier is used and smaller
abbrev pub Below : ℕ → ℕ → Type 0
Below earlier later = (later ≡ 0) ⊎ ((0 < earlier) × (earlier < later))

pub record AfterTidy (before after : List ℕ) : Type 0 where
  pub well_formed : WellFormed after
  -- the same records
  pub same : Permᴰ (records_in after) (records_in before)
  -- used records by rising edition, then unused
  pub rises : (i j : ℕ) → i < j → j < places → Below (get_or (editions_in after) i 0) (get_or (editions_in after) j 0)
  -- tidied twice is tidied once
  pub twice : (outcome : Outcome) (again : List ℕ) → Tidies after outcome again → (outcome ≡ Done) × (again ≡ after)
  -- every recall is answered as before it
  pub recalls : (standing : Settings) (edition : ℕ) → recall_of standing after edition ≡ recall_of standing before edition

-- ---- all of them

pub record Laws : Type 0 where
  pub keeping : (s : Settings) (before : List ℕ) (edition : ℕ) (after : List ℕ) → Keeps s before (Ok edition) after
      → AfterKeep s before after edition
  -- writes all twelve under 01's rules, as one write
  pub recalling : (standing : Settings) (store : List ℕ) (edition : ℕ) → come_to (recall_of standing store edition) ≡ Done
      → recall_of standing store edition ≡ written_to standing (pairs_for store edition)
  pub one_request : (r : List ℕ) → OneRequest (recalled_pairs r)
  pub tidying : (before : List ℕ) (outcome : Outcome) (after : List ℕ) → Tidies before outcome after → outcome ≡ Done
      → AfterTidy before after
  -- refused, nothing changed: the store, here. An Err carries no edition and no settings, so of a recall this says no more than that; that a
  -- refused recall leaves the board, and a refused keep tells edition 0, are laws of the board (facts/proofs/Classes)
  pub keep_refused : (s : Settings) (before : List ℕ) (refusal : Refusal) (after : List ℕ) → Keeps s before (Err refusal) after
      → after ≡ before
  pub recall_refused : (standing : Settings) (store : List ℕ) (edition : ℕ)
      → is_done (come_to (recall_of standing store edition)) ≡ false
      → standing_of standing (recall_of standing store edition) ≡ standing
  pub tidy_refused : (before : List ℕ) (outcome : Outcome) (after : List ℕ) → Tidies before outcome after → is_done outcome ≡ false
      → after ≡ before
