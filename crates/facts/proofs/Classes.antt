-- W-210 on boards. A recall that is accepted is a write of twelve by 0x0D, to the byte of the state, and changes nothing but the settings:
-- no switch, latch, wait or statistic. What a board that a start reaches keeps, any usable board recalls as it was kept. A recall or a keep
-- that is refused changes nothing, of any board. (The laws of the store itself: crate `classes`, specs/Laws.)
-- Assumes nothing.
use Rattle.refusals.specs.declared.Refusal.{Refusal}
use Rattle.refusals.proofs.Rows.{come_to_giving, gives_value, not_done}
use Rattle.std.specs.Prelude.{Ok, Result}
use mathlib.Core.Path.{◌≡◌, refl, sym, ap, ◌∙◌, subst⁻¹}
use mathlib.Core.Bool.{true, cond}
use mathlib.Core.List.{List, [], ◌∷◌, reverse}
use Prim.Native.Nat.{ℕ}
use Rattle.refusals.specs.Refusals.{Outcome, Done, is_done, first, come_to}
use Rattle.settings.specs.declared.Settings.{Settings}
use Rattle.settings.specs.Settings as settings
use Rattle.settings.proofs.Drafts as drafts
use Rattle.writes.specs.declared.Form.TheVariants as form
use Rattle.writes.specs.declared.Pair.{Pair}
use Rattle.writes.specs.Writes.{pairs_of, drafted_of}
use Rattle.classes.specs.Store.{editions_in, keep_rows, kept_store, Keeps, pairs_for, recall_of}
use Rattle.editions.specs.Editions.{next_edition}
use native.Mathlib.Omega.{arith}
use Rattle.classes.specs.Laws.{list_request}
use Rattle.classes.proofs.Laws.{laws}
use Rattle.requests.specs.declared.Request.TheVariants as request
use Rattle.board.specs.declared.Board.{Board}
use Rattle.board.specs.State.{usable, with_settings}
use Rattle.board.specs.Changes as changes
use Rattle.board.specs.Changes.{changed_by, asked_deeds}
use Rattle.board.specs.Calls.{Call, keep, recall, shape, board_by, seen_of, left_of, outcome_in, board_after, carried_by, buffer_after}
use Rattle.board.specs.Behaviour.{board}
use Rattle.board.specs.Account.{Deed, took, wrote, cleared, forgot, sent, handed, heard, fetched, loaded, settings_at, board_at, deeds_of}
use Rattle.board.specs.Demands.{reached}
use Rattle.board.specs.Promises.{left_in}
use Rattle.board.proofs.Shape.{by_rows, is_done_lem, holds_on}
use Rattle.board.proofs.Account.Deeds.{May, after_calls}
use Rattle.board.proofs.Account.Settings.{Fits, written, ranges}
use Rattle.board.proofs.Demands.Demand1.{refused}
use Rattle.board.proofs.Demands.Demand2.{account}

-- ---- a recall is one write

module _ (b : Board) (store : List ℕ) (edition : ℕ) (accepted : outcome_in b (recall store edition) ≡ Done) where
  -- the 0x0D request of the twelve pairs of the edition's record
  abbrev pub s : List ℕ
  s = list_request (pairs_for store edition)

  recalled : board_after b (recall store edition) ≡ changes.written b (pairs_for store edition)
  unfolding shape board_by
  recalled = ap (board_by b (shape (recall store edition))) accepted

  same_pairs : pairs_of form.List s 12 ≡ pairs_for store edition
  same_pairs = (laws.one_request _).written

  -- the board after it is what that request changes it to, and the history has the request's deed
  pub a_write : board_after b (recall store edition) ≡ changed_by b s (Ok (request.Write form.List 12))
  unfolding changed_by
  a_write = recalled ∙ ap (changes.written b) (sym same_pairs)

  pub a_deed : (shape (recall store edition)).deeds b ≡ asked_deeds s (Ok (request.Write form.List 12))
  unfolding shape asked_deeds
  a_deed = ap (λ (ps : List Pair). wrote ps ∷ []) (sym same_pairs)

  -- and nothing else changes: the hire, with its switches and statistics, and what the guard knows, latches and waits, are as they were
  pub settings_alone : ((board_after b (recall store edition)).hire ≡ b.hire)
      × ((board_after b (recall store edition)).pack.guard ≡ b.pack.guard)
      × ((board_after b (recall store edition)).pack.clock ≡ b.pack.clock)
  settings_alone = (
    ap (λ (x : Board). x.hire) recalled,
    ap (λ (x : Board). x.pack.guard) recalled,
    ap (λ (x : Board). x.pack.clock) recalled,
  )

-- ---- what is kept is recalled

-- settings that fit are taken as a write of them would be
judged : (st : Settings) → Fits st → drafts.Held st → settings.judged_of (settings.values_of st) ≡ Done
judged st fits held =
    (drafts.done_is (settings.draft_of st)).1 (
      λ register low high.
          ap (settings.fits register) (drafts.begun_at st register low high) ∙ (drafts.in_range_is st).0 fits.0 register low high,
      ap settings.ordered (drafts.begun_settings st held) ∙ fits.1,
    )

-- those of every board that a start reaches fit, and 320 has its sixteen bits
module _ (cells per_km : ℕ) where
  still_held : (d : Deed) (k : List Deed) → May cells per_km k d → drafts.Held (settings_at k) → drafts.Held (settings_at (d ∷ k))
  unfolding settings_at
  still_held (took given r) k m h = h
  still_held (wrote ps) k m h = subst⁻¹ drafts.Held (written ps k) (drafts.draft_held (drafted_of (settings.draft_of (settings_at k)) ps))
  still_held cleared k m h = h
  still_held forgot k m h = h
  still_held sent k m h = h
  still_held handed k m h = h
  still_held (heard bytes) k m h = h
  still_held fetched k m h = h
  still_held (loaded es) k m h = h

  all_held : (cs : List Call) → drafts.Held (settings_at (deeds_of cells per_km cs))
  unfolding settings_at
  all_held cs = after_calls cells per_km (λ k. drafts.Held (settings_at k)) still_held (omega arith) cs

-- a board after any calls keeps its settings in any store that takes them; any usable board that recalls the new edition has them
module _ (cells per_km : ℕ) (cs : List Call) (store : List ℕ) (other : Board) where
  abbrev now : Board
  now = reached board cells per_km cs

  abbrev mine : Settings
  mine = now.pack.settings

  of_history : mine ≡ settings_at (deeds_of cells per_km (reverse cs))
  unfolding board_at
  of_history = ap (λ (x : Board). x.pack.settings) (account cells per_km cs)

  mine_held : drafts.Held mine
  mine_held = subst⁻¹ drafts.Held of_history (all_held cells per_km (reverse cs))

  mine_judged : settings.judged_of (settings.values_of mine) ≡ Done
  mine_judged = judged mine (subst⁻¹ Fits of_history (ranges cells per_km (reverse cs))) mine_held

  abbrev edition : ℕ
  edition = carried_by now (keep store)

  abbrev after : List ℕ
  after = buffer_after now (keep store)

  pub kept_then_recalled : outcome_in now (keep store) ≡ Done → usable other ≡ true
      → (outcome_in other (recall after edition) ≡ Done)
      × (board_after other (recall after edition) ≡ with_settings other now.pack.settings)
  unfolding shape seen_of recall_of settings.standing_of
  kept_then_recalled done some =
      let standing = other.pack.settings in
      let rows : first (keep_rows store) ≡ Done = (is_done_lem now (shape (keep store)) done).1 in
      let new : ℕ = next_edition (editions_in store) in
      let keeps : Keeps mine store (Ok new) (kept_store store mine) = record {
        gives = gives_value new (sym rows);
        store = sym (ap (λ (o : Outcome). cond (is_done o) (kept_store store mine) store) rows);
      } in
      let the-store : after ≡ kept_store store mine = ap (λ (o : Outcome). cond (is_done o) (kept_store store mine) []) done in
      let the-edition : edition ≡ new = ap (λ (o : Outcome). cond (is_done o) new 0) done in
      let found : recall_of standing after edition ≡ Ok mine =
      (λ i. recall_of standing (the-store i) (the-edition i))
      ∙ (laws.keeping mine store new (kept_store store mine) keeps).recalled standing mine_judged mine_held in
      let accepted : outcome_in other (recall after edition) ≡ Done =
      by_rows other (shape (recall after edition)) some ∙ sym (come_to_giving _ _) ∙ ap come_to found in
      let one = laws.recalling standing after edition (ap come_to found) in (
        accepted,
        recalled other after edition accepted
            ∙ ap (λ (r : Result Settings Refusal). with_settings other (settings.standing_of standing r)) (sym one ∙ found),
      )

-- ---- refused, nothing changed

module _ (b : Board) (store : List ℕ) where
  -- the settings that stand after a refused recall, and all else, are those that stood
  pub recall_refused : (e : ℕ) → (outcome_in b (recall store e) ≡ Done → ⊥) → board_after b (recall store e) ≡ b
  unfolding shape
  recall_refused e undone = refused b (recall store e) undone (holds_on b (shape (recall store e)) (outcome_in b (recall store e)) refl)

  -- a refused keep leaves every byte of the store and the board, and tells edition 0
  pub keep_refused : (outcome_in b (keep store) ≡ Done → ⊥)
      → (left_in b (keep store) store ≡ store) × (carried_by b (keep store) ≡ 0) × (board_after b (keep store) ≡ b)
  unfolding shape left_of
  keep_refused undone =
      let off = not_done (outcome_in b (keep store)) undone in (
        rw off refl,
        rw off refl,
        refused b (keep store) undone (holds_on b (shape (keep store)) (outcome_in b (keep store)) refl),
      )
