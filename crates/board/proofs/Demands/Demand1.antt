-- Demand 1. Any bytes, readings or settings may arrive; each call answers and ends. Bad input gets its number, changes no state, and
-- leaves the named NACK or zeros. Nothing lent earlier survives past the end of a reply.
-- Assumes nothing.
use mathlib.Core.Path.{◌≡◌, refl, sym, ap, ap₂, ◌∙◌, subst⁻¹}
use mathlib.Core.Bool.{Bool, true, false, ◌||◌, ◌&&◌, not, cond, false≢true}
use mathlib.Core.List.{List, [], ◌∷◌}
use Prim.Native.Nat.{ℕ}
use lib.Dec.{eqb, ltb}
use lib.ListN.{replicate}
use Rattle.refusals.specs.declared.Refusal.{Refusal}
use Rattle.refusals.specs.declared.Refusal.TheVariants.{NoRoom, Foreign, FrameHeld, NoFrameHeld, NoBoard}
use Rattle.refusals.specs.Refusals.{Outcome, Done, Refused, refusal_number, number_of, is_done, first}
use Rattle.std.specs.Prelude.{Ok, Err}
use Rattle.refusals.proofs.Rows.{refused_not, not_done}
use Rattle.receiver.specs.Receiver.{no_bytes, complete}
use Rattle.receiver.specs.Heard.{after_hearing}
use Rattle.receiver.proofs.Heard.{held, is_held_lem, ours}
use Rattle.receiver.proofs.Through.{none_held}
use Rattle.pack.specs.Pack.{usable_count, new_pack, start_outcome}
use Rattle.board.specs.declared.Board.{Board}
use Rattle.board.specs.State.{usable, with_receiver}
use Rattle.board.specs.Line.{held_in, holds, let_go}
use Rattle.board.specs.Start.{start_board}
use Rattle.board.specs.Calls.{Call, tick, frame, handover, offer, fetch, save, load, cabinet, keep, recall}
use Rattle.board.specs.Calls.{Seen, Lent, nothing_lent, reply_lent, area_lent}
use Rattle.board.specs.Calls.{frame_rows, shape}
use Rattle.board.specs.Calls.{outcome_of, nacks, lets_go, board_by, seen_of, outcome_in, board_after, step}
use Rattle.board.specs.Behaviour.{Behaviour, board, after_in, answers_in}
use Rattle.board.specs.Account.{Deed, heard_at, held_at, board_at, outcome_at}
use Rattle.board.specs.Demands.{deeds, Leaves, without_line, reached, shown, next, Demand1}
use Rattle.board.proofs.Shape.{none_21, kept}
use Rattle.board.proofs.Asked.{by_table, not_foreign, Leftover, left_whole, left_blank, no_bytes_lem}
use Rattle.board.proofs.Deaf.{alike, all_let_go}
use Rattle.board.proofs.Demands.Demand2.{account}

-- ---- a refused call leaves the board as it was: so it is by its shape, but for a held frame that is let go

pub refused : (b : Board) (c : Call) → (outcome_in b c ≡ Done → ⊥) → lets_go (shape c) (outcome_in b c) ≡ false → board_after b c ≡ b
refused b c = kept b (shape c) (outcome_in b c)

-- ---- the rows of an offer and of a fetch, from the history: a frame is held where the bytes that were heard have one

module _ (cells per_km : ℕ) (h : List Deed) where
  abbrev b : Board
  b = board_at cells per_km h

  pub held_by_history : holds b ≡ complete (held_at h)
  unfolding board_at
  held_by_history = is_held_lem (heard_at h)

  pub frame_by_history : held_in b ≡ held_at h
  unfolding board_at
  frame_by_history = held (heard_at h)

  pub offer_rows : (bytes : List ℕ) → (shape (offer bytes)).rows b ≡ (FrameHeld, complete (held_at h)) ∷ []
  unfolding shape
  offer_rows bytes = ap (λ (t : Bool). (FrameHeld, t) ∷ []) held_by_history

  pub fetch_rows : (room : ℕ)
      → (shape (fetch room)).rows b ≡ (NoRoom, ltb room 259) ∷ (NoFrameHeld, not (complete (held_at h))) ∷ frame_rows b (held_at h)
  unfolding shape
  fetch_rows room =
      ap₂ (λ (t : Bool) (s : List ℕ). (NoRoom, ltb room 259) ∷ (NoFrameHeld, not t) ∷ frame_rows b s) held_by_history frame_by_history

  -- a held frame is the board's own: a fetch never answers 2
  pub own : (room : ℕ) → outcome_in b (fetch room) ≡ Refused Foreign → ⊥
  unfolding outcome_of first
  own room e = go (not (usable b)) (ltb room 259) (complete (held_at h)) refl
      (sym (ap (λ (rows : List (Refusal × Bool)). first ((NoBoard, not (usable b)) ∷ rows)) (fetch_rows room)) ∙ e)
    where
      other : (r : Refusal) → eqb (refusal_number r) 2 ≡ false → Refused r ≡ Refused Foreign → ⊥
      other r n e = false≢true (sym n ∙ ap (λ (o : Outcome). eqb (number_of o) 2) e)

      go : (u t v : Bool) → complete (held_at h) ≡ v
          → first ((NoBoard, u) ∷ (NoRoom, t) ∷ (NoFrameHeld, not v) ∷ frame_rows b (held_at h)) ≡ Refused Foreign → ⊥
      go true t v c e = other NoBoard refl e
      go false true v c e = other NoRoom refl e
      go false false true c e =
          false≢true (sym (not_foreign b (held_at h) (ours (heard_at h) c)) ∙ ap (λ (o : Outcome). eqb (number_of o) 2) e)
      go false false false c e = other NoFrameHeld refl e

-- ---- what is left of what was lent

pub leaves : (b : Board) (c : Call) → Leaves b (step b c).1 ((shape c).lent b)
unfolding shape outcome_of first seen_of
leaves b (tick cells r) = refl
leaves b (frame s room) = go (not (usable b)) (ltb room 259) refl
  where
    go : (u t : Bool) → ltb room 259 ≡ t → Leftover b s room (first ((NoBoard, u) ∷ (NoRoom, t) ∷ frame_rows b s))
    go true t e = left_blank b s room (Refused NoBoard) (refl, refl)
    go false true e = left_blank b s room (Refused NoRoom) (refl, refl)
    go false false e = subst⁻¹ (Leftover b s room) (sym (by_table b s)) (left_whole b s room e)
leaves b (handover number n) = refl
leaves b (offer bytes) = refl
leaves b (fetch room) = go (not (usable b)) (ltb room 259) refl (not (holds b))
  where
    s : List ℕ
    s = held_in b

    go : (u t : Bool) → ltb room 259 ≡ t → (v : Bool)
        → Leftover b s room (first ((NoBoard, u) ∷ (NoRoom, t) ∷ (NoFrameHeld, v) ∷ frame_rows b s))
    go true t e v = left_blank b s room (Refused NoBoard) (refl, refl)
    go false true e v = left_blank b s room (Refused NoRoom) (refl, refl)
    go false false e true = left_blank b s room (Refused NoFrameHeld) (refl, refl)
    go false false e false = subst⁻¹ (Leftover b s room) (sym (by_table b s)) (left_whole b s room e)
leaves b (save n) = refl
leaves b (load area) = refl
leaves b (cabinet n) = refl
leaves b (keep store) = refl
leaves b (recall store edition) = refl

-- a refused call takes nothing
takes_none : (b : Board) (c : Call) → (outcome_in b c ≡ Done → ⊥) → (step b c).1.carried ≡ 0
takes_none b c h = rw (not_done (outcome_in b c) h) refl

-- ---- a fetch that answers with a NACK

module _ (b : Board) (room : ℕ) (nack : nacks (outcome_in b (fetch room)) ≡ true) where
  -- the held frame goes, and nothing else changes
  pub only_lets_go : board_after b (fetch room) ≡ let_go b
  unfolding shape board_by
  only_lets_go = go (outcome_in b (fetch room)) nack
    where
      or-true : (t u : Bool) → u ≡ true → ((t || u) && true) ≡ true
      or-true true u e = refl
      or-true false u e = rw e refl

      go : (o : Outcome) → nacks o ≡ true → board_by b (shape (fetch room)) o ≡ let_go b
      go (Ok done) k = absurd (false≢true k)
      go (Err refusal) k = rw (or-true (eqb (refusal_number refusal) 2) _ k) refl

  then_none : outcome_in (let_go b) (fetch room) ≡ Refused NoFrameHeld
  unfolding shape outcome_of first
  then_none = go (not (usable b)) (ltb room 259) nack
    where
      go : (u t : Bool) → nacks (first ((NoBoard, u) ∷ (NoRoom, t) ∷ (NoFrameHeld, not (holds b)) ∷ frame_rows b (held_in b))) ≡ true
          → first ((NoBoard, u) ∷ (NoRoom, t) ∷ (NoFrameHeld, not (holds (let_go b))) ∷ frame_rows (let_go b) (held_in (let_go b)))
          ≡ Refused NoFrameHeld
      go true t k = absurd (false≢true k)
      go false true k = absurd (false≢true k)
      go false false k = rw none_held refl

-- a board that has heard nothing is as one that lets go of what it heard
at_rest : (cells per_km : ℕ) (h : List Deed) → heard_at h ≡ [] → let_go (board_at cells per_km h) ≡ board_at cells per_km h
unfolding board_at
at_rest cells per_km h e = ap (with_receiver (board_at cells per_km h)) (sym (ap after_hearing e))

pub demand1 : Demand1 board
unfolding start_board new_pack start_outcome first
demand1 =
    record {
      starts = λ cells per_km. starts (usable_count cells);
      outcomes = λ cells per_km cs c. ap (λ (b : Board). outcome_in b c) (account cells per_km cs);
      unchanged = λ cells per_km cs c.
          subst⁻¹ (λ (b : Board). (outcome_in b c ≡ Done → ⊥) → lets_go (shape c) (outcome_in b c) ≡ false → board_after b c ≡ b)
          (account cells per_km cs)
          (refused (board_at cells per_km (deeds cells per_km cs)) c);
      lets_frame_go = λ cells per_km cs room n.
          let b = reached board cells per_km cs in
          let gone = only_lets_go b room n in (
            ap (λ (x : Board). outcome_in x (fetch room)) gone ∙ then_none b room n,
            λ zs off. ap (λ (x : Board). answers_in board x zs) gone
                ∙ alike b no_bytes zs off,
          );
      lets_all_go = λ cells per_km cs os room rests no n zs.
          let b = reached board cells per_km cs in
          let rested : let_go b ≡ b =
          subst⁻¹ (λ (x : Board). let_go x ≡ x) (account cells per_km cs) (at_rest cells per_km (deeds cells per_km cs) rests) in
          ap (λ (x : Board). answers_in board x zs)
          (only_lets_go (after_in board b os) room n ∙ all_let_go b os no ∙ ap (λ (x : Board). after_in board x (without_line os)) rested);
      leaves = λ cells per_km cs c.
          let b = board_at cells per_km (deeds cells per_km cs) in
          subst⁻¹ (λ (x : Board). Leaves b (step x c).1 ((shape c).lent b)) (account cells per_km cs) (leaves b c);
      takes = λ cells per_km cs c. takes_none (reached board cells per_km cs) c;
    }
  where
    starts : (u : Bool) → cond (not u) (Refused NoBoard) Done ≡ cond u Done (Refused NoBoard)
    starts true = refl
    starts false = refl

-- ---- number 21 gives back no usable board: any later call on it, handover included, answers 21 before all other numbers, zeroes a lent
-- reply buffer and writes nothing else, an area neither; of every behaviour that meets the demand

-- what is seen of what a call is lent, zeroed
abbrev pub Zeroed : Seen → Lent → Type 0
Zeroed a nothing_lent = a.buffer ≡ []
Zeroed a (reply_lent s room reply) = a.buffer ≡ replicate room 0
Zeroed a (area_lent area) = a.buffer ≡ []

module _ (B : Behaviour) (meets : Demand1 B) (cells per_km : ℕ) (none : B.started cells per_km ≡ Refused NoBoard) where
  no_board : usable_count cells ≡ false
  no_board = go (usable_count cells) (sym (meets.starts cells per_km) ∙ none)
    where
      go : (u : Bool) → cond u Done (Refused NoBoard) ≡ Refused NoBoard → u ≡ false
      go true e = absurd (refused_not NoBoard (sym e))
      go false e = refl

  always_21 : (h : List Deed) (c : Call) → outcome_at cells per_km h c ≡ Refused NoBoard
  unfolding board_at
  always_21 h c = none_21 (board_at cells per_km h) (shape c) no_board

  module _ (cs : List Call) (c : Call) where
    abbrev shows : Seen
    shows = shown B cells per_km cs c

    pub answers_21 : shows.outcome ≡ Refused NoBoard
    answers_21 = meets.outcomes cells per_km cs c ∙ always_21 (deeds cells per_km cs) c

    not_so : shows.outcome ≡ Done → ⊥
    not_so z = refused_not NoBoard (sym answers_21 ∙ z)

    pub changes_nothing : next B cells per_km cs c ≡ reached B cells per_km cs
    changes_nothing = meets.unchanged cells per_km cs c not_so (ap (lets_go (shape c)) answers_21)

    pub takes_nothing : shows.carried ≡ 0
    takes_nothing = meets.takes cells per_km cs c not_so

    pub zeroes : Zeroed shows ((shape c).lent (board_at cells per_km (deeds cells per_km cs)))
    zeroes = go ((shape c).lent (board_at cells per_km (deeds cells per_km cs))) (meets.leaves cells per_km cs c)
      where
        go : (l : Lent) → Leaves (board_at cells per_km (deeds cells per_km cs)) shows l → Zeroed shows l
        go nothing_lent l = l
        go (reply_lent s room reply) l = l.1 NoBoard answers_21 ∙ no_bytes_lem room
        go (area_lent area) l = l ∙ ap (λ (o : Outcome). cond (is_done o) area []) answers_21
