-- W-208. The caller's number 4 is split into 41 to 45, and nothing else: exactly the requests that were refused with 4 are refused with one of
-- them, and whichever it is, every byte of the reply and the board are what they were: a NACK of the command with error 0x00, and the board
-- as before, without the frame where it was fetched. On boards that calls reach, the register of a 44 is one of the write, its final value
-- is outside its range, and no lower register ends outside its own; 45 is given exactly where all are in range and the order fails.
-- Assumes nothing.
use mathlib.Core.Path.{◌≡◌, refl, sym, ap, ◌∙◌}
use mathlib.Core.Bool.{Bool, true, false, ◌&&◌, ◌||◌, not, cond, false≢true}
use mathlib.Core.Logic.{◌↔◌}
use mathlib.Core.List.{List, [], ◌∷◌}
use Prim.Native.Nat.{ℕ}
use lib.Dec.{eqb, leb}
use lib.ListN.{length, get_or}
use Rattle.laws.specs.History.{any}
use Rattle.std.specs.Prelude.{Some, Ok, Err, is_ok, is_some}
use Rattle.refusals.specs.declared.Refusal.{Refusal}
use Rattle.refusals.specs.declared.Refusal.TheVariants.{NoRoom, Foreign, Damaged, UnknownCommand, WrongLength, WrongField}
use Rattle.refusals.specs.declared.Refusal.TheVariants.{OutOfRange, OutOfOrder, FrameHeld, NoFrameHeld}
use Rattle.refusals.specs.declared.Refusal.TheVariants.{WrongCells, WrongCurrent, NoInternal, WrongPulses, NoBoard, WrongArea}
use Rattle.refusals.specs.declared.Refusal.TheVariants.{UsedAfterUnused, NeverRecorded, BadRecord, CutRecord, WrongSlice}
use Rattle.refusals.specs.declared.Refusal.TheVariants.{WrongStore, SpoiltStore, NoEdition, BrokenRules, EditionsUsedUp}
use Rattle.refusals.specs.declared.Refusal.TheVariants.{CutBill, PastTotal, WrongRecord}
use Rattle.refusals.specs.Refusals.{Outcome, Done, Refused, refusal_number, left_by, number_of, first, come_to}
use Rattle.settings.specs.declared.Settings.{Settings}
use Rattle.settings.specs.Settings as settings
use Rattle.settings.proofs.Drafts.{AllFit}
use Rattle.writes.specs.declared.Pair.{Pair}
use Rattle.writes.specs.Writes.{pairs_of, drafted_of, written_to}
use Rattle.writes.proofs.Why as why
use Rattle.requests.specs.declared.Request.TheVariants as request
use Rattle.requests.specs.Requests.{length_of, fields_in, foreign, damaged, unknown_command, wrong_length, wrong_field, asked_of}
use Rattle.requests.specs.Requests.{request_of, Asked}
use Rattle.requests.proofs.Outcomes.{accepted, accepted_asks, right_is_taken}
use Rattle.replies.specs.Replies.{padded, sealed, nack_of}
use Rattle.answers.specs.Answers.{asked_rows, reply_by}
use Rattle.board.specs.declared.Board.{Board}
use Rattle.board.specs.Line.{held_in, let_go}
use Rattle.board.specs.Calls.{Call, frame, fetch, shape, frame_rows, board_by, seen_of, outcome_in, board_after, buffer_after}
use Rattle.board.specs.Behaviour.{board}
use Rattle.board.specs.Demands.{reached}
use Rattle.facts.proofs.Invariants.{bounds}

-- ---- the same requests are refused

-- 41 to 45 were 4
abbrev pub before : ℕ → ℕ
before n = cond (leb 41 n && leb n 45) 4 n

-- a setting against its rule: of a write that is asked
abbrev pub settings_wrong : Settings → List ℕ → Asked → Bool
settings_wrong st s (Err refusal) = false
settings_wrong st s (Ok request.ClearEvents) = false
settings_wrong st s (Ok request.ClearStatistics) = false
settings_wrong st s (Ok (request.Write f n)) =
    let values = (drafted_of (settings.draft_of st) (pairs_of f s n)).values in
    any (settings.is_out values) settings.registers || not (settings.ordered (settings.settings_of values))
settings_wrong st s (Ok (request.Read q)) = false

-- document 01's table before W-208: "4: unknown command, wrong length, or a field or setting against its rule"; a length was the one that
-- the raw line takes
abbrev pub four : Board → List ℕ → Bool
four b s =
    unknown_command s || not (eqb (length s) (length_of s)) || wrong_field s || settings_wrong b.pack.settings s (asked_of s)

abbrev pub number_then : Board → List ℕ → ℕ
number_then b s = cond (foreign s) 2 (cond (damaged s) 3 (cond (four b s) 4 0))

-- what a request asks
asked : (b : Board) (s : List ℕ) (q : Asked) → is_ok q ≡ true
    → before (number_of (first (asked_rows b.pack s q))) ≡ cond (settings_wrong b.pack.settings s q) 4 0
unfolding first
asked b s (Err refusal) e = absurd (false≢true e)
asked b s (Ok request.ClearEvents) e = refl
asked b s (Ok request.ClearStatistics) e = refl
asked b s (Ok (request.Write f n)) e =
    let values = (drafted_of (settings.draft_of b.pack.settings) (pairs_of f s n)).values in
    go (any (settings.is_out values) settings.registers) (settings.ordered (settings.settings_of values)) (settings.lowest (settings.is_out values) settings.registers)
  where
    go : (t u : Bool) (at : ℕ)
        → before (number_of (cond t (Refused (OutOfRange at)) (cond (not u) (Refused OutOfOrder) Done))) ≡ cond (t || not u) 4 0
    go true u at = refl
    go false true at = refl
    go false false at = refl
asked b s (Ok (request.Read q)) e = refl

-- no row of a request applies
none : (f d u l w : Bool) → cond f true (cond d true (cond u true (cond l true w))) ≡ false
    → first ((Foreign, f) ∷ (Damaged, d) ∷ (UnknownCommand, u) ∷ (WrongLength, l) ∷ (WrongField, w) ∷ []) ≡ Done
unfolding first
none true d u l w e = absurd (false≢true (sym e))
none false true u l w e = absurd (false≢true (sym e))
none false false true l w e = absurd (false≢true (sym e))
none false false false true w e = absurd (false≢true (sym e))
none false false false false true e = absurd (false≢true (sym e))
none false false false false false e = refl

pub as_before : (b : Board) (s : List ℕ) → before (number_of (first (frame_rows b s))) ≡ number_then b s
unfolding first
as_before b s =
    go (foreign s) (damaged s) (unknown_command s) (wrong_length s) (is_some (fields_in s)) (not (eqb (length s) (length_of s)))
    (λ good. ap (λ (n : ℕ). not (eqb (length s) n)) (right_is_taken s good))
    (λ e. let done = none (foreign s) (damaged s) (unknown_command s) (wrong_length s) (wrong_field s) e in
    ap (λ (q : Asked). before (number_of (first (asked_rows b.pack s q)))) (accepted s done)
    ∙ asked b s (asked_of s) (ap is_ok (sym (accepted s done)) ∙ accepted_asks s done))
  where
    wrong : Bool
    wrong = settings_wrong b.pack.settings s (asked_of s)

    rest : Outcome
    rest = first (asked_rows b.pack s (request_of s))

    go : (f d u l g k : Bool) → (g ≡ true → l ≡ k)
        → (cond f true (cond d true (cond u true (cond l true (not g)))) ≡ false → before (number_of rest) ≡ cond wrong 4 0)
        → before (number_of (cond f (Refused Foreign) (cond d (Refused Damaged) (cond u (Refused UnknownCommand)
        (cond l (Refused WrongLength) (cond (not g) (Refused WrongField) rest))))))
        ≡ cond f 2 (cond d 3 (cond (u || k || not g || wrong) 4 0))
    go true d u l g k same e = refl
    go false true u l g k same e = refl
    go false false true l g k same e = refl
    go false false false true true k same e = ap (λ (t : Bool). cond (t || false || wrong) 4 0) (same refl)
    go false false false false true k same e =
        e refl ∙ ap (λ (t : Bool). cond (t || false || wrong) 4 0) (same refl)
    go false false false true false true same e = refl
    go false false false true false false same e = refl
    go false false false false false true same e = refl
    go false false false false false false same e = refl

-- ---- the bytes and the board

nacked : (r : Refusal) → eqb (before (refusal_number r)) 4 ≡ true → left_by r ≡ Some 0x00
nacked UnknownCommand e = refl
nacked WrongLength e = refl
nacked WrongField e = refl
nacked (OutOfRange register) e = refl
nacked OutOfOrder e = refl
nacked NoRoom e = absurd (false≢true e)
nacked Foreign e = absurd (false≢true e)
nacked Damaged e = absurd (false≢true e)
nacked FrameHeld e = absurd (false≢true e)
nacked NoFrameHeld e = absurd (false≢true e)
nacked WrongCells e = absurd (false≢true e)
nacked WrongCurrent e = absurd (false≢true e)
nacked NoInternal e = absurd (false≢true e)
nacked WrongPulses e = absurd (false≢true e)
nacked NoBoard e = absurd (false≢true e)
nacked WrongArea e = absurd (false≢true e)
nacked UsedAfterUnused e = absurd (false≢true e)
nacked NeverRecorded e = absurd (false≢true e)
nacked WrongStore e = absurd (false≢true e)
nacked SpoiltStore e = absurd (false≢true e)
nacked NoEdition e = absurd (false≢true e)
nacked BrokenRules e = absurd (false≢true e)
nacked EditionsUsedUp e = absurd (false≢true e)
nacked BadRecord e = absurd (false≢true e)
nacked CutRecord e = absurd (false≢true e)
nacked WrongSlice e = absurd (false≢true e)
nacked CutBill e = absurd (false≢true e)
nacked PastTotal e = absurd (false≢true e)
nacked WrongRecord e = absurd (false≢true e)

-- what is answered to such a refusal, and what it leaves of the board
module _ (b : Board) (s : List ℕ) where
  said : (o : Outcome) (reply : List ℕ) → eqb (before (number_of o)) 4 ≡ true → reply_by o s reply ≡ sealed (nack_of (get_or s 1 0) 0x00)
  unfolding reply_by
  said (Ok done) reply e = absurd (false≢true e)
  said (Err r) reply e = rw (nacked r e) refl

  stays : (c : Call) (o : Outcome) → eqb (before (number_of o)) 4 ≡ true → board_by b (shape c) o ≡ cond (shape c).fetches (let_go b) b
  unfolding board_by
  stays c (Ok done) e = absurd (false≢true e)
  stays c (Err r) e = rw (nacked r e) (go (eqb (refusal_number r) 2) (shape c).fetches)
    where
      go : (t u : Bool) → cond ((t || true) && u) (let_go b) b ≡ cond u (let_go b) b
      go true true = refl
      go true false = refl
      go false true = refl
      go false false = refl

pub frame_as_before : (b : Board) (s : List ℕ) (room : ℕ) → eqb (before (number_of (outcome_in b (frame s room)))) 4 ≡ true
    → (buffer_after b (frame s room) ≡ padded room (sealed (nack_of (get_or s 1 0) 0x00))) × (board_after b (frame s room) ≡ b)
unfolding shape seen_of
frame_as_before b s room e =
    let o = outcome_in b (frame s room) in
    (ap (padded room) (said b s o _ e), stays b s (frame s room) o e)

pub fetch_as_before : (b : Board) (room : ℕ) → eqb (before (number_of (outcome_in b (fetch room)))) 4 ≡ true
    → (buffer_after b (fetch room) ≡ padded room (sealed (nack_of (get_or (held_in b) 1 0) 0x00))) × (board_after b (fetch room) ≡ let_go b)
unfolding shape seen_of
fetch_as_before b room e =
    let o = outcome_in b (fetch room) in
    (ap (padded room) (said b (held_in b) o _ e), stays b (held_in b) (fetch room) o e)

-- ---- why, on boards that calls reach

module _ (cells per_km : ℕ) (cs : List Call) (ps : List Pair) where
  abbrev standing : Settings
  standing = (reached board cells per_km cs).pack.settings

  pub stand : settings.in_range standing ≡ true
  stand = (bounds cells per_km cs).settings.0

  pub why_44 : (at : ℕ) → come_to (written_to standing ps) ≡ Refused (OutOfRange at) → why.Outside standing stand ps at
  why_44 = why.why_44 standing stand ps

  pub why_45 : (come_to (written_to standing ps) ≡ Refused OutOfOrder)
      ↔ (AllFit (why.final standing stand ps)
      × (settings.ordered (settings.settings_in (drafted_of (settings.draft_of standing) ps)) ≡ false))
  why_45 = why.why_45 standing stand ps
