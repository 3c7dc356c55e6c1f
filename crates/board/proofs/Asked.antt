-- What a request comes to by its rows, what it leaves of the buffer, and so what a call promises that answers one. Assumes nothing.
use mathlib.Core.Path.{◌≡◌, refl, sym, ap, ap₂, ◌∙◌}
use mathlib.Core.Bool.{Bool, true, false, ◌&&◌, false≢true}
use mathlib.Core.List.{List, [], ◌∷◌}
use Prim.Native.Nat.{ℕ, ◌-◌, ◌≤◌}
use native.Mathlib.Nat.{sub-zero}
use native.Mathlib.Omega.{arith}
use borrow.Author.Tests.{ltb-false}
use lib.Dec.{eqb, ltb}
use lib.ListN.{length, drop, replicate, length-append, length-replicate}
use lib.Seq.{drop-append_seam}
use Rattle.std.specs.Prelude.{Option, None, Ok, Err, is_ok}
use Rattle.refusals.specs.declared.Refusal.{Refusal}
use Rattle.refusals.specs.declared.Refusal.TheVariants.{Damaged, UnknownCommand, WrongLength, WrongField}
use Rattle.refusals.specs.declared.Refusal.TheVariants.{OutOfRange, OutOfOrder}
use Rattle.refusals.specs.Refusals.{Outcome, Done, Refused, refusal_number, left_by, number_of, is_done, first}
use Rattle.refusals.proofs.Rows.{refused_not, and_then, first_append}
use Rattle.settings.specs.Settings as settings
use Rattle.requests.specs.declared.Request.TheVariants as request
use Rattle.requests.specs.Requests.{foreign, damaged, unknown_command, wrong_length, wrong_field, request_rows, request_of, Asked}
use Rattle.requests.proofs.Outcomes.{accepted, refused, accepted_asks}
use Rattle.replies.specs.Replies.{padded, Filled}
use Rattle.replies.proofs.Writing.{whole}
use Rattle.pack.specs.declared.Pack.{Pack}
use Rattle.answers.specs.Answers.{accepted_reply, reply_bytes, left_reply, refused_reply, reply_by, asked_rows, asked_outcome, asked_reply}
use Rattle.answers.proofs.Made.{reply_length, reply_bytes_lem}
use Rattle.board.specs.declared.Board.{Board}
use Rattle.board.specs.declared.Answer.{Answer}
use Rattle.board.specs.Calls.{Call, Lent, reply_lent, shape, frame_rows, lost, lets_go, board_by, seen_of, left_of, outcome_in}
use Rattle.board.specs.Promises.{room_rows, ready_rows, request_outcome, Leaves}
use Rattle.board.proofs.Shape as shapes

-- ---- a request comes to the first of its rows that applies

asked_rows_lem : (p : Pack) (s : List ℕ) (q : Asked) → asked_outcome p s q ≡ first (asked_rows p s q)
unfolding asked_outcome first settings.judged_of
asked_rows_lem p s (Err refusal) = refl
asked_rows_lem p s (Ok request.ClearEvents) = refl
asked_rows_lem p s (Ok request.ClearStatistics) = refl
asked_rows_lem p s (Ok (request.Write f n)) = refl
asked_rows_lem p s (Ok (request.Read q)) = refl

pub by_table : (b : Board) (s : List ℕ) → request_outcome b s ≡ first (frame_rows b s)
unfolding first
by_table b s =
    asked_rows_lem b.pack s (request_of s) ∙ go (first (request_rows s)) refl
    ∙ sym (first_append (request_rows s) (asked_rows b.pack s (request_of s)))
  where
    rest : Asked → Outcome
    rest q = first (asked_rows b.pack s q)

    go : (o : Outcome) → first (request_rows s) ≡ o → rest (request_of s) ≡ and_then o (rest (request_of s))
    go (Ok done) e = refl
    go (Err refusal) e = ap rest (refused s refusal e)

-- what holds of each refusal in a list of rows holds of the first that applies
abbrev Each : (Outcome → Type 0) → List (Refusal × Bool) → Type 0
Each P [] = Unit {0}
Each P ((refusal, t) ∷ rest) = P (Refused refusal) × Each P rest

first_each : (P : Outcome → Type 0) (rows : List (Refusal × Bool)) → Each P rows → (first rows ≡ Done → P Done) → P (first rows)
unfolding first
first_each P [] each done = done refl
first_each P ((refusal, true) ∷ rest) each done = each.0
first_each P ((refusal, false) ∷ rest) each done = first_each P rest each.1 done

asked_each : (P : Outcome → Type 0) → ((register : ℕ) → P (Refused (OutOfRange register))) → P (Refused OutOfOrder)
    → (p : Pack) (s : List ℕ) (q : Asked) → is_ok q ≡ true → Each P (asked_rows p s q)
asked_each P range order p s (Err refusal) e = absurd (false≢true e)
asked_each P range order p s (Ok request.ClearEvents) e = tt
asked_each P range order p s (Ok request.ClearStatistics) e = tt
asked_each P range order p s (Ok (request.Write form n)) e = (range _, (order, tt))
asked_each P range order p s (Ok (request.Read q)) e = tt

-- a refusal of the frame itself, whichever it is, lets a held frame go
abbrev Lost : Outcome → Type 0
Lost o = lost o ≡ true

pub request_lost : (b : Board) (s : List ℕ) → (request_outcome b s ≡ Done → ⊥) → lost (request_outcome b s) ≡ true
request_lost b s h =
    ap lost by ∙ go (first (request_rows s)) refl (λ e. h (by ∙ e))
  where
    rest : Asked → List (Refusal × Bool)
    rest q = asked_rows b.pack s q

    by : request_outcome b s ≡ and_then (first (request_rows s)) (first (rest (request_of s)))
    by = by_table b s ∙ first_append (request_rows s) (rest (request_of s))

    go : (o : Outcome) → first (request_rows s) ≡ o → (and_then o (first (rest (request_of s))) ≡ Done → ⊥)
        → lost (and_then o (first (rest (request_of s)))) ≡ true
    go (Ok done) e h =
        first_each Lost (rest (request_of s))
        (asked_each Lost (λ register. refl) refl b.pack s (request_of s)
        (accepted_asks s e))
        (λ z. absurd (h z))
    go (Err refusal) e h =
        ap lost (sym e) ∙ first_each Lost (request_rows s) (refl, (refl, (refl, (refl, (refl, tt)))))
        (λ z. absurd (refused_not refusal (sym e ∙ z)))

-- one that begins as ours is not answered 2
abbrev Not2 : Outcome → Type 0
Not2 o = eqb (number_of o) 2 ≡ false

bytes : (s : List ℕ) → foreign s ≡ false → Not2 (first (request_rows s))
unfolding first
bytes s ours =
    rw ours (first_each Not2 (others s) (refl, (refl, (refl, (refl, tt)))) (λ e. refl))
  where
    others : List ℕ → List (Refusal × Bool)
    others s = (Damaged, damaged s) ∷ (UnknownCommand, unknown_command s) ∷ (WrongLength, wrong_length s) ∷ (WrongField, wrong_field s) ∷ []

pub not_foreign : (b : Board) (s : List ℕ) → foreign s ≡ false → eqb (number_of (first (frame_rows b s))) 2 ≡ false
not_foreign b s ours =
    ap (λ (o : Outcome). eqb (number_of o) 2) (first_append (request_rows s) (rest (request_of s))) ∙ go (first (request_rows s)) refl
  where
    rest : Asked → List (Refusal × Bool)
    rest q = asked_rows b.pack s q

    go : (o : Outcome) → first (request_rows s) ≡ o → Not2 (and_then o (first (rest (request_of s))))
    go (Ok done) e =
        first_each Not2 (rest (request_of s))
        (asked_each Not2 (λ register. refl) refl b.pack s (request_of s)
        (accepted_asks s e))
        (λ z. refl)
    go (Err refusal) e = ap (λ (o : Outcome). eqb (number_of o) 2) (sym e) ∙ bytes s ours

-- ---- what is left of the buffer

pub no_bytes_lem : (room : ℕ) → padded room [] ≡ replicate room 0
unfolding padded
no_bytes_lem room = ap (λ n. replicate n 0) (sub-zero room)

-- a refusal that leaves zeros, and no held frame go
abbrev pub Blank : Outcome → Type 0
Blank (Ok done) = ⊥
Blank (Err refusal) = (left_by refusal ≡ None) × (eqb (refusal_number refusal) 2 ≡ false)

pub blank_reply : (o : Outcome) (s reply : List ℕ) → Blank o → reply_by o s reply ≡ []
unfolding reply_by
blank_reply (Ok done) s reply k = absurd k
blank_reply (Err refusal) s reply k = ap (λ (l : Option ℕ). left_reply l s) k.0

blank_kept : (o : Outcome) → Blank o → lost o ≡ false
blank_kept (Ok done) k = absurd k
blank_kept (Err refusal) k = rw (k.1, k.0) refl

blank_first : (o p : Outcome) → Blank o → and_then o p ≡ o
blank_first (Ok done) p k = absurd k
blank_first (Err refusal) p k = refl

blank_not : (o : Outcome) → Blank o → o ≡ Done → ⊥
blank_not (Ok done) k e = k
blank_not (Err refusal) k e = refused_not refusal e

pub room_blank : (b : Board) (room : ℕ) → is_done (first (room_rows b room)) ≡ false → Blank (first (room_rows b room))
room_blank b room off = first_each Blank (room_rows b room) ((refl, refl), ((refl, refl), tt)) (λ e. false≢true (sym off ∙ ap is_done e))

pub ready_blank : (b : Board) (room : ℕ) → is_done (first (ready_rows b room)) ≡ false → Blank (first (ready_rows b room))
ready_blank b room off =
    first_each Blank (ready_rows b room) ((refl, refl), ((refl, refl), ((refl, refl), tt))) (λ e. false≢true (sym off ∙ ap is_done e))

padded_length : (room : ℕ) (xs : List ℕ) → length xs ≤ room → length (padded room xs) ≡ room
unfolding padded
padded_length room xs h = simp (length-append, length-replicate) (omega arith)

zeros_after : (room n : ℕ) (xs : List ℕ) → length xs ≡ n → drop n (padded room xs) ≡ replicate (room - n) 0
unfolding padded
zeros_after room n xs e = rw (← e) (drop-append_seam xs (replicate (room - length xs) 0))

-- of a buffer of that room for the reply to s, where the call comes to o
module _ (b : Board) (s : List ℕ) (room : ℕ) where
  abbrev reply : List ℕ
  reply = accepted_reply b.pack b.hire s (request_of s)

  abbrev size : ℕ
  size = reply_bytes b.pack b.hire (request_of s)

  abbrev pub Leftover : Outcome → Type 0
  Leftover o =
      (length (seen_of (reply_lent s room reply) o) ≡ room)
      × ((refusal : Refusal) → o ≡ Refused refusal → seen_of (reply_lent s room reply) o ≡ padded room (refused_reply refusal s))
      × (o ≡ Done → drop size (seen_of (reply_lent s room reply) o) ≡ replicate (room - size) 0)

  names : (o : Outcome) (refusal : Refusal) → o ≡ Refused refusal → seen_of (reply_lent s room reply) o ≡ padded room (refused_reply refusal s)
  unfolding seen_of reply_by
  names o refusal e = ap (λ (p : Outcome). padded room (reply_by p s reply)) e

  pub left_blank : (o : Outcome) → Blank o → Leftover o
  unfolding seen_of
  left_blank o k = (
    ap (λ (l : List ℕ). length (padded room l)) (blank_reply o s reply k) ∙ ap length (no_bytes_lem room) ∙ length-replicate room 0,
    names o,
    λ e. absurd (blank_not o k e),
  )

  pub left_whole : ltb room 259 ≡ false → Leftover (request_outcome b s)
  unfolding seen_of
  left_whole e =
      let large = ltb-false room 259 e in (
        padded_length room (asked_reply b.pack b.hire s (request_of s))
            (omega (arith, reply_length b.pack b.hire s)),
        names (request_outcome b s),
        λ z. zeros_after room size (asked_reply b.pack b.hire s (request_of s)) (reply_bytes_lem b.pack b.hire s (request_of s) z),
      )

-- ---- the promise of a call that answers the request s, after rows of its own

module _ {b : Board} {c : Call} {s before after : List ℕ} {r : Answer} (early : Outcome)
    (Lent-is : (shape c).lent b ≡ reply_lent s (length before) (accepted_reply b.pack b.hire s (request_of s)))
    (comes_to : outcome_in b c ≡ and_then early (request_outcome b s)) where
  -- one of its own applies: zeros alone
  pub blank : {o : Outcome} → o ≡ early → Blank early → r ≡ record { outcome = o; board = b } → after ≡ padded (length before) []
      → Leaves b c before r after
  unfolding left_of seen_of
  blank {o} e k p q =
      let is : early ≡ outcome_in b c = sym (blank_first early (request_outcome b s) k) ∙ sym comes_to in
      let zeros : padded (length before) (reply_by early s (accepted_reply b.pack b.hire s (request_of s))) ≡ padded (length before) [] =
      ap (padded (length before)) (blank_reply early s _ k) in
      record {
        answer = p ∙ shapes.refused b c o (e ∙ is) (λ z. blank_not early k (sym e ∙ z)) (ap (lets_go (shape c)) e
            ∙ ap (λ (t : Bool). t && (shape c).fetches) (blank_kept early k));
        lent = q ∙ sym zeros ∙ ap₂ (λ (x : Lent) (o : Outcome). left_of x o before) (sym Lent-is) is;
      }

  -- none does: the reply to the request
  pub replied : early ≡ Done → ltb (length before) 259 ≡ false → {x : Board} → x ≡ board_by b (shape c) (request_outcome b s)
      → r ≡ record { outcome = request_outcome b s; board = x }
      → Filled before (asked_reply b.pack b.hire s (request_of s)) after → Leaves b c before r after
  unfolding left_of seen_of
  replied e l {x} f p q =
      let is : request_outcome b s ≡ outcome_in b c = sym (comes_to ∙ ap (λ (o : Outcome). and_then o (request_outcome b s)) e) in
      let large = ltb-false (length before) 259 l in
      record {
        answer = p ∙ shapes.answered b c (request_outcome b s) x is f;
        lent =
            whole q (omega (arith, reply_length b.pack b.hire s))
            ∙ ap₂ (λ (x : Lent) (o : Outcome). left_of x o before) (sym Lent-is) is;
      }
