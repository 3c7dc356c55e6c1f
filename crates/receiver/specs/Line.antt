-- Any cutting of the same bytes gives the same replies and end state, if only offers and fetches come between, each held frame is fetched
-- with room, and bytes not taken are offered again. First the stream cut into frames with all of it in view; then the same stream given to
-- a receiver by offers and fetches, in any order and in pieces of any size. `answer` is any board: its state after a frame, and its reply.
-- Assumes nothing.
use Rattle.std.specs.Prelude.{◌≡◌, Bool, false, cond, not, ◌&&◌, List, [], ◌∷◌, ℕ, zero, suc, ◌-◌, eqb, ltb, take, drop}
use Rattle.requests.specs.Requests.{length_of}
use Rattle.receiver.specs.declared.Receiver.{Receiver}
use Rattle.receiver.specs.Receiver.{no_bytes, held_of, complete, is_held, offered_of}

-- ---- all at once

-- complete frames, and the bytes of one that is unfinished
pub record Cut : Type 0 where
  pub frames : List (List ℕ)
  pub rest : List ℕ

abbrev pub unfinished : List ℕ → Cut
unfinished bytes = record { frames = []; rest = bytes }

abbrev pub framed : List ℕ → Cut → Cut
framed frame c = record { frames = frame ∷ c.frames; rest = c.rest }

-- after `pass` bytes that a frame before has used up: bytes before 0xAA are skipped, and then as many bytes as the length rule says are a
-- frame, if there are as many
abbrev pub cut : ℕ → List ℕ → Cut
cut pass [] = unfinished []
cut (suc pass) (b ∷ bs) = cut pass bs
cut zero (b ∷ bs) =
    cond (eqb b 0xAA)
    (cond (complete (b ∷ bs)) (framed (take (length_of (b ∷ bs)) (b ∷ bs)) (cut (length_of (b ∷ bs) - 1) bs)) (unfinished (b ∷ bs)))
    (cut zero bs)

module _ {S Reply : Type 0} (answer : S → List ℕ → S × Reply) where
  -- the replies to frames in turn, and the state after them
  abbrev pub replies_to : S → List (List ℕ) → List Reply
  replies_to s [] = []
  replies_to s (f ∷ fs) = (answer s f).1 ∷ replies_to (answer s f).0 fs

  abbrev pub after : S → List (List ℕ) → S
  after s [] = s
  after s (f ∷ fs) = after (answer s f).0 fs

-- ---- by offers and fetches

-- an offer of the next n of the bytes that are not yet taken, or a fetch with a buffer of n bytes
pub data Turn : Type 0 where
  offers : ℕ → Turn
  fetches : ℕ → Turn

-- the replies that came, oldest first, and what stands after them
pub record Line (S Reply : Type 0) : Type 0 where
  pub replies : List Reply
  pub state : S
  pub receiver : Receiver
  pub left : List ℕ  -- not yet taken

module _ {S Reply : Type 0} where
  abbrev pub still : S → Receiver → List ℕ → Line S Reply
  still s r left = record { replies = []; state = s; receiver = r; left = left }

  abbrev pub heard : Reply → Line S Reply → Line S Reply
  heard a l = record { replies = a ∷ l.replies; state = l.state; receiver = l.receiver; left = l.left }

-- a fetch is answered where it has room and a frame is held; 259 bytes are room
abbrev pub answers : Receiver → ℕ → Bool
answers r room = not (ltb room 259) && is_held r

module _ {S Reply : Type 0} (answer : S → List ℕ → S × Reply) where
  -- an answered fetch lets the frame go; a refused one changes nothing
  abbrev pub ran : List Turn → S → Receiver → List ℕ → Line S Reply
  ran [] s r left = still s r left
  ran (offers n ∷ cs) s r left = ran cs s (offered_of r (take n left)).receiver (drop (offered_of r (take n left)).taken left)
  ran (fetches n ∷ cs) s r left =
      cond (answers r n) (heard (answer s (held_of r)).1 (ran cs (answer s (held_of r)).0 no_bytes left)) (ran cs s r left)

-- every byte is taken, and no frame is held
abbrev pub Ended : {S Reply : Type 0} → Line S Reply → Type 0
Ended l = (l.left ≡ []) × (is_held l.receiver ≡ false)

-- a line has answered the frames of a cut from the state s on, and what has come of the next is its rest
pub record Served {S Reply : Type 0} (answer : S → List ℕ → S × Reply) (s : S) (l : Line S Reply) (c : Cut) : Type 0 where
  pub replies : l.replies ≡ replies_to answer s c.frames
  pub state : l.state ≡ after answer s c.frames
  pub held : held_of l.receiver ≡ c.rest
