-- The demands shut out wrong boards. Demand 1: a board that accepts everything, one that leaves a byte of the last reply behind the next,
-- one that answers 43 where 3 is due, one that holds a frame still which it refused and one that keeps a byte of it, one that is done with a
-- start of three cells. Demand 2:
-- a board that NACKs everything, one that always replies idle, one that answers its first frame and repeats it, statistics with invented
-- counts. Demand 3: a handover that does nothing, and one that shows the last rider's switches once more. Some of the first look the same
-- for two riders: the ones that NACK everything or reply idle meet demand 3, so demand 3 is stated of boards that meet demand 2. And that a
-- write and the distance read back shuts out a board that accepts a write and does not keep it, one that shows the factory settings to a
-- fetch, or in a list that mixes ranges, and a distance that outlives its rider.
-- Assumes nothing.
use mathlib.Core.Path.{◌≡◌, refl, sym, ap}
use mathlib.Core.Bool.{Bool, true, false, ◌&&◌, not, cond, false≢true}
use mathlib.Core.Logic.{inl, inr}
use mathlib.Core.List.{List, [], ◌∷◌}
use Prim.Native.Nat.{ℕ}
use native.Mathlib.Omega.{arith}
use lib.IntN.{pos}
use borrow.Author.Tests.{ltb-false}
use lib.Dec.{eqb, ltb}
use lib.ListN.{length, get_or, set, replicate}
use Rattle.laws.specs.History.{any}
use Rattle.refusals.specs.declared.Refusal.TheVariants.{WrongField, NoFrameHeld, WrongArea}
use Rattle.refusals.specs.Refusals.{Outcome, Done, Refused, number_of, is_done}
use Rattle.readings.specs.Readings.{no_readings}
use Rattle.receiver.specs.Receiver.{no_bytes, with_byte}
use Rattle.settings.specs.Settings.{factory}
use Rattle.requests.specs.Requests.{address_at}
use Rattle.statistics.specs.declared.Statistics.{Statistics}
use Rattle.board.specs.declared.Board.{Board}
use Rattle.board.specs.State.{with_settings, with_statistics, with_receiver}
use Rattle.board.specs.Start.{start_board}
use Rattle.replies.specs.Replies.{padded, sealed, nack_of}
use Rattle.board.specs.Calls.{Call, tick, frame, offer, fetch, Lent, nothing_lent, reply_lent, area_lent, shape, lets_go, Seen, seen}
use Rattle.board.specs.Calls.{step}
use Rattle.board.specs.Behaviour.{Behaviour, board}
use Rattle.board.specs.Account.{hands, distance_at}
use Rattle.board.specs.Demands.{deeds, Demand1, Demand2, SameKept, Demand3}
use Rattle.board.proofs.Opened.{accounted}
use Rattle.facts.proofs.Calls.{flow, still, status, events, handing, latchings, write_800, to_800, ask_316, read_316}
use Rattle.facts.proofs.Calls.{says, outcome_at, byte_at}
use Rattle.facts.proofs.Invariants.{Typed, Bytes}
use Rattle.facts.proofs.ReadsBack.{ReadsBack, entry_reads}

-- ---- ours, but at these calls: what a call is lent says which is a frame or a fetch, its deeds which is a handover

abbrev lent_to : Call → Lent
lent_to c = (shape c).lent (start_board 4 2000)

-- a buffer full of that byte
abbrev left_in : ℕ → Lent → List ℕ
left_in byte nothing_lent = []
left_in byte (reply_lent s room reply) = replicate room byte
left_in byte (area_lent area) = replicate (length area) byte

abbrev replies_in : Lent → Bool
replies_in nothing_lent = false
replies_in (reply_lent s room reply) = true
replies_in (area_lent area) = false

abbrev is_frame : Call → Bool
is_frame c = replies_in (lent_to c) && not (shape c).on_line

abbrev is_handover : Call → Bool
is_handover c = any hands ((shape c).deeds (start_board 4 2000))

-- the same answer with that outcome and buffer
abbrev shows : Seen → Outcome → List ℕ → Seen
shows a outcome buffer =
    record {
      outcome = outcome;
      buffer = buffer;
      carried = a.carried;
      charge = a.charge;
      discharge = a.discharge;
      decision = a.decision;
      balancing = a.balancing;
    }

-- that outcome and reply to every frame, and nothing of the line or the memory
abbrev answers_frames : Outcome → (List ℕ → List ℕ) → Call → Seen
answers_frames outcome reply c = go (lent_to c)
  where
    go : Lent → Seen
    go nothing_lent = says Done []
    go (reply_lent s room ours) =
        cond (shape c).on_line (says (Refused NoFrameHeld) (replicate room 0)) (says outcome (padded room (reply s)))
    go (area_lent area) = says (Refused WrongArea) []

-- ---- everything is accepted, and the buffer left as it was lent

abbrev accepts : Call → Seen
accepts c = says Done (left_in 0x5A (lent_to c))

abbrev pub accepting : Behaviour
accepting = record { State = Unit {0}; start = λ cells per_km. tt; started = board.started; step = λ s c. (s, accepts c) }

-- a tick with no cells is number 11, and after an accepted frame zeros are due
pub accepting_fails : ¬ Demand1 accepting
unfolding accounted
accepting_fails h = let z : ◌≡◌ {A = ℕ} 0 11 = ap number_of (h.outcomes 4 2000 [] (tick [] no_readings)) in omega arith

pub lent_is_left : ¬ Demand1 accepting
unfolding accounted
lent_is_left h = let z : ◌≡◌ {A = ℕ} 0x5A 0 = ap (λ (l : List ℕ). get_or l 0 0) ((h.leaves 4 2000 [] status).2 refl) in omega arith

-- ---- a byte of the last reply stands behind the next

-- the buffer, with the byte at its place 7 as the buffer before had it where it is 0 now
abbrev over : List ℕ → List ℕ → List ℕ
over last buffer = cond (eqb (get_or buffer 7 0) 0) (set buffer 7 (get_or last 7 0)) buffer

abbrev lefts : Board × List ℕ → Call → (Board × List ℕ) × Seen
lefts (b, last) c =
    let a = (step b c).1 in
    let buffer = cond (is_frame c) (over last a.buffer) a.buffer in
    (((step b c).0, cond (is_frame c) buffer last), shows a a.outcome buffer)

abbrev pub leaving : Behaviour
leaving = record { State = Board × List ℕ; start = λ cells per_km. (start_board cells per_km, []); started = board.started; step = lefts }

-- the reply to 0x12 has a CRC byte there, and the one to 0x18 after it ends before
pub leaving_fails : ¬ Demand1 leaving
unfolding accounted
leaving_fails h =
    let z : ◌≡◌ {A = ℕ} 0xE3 0 = ap (λ (l : List ℕ). get_or l 1 0) ((h.leaves 4 2000 (events ∷ []) status).2 refl) in omega arith

-- ---- a fetch that answers with a NACK, and holds the frame still

abbrev holds_on : Board → Call → Board × Seen
holds_on b c = (cond (shape c).fetches (cond (is_done (step b c).1.outcome) (step b c).0 b) (step b c).0, (step b c).1)

abbrev pub holding_on : Behaviour
holding_on = record { State = Board; start = start_board; started = board.started; step = holds_on }

-- fetched again it answers 3 again, where 7 is due
pub holding_on_fails : ¬ Demand1 holding_on
unfolding accounted
holding_on_fails h =
    let z : ◌≡◌ {A = ℕ} 3 7 = ap number_of (h.lets_frame_go 4 2000 (offer (0xAA ∷ 0x18 ∷ 0x7F ∷ 0x1B ∷ []) ∷ []) 259 refl).0 in omega arith

-- ---- one that lets it go, but for its first byte

abbrev rests : Board → Call → Board × Seen
rests b c =
    let a = (step b c).1 in
    (cond (lets_go (shape c) a.outcome) (with_receiver b (with_byte no_bytes 0xAA)) (step b c).0, a)

abbrev pub resting : Behaviour
resting = record { State = Board; start = start_board; started = board.started; step = rests }

-- three bytes offered then are the rest of a frame, where nothing is held and 7 is due
pub resting_fails : ¬ Demand1 resting
unfolding accounted
resting_fails h =
    let e = h.lets_all_go 4 2000 [] (offer (0xAA ∷ 0x18 ∷ 0x7F ∷ 0x1B ∷ []) ∷ []) 259 refl refl refl
    (offer (0x18 ∷ 0x7F ∷ 0x1A ∷ []) ∷ fetch 259 ∷ []) in
    let z : ◌≡◌ {A = ℕ} 0 7 = ap (λ (answers : List Seen). number_of (outcome_at 1 answers)) e in
    omega arith

-- ---- 43 where 3 is due

abbrev blurs : Board → Call → Board × Seen
blurs b c =
    let a = (step b c).1 in
    ((step b c).0, shows a (cond (eqb (number_of a.outcome) 3) (Refused WrongField) a.outcome) a.buffer)

abbrev pub blurring : Behaviour
blurring = record { State = Board; start = start_board; started = board.started; step = blurs }

pub blurring_fails : ¬ Demand1 blurring
unfolding accounted
blurring_fails h =
    let z : ◌≡◌ {A = ℕ} 43 3 = ap number_of (h.outcomes 4 2000 [] (frame (0xAA ∷ 0x18 ∷ 0x7F ∷ 0x1B ∷ []) 259)) in omega arith

-- ---- done with a start of three cells

abbrev pub eager : Behaviour
eager = record { State = Board; start = start_board; started = λ cells per_km. Done; step = step }

pub eager_fails : ¬ Demand1 eager
eager_fails h = let z : ◌≡◌ {A = ℕ} 0 21 = ap number_of (h.starts 3 2000) in omega arith

-- ---- every frame gets a NACK

abbrev nacks : Call → Seen
nacks c = answers_frames (Refused WrongField) (λ s. sealed (nack_of (get_or s 1 0) 0x00)) c

abbrev pub nacking : Behaviour
nacking = record { State = Unit {0}; start = λ cells per_km. tt; started = λ cells per_km. Done; step = λ s c. (s, nacks c) }

pub nacking_fails : ¬ Demand2 nacking
unfolding accounted
nacking_fails h =
    let z : ◌≡◌ {A = ℕ} 43 0 = ap (λ (answers : List Seen). number_of (outcome_at 0 answers)) (h 4 2000 (status ∷ [])) in omega arith

-- but it shows nothing of an earlier rider
pub nacking_forgets : Demand3 nacking
unfolding shape
nacking_forgets cells per_km xs ys zs number number' k = (refl, refl)

-- ---- every frame gets the idle reply

abbrev idles : Call → Seen
idles c = answers_frames Done (λ s. 0xAA ∷ 0x18 ∷ 0x97 ∷ 0x00 ∷ 0xCF ∷ 0xCB ∷ []) c

abbrev pub idling : Behaviour
idling = record { State = Unit {0}; start = λ cells per_km. tt; started = λ cells per_km. Done; step = λ s c. (s, idles c) }

pub idling_fails : ¬ Demand2 idling
unfolding accounted
idling_fails h = let z : ◌≡◌ {A = ℕ} 0x18 0x12 = ap (byte_at 0 1) (h 4 2000 (events ∷ [])) in omega arith

pub idling_forgets : Demand3 idling
unfolding shape
idling_forgets cells per_km xs ys zs number number' k = (refl, refl)

-- ---- the first frame is answered, and its answer repeated

abbrev repeats : Board × List Seen → Call → (Board × List Seen) × Seen
repeats (b, []) c = (((step b c).0, cond (is_frame c) ((step b c).1 ∷ []) []), (step b c).1)
repeats (b, a ∷ rest) c = ((cond (is_frame c) b (step b c).0, a ∷ rest), cond (is_frame c) a (step b c).1)

abbrev pub repeating : Behaviour
repeating =
    record { State = Board × List Seen; start = λ cells per_km. (start_board cells per_km, []); started = board.started; step = repeats }

pub repeating_fails : ¬ Demand2 repeating
unfolding accounted
repeating_fails h = let z : ◌≡◌ {A = ℕ} 0x18 0x12 = ap (byte_at 1 1) (h 4 2000 (status ∷ events ∷ [])) in omega arith

-- ---- statistics begin with a UV latching that never was

abbrev invented : Statistics → Statistics
invented s =
    record {
      temperatures = s.temperatures;
      counts =
          record {
            uv = 1;
            ov = s.counts.ov;
            doc = s.counts.doc;
            charge = s.counts.charge;
            ot = s.counts.ot;
            charging = s.counts.charging;
          };
      sums = s.sums;
      pulses = s.pulses;
      drawn = s.drawn;
      fed = s.fed;
      difference = s.difference;
      cleared = s.cleared;
    }

abbrev pub inventing : Behaviour
inventing =
    record {
      State = Board;
      start = λ cells per_km. let b = start_board cells per_km in with_statistics b (invented b.hire.statistics);
      started = board.started;
      step = step;
    }

pub inventing_fails : ¬ Demand2 inventing
unfolding accounted
inventing_fails h = let z : ◌≡◌ {A = ℕ} 1 0 = ap (byte_at 0 4) (h 4 2000 (latchings ∷ [])) in omega arith

-- ---- a handover does nothing

abbrev keeps : Board → Call → Board × Seen
keeps b c = cond (is_handover c) (b, seen b (step b c).1.outcome [] 0) (step b c)

abbrev pub keeping : Behaviour
keeping = record { State = Board; start = start_board; started = board.started; step = keeps }

-- of two riders one had a charger, and a handover keeps nothing of it
same_kept : SameKept (deeds 4 2000 (flow (pos 0) 0 true ∷ [])) (deeds 4 2000 (still ∷ []))
unfolding accounted
same_kept = record { settings = refl; clock = refl; latched = refl; waits = refl; remembered = refl }

-- the next rider's list of events says which
pub keeping_fails : ¬ Demand3 keeping
unfolding accounted
keeping_fails h =
    let e = (h 4 2000 (flow (pos 0) 0 true ∷ []) (still ∷ []) (events ∷ []) 0 0 (inr same_kept)).1 in
    let z : ◌≡◌ {A = ℕ} 8 4 = ap (byte_at 0 2) e in
    omega arith

-- ---- a handover that forgets, and shows the last rider's switches once more

abbrev lingers : Board → Call → Board × Seen
lingers b c = cond (is_handover c) ((step b c).0, seen b (step b c).1.outcome [] 0) (step b c)

abbrev pub lingering : Behaviour
lingering = record { State = Board; start = start_board; started = board.started; step = lingers }

-- the handover's own answer says which of the two had a charger
pub lingering_fails : ¬ Demand3 lingering
unfolding accounted
lingering_fails h =
    let e = (h 4 2000 (flow (pos 0) 0 true ∷ []) (still ∷ []) [] 0 0 (inr same_kept)).0 in
    let z : true ≡ false = ap (λ (a : Seen). a.charge) e in
    absurd (false≢true (sym z))

-- ---- a write is accepted, and not kept

abbrev drops : Board → Call → Board × Seen
drops b c = (cond (is_frame c) b (step b c).0, (step b c).1)

abbrev pub dropping : Behaviour
dropping = record { State = Board; start = start_board; started = board.started; step = drops }

-- that its bytes are bytes is a test that computes
bytes : (s : List ℕ) → any (ltb 255) s ≡ false → Bytes s
bytes [] e = tt
bytes (byte ∷ s) e = go (ltb 255 byte) refl e (bytes s)
  where
    go : (t : Bool) → ltb 255 byte ≡ t → cond t true (any (ltb 255) s) ≡ false → (any (ltb 255) s ≡ false → Bytes s) → Bytes (byte ∷ s)
    go true l e others = absurd (false≢true (sym e))
    go false l e others = (ltb-false 255 byte l, others e)

typed : Typed (to_800 ∷ [])
typed = (bytes write_800 refl, tt)

-- 316 was written to 800, and reads 2900 still: by 0x03, and in the current settings of 0x1D
pub dropping_fails : ¬ ReadsBack dropping
unfolding accounted
dropping_fails h =
    let e = h.block 4 2000 (to_800 ∷ []) typed 0x03 316 1 (omega arith) (omega arith) read_316 ask_316 259 (inl refl) refl refl in
    let z : ◌≡◌ {A = ℕ} 0x0B 0x03 = ap (λ (l : List ℕ). get_or l 3 0) e in
    omega arith

pub factory_is_sent : ¬ ReadsBack dropping
unfolding accounted
factory_is_sent h =
    let s : List ℕ = 0xAA ∷ 0x1D ∷ 0x04 ∷ 0x00 ∷ 0x64 ∷ 0x7A ∷ 0x5E ∷ [] in
    let e = h.current 4 2000 (to_800 ∷ []) typed 100 (frame s 259) s 259 (inl refl) refl refl in
    let z : ◌≡◌ {A = ℕ} 0x54 0x20 = ap (λ (l : List ℕ). get_or l 35 0) e in
    omega arith

-- ---- a read shows the factory settings at some calls

abbrev pub factory_at : (Call → Bool) → Behaviour
factory_at these =
    record {
      State = Board;
      start = start_board;
      started = board.started;
      step = λ b c. ((step b c).0, cond (these c) (step (with_settings b factory) c).1 (step b c).1);
    }

-- off the raw line: 316 was written to 800, and reads 2900 where its request is held and fetched
pub fetched_factory_fails : ¬ ReadsBack (factory_at (λ c. (shape c).fetches))
unfolding accounted
fetched_factory_fails h =
    let typed : Typed (to_800 ∷ offer ask_316 ∷ []) = (bytes write_800 refl, (bytes ask_316 refl, tt)) in
    let e = h.block 4 2000 (to_800 ∷ offer ask_316 ∷ []) typed 0x03 316 1 (omega arith) (omega arith) (fetch 259) ask_316 259
    (inr (refl, refl)) refl refl in
    let z : ◌≡◌ {A = ℕ} 0x0B 0x03 = ap (λ (l : List ℕ). get_or l 3 0) e in
    omega arith

-- in a list that begins with no setting
abbrev mixes : Lent → Bool
mixes nothing_lent = false
mixes (reply_lent s room reply) = eqb (get_or s 1 0) 0x09 && ltb (address_at s 0) 300
mixes (area_lent area) = false

-- of 5 and 316, by 0x09
pub mixed_factory_fails : ¬ ReadsBack (factory_at (λ c. mixes (lent_to c)))
unfolding accounted
mixed_factory_fails h =
    let s : List ℕ = 0xAA ∷ 0x09 ∷ 0x04 ∷ 0x05 ∷ 0x00 ∷ 0x3C ∷ 0x01 ∷ 0x30 ∷ 0x5F ∷ [] in
    let e = entry_reads (factory_at (λ c. mixes (lent_to c))) h 4 2000 (to_800 ∷ []) typed (frame s 259) s 259 2 (inl refl) refl refl 1
    (omega arith) (omega arith) (omega arith) in
    let z : ◌≡◌ {A = ℕ} 0x54 0x20 = ap (λ (l : List ℕ). get_or l 2 0) e in
    omega arith

-- ---- a distance outlives its rider

-- by the handover that does nothing: twenty pulses of the last rider read as 0.01 km
pub distance_kept : ¬ ReadsBack keeping
unfolding accounted distance_at
distance_kept h =
    let s : List ℕ = 0xAA ∷ 0x03 ∷ 0x00 ∷ 0x64 ∷ 0x00 ∷ 0x02 ∷ 0x9C ∷ 0x0F ∷ [] in
    let e = h.distance 4 2000 (flow (pos 0) 20 false ∷ handing ∷ []) (omega arith) (frame s 259) s 259 (inl refl) refl refl in
    let z : ◌≡◌ {A = ℕ} 1 0 = ap (λ (l : List ℕ). get_or l 4 0) e in
    omega arith
