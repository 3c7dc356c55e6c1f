-- The definitions hold many a number to an end, so that every board is safe. On a board that calls reach from a start none of these
-- ends changes a number (the one of the summed pulses, nothing that is shown). Why: the board is the one that its deeds make
-- (`account`), and a deed that is a tick was judged good; so each bound is a law of lists over the accepted ticks; the receiver's room
-- alone goes by the calls. Numbers from outside have their machine types, which lists do not carry: where that is needed, `Typed` says it
-- of cells and bytes, and `km_per_hour` of the pulses per km. Ends that the paper itself sets are met, and are not meant here: 62 events,
-- the 65,535 of a count, the 2^32 - 1 of clock and distance, the byte of whole degrees. Assumes nothing.
use Rattle.std.specs.Prelude.{Err, Ok, Option, Some, None}
use mathlib.Core.Path.{◌≡◌, refl, sym, ap, ◌∙◌, subst, subst⁻¹}
use mathlib.Core.Bool.{Bool, true, false, ◌&&◌, ◌||◌, cond, false≢true}
use mathlib.Core.List.{List, [], ◌∷◌, ◌++◌, map, reverse, reverse_aux}
use Prim.Native.Nat.{ℕ, zero, suc, ◌+◌, ◌*◌, ◌-◌, ◌/◌, ◌^◌, ◌≤◌, ◌<◌, min, max}
use native.Mathlib.Nat.{zero-add, add-zero, mul-pos, not-suc-le-zero}
use native.Mathlib.Omega.{arith}
use borrow.Author.Tests.{eqb-true, leb-true, leb-false, le-leb, lt-leb, ltb-true, ltb-false, ne_eqb, not-false}
use lib.Dec.{eqb, leb, ltb}
use lib.IntN.{ℤ, pos, negsuc}
use lib.ListN.{length, take, drop, get_or, length-append, length-drop}
use lib.Seq.{take_all, take-append_seam}
use lib.Ieee.{Float, nan, inf, fin, Format, binary32, low, prec, emax, up, odd, units, round, div, of_int, is_nan}
use lib.Ieee.Exact.{HasValue}
use lib.Ieee.Fits.{round_is, down_pos}
use lib.Ieee.Back.{round_whole}
use lib.Ieee.Positive.{first_pos}
use Rattle.laws.specs.Fold.{gather}
use Rattle.laws.specs.History.{never, since, each, head_or, sum, newest, ago, latest, waits}
use Rattle.laws.proofs.Lists.{length_latest, timer, waited}
use Rattle.classes.specs.Store.{pairs_in, class_for, pairs_for}
use Rattle.classes.proofs.Pieces.{class_below}
use Rattle.cells.specs.Cells.{sum_of, lowest_of, highest_of}
use Rattle.events.specs.Events.{capacity, no_event, kept_count, new_count}
use Rattle.guard.specs.Guard.{none_remembered}
use Rattle.guard.specs.Account.{Moment, holds, wait_of, left_of, latched_from, waits_from}
use Rattle.guard.proofs.Account.{empty_memory}
use Rattle.guard.proofs.CellRows.{CellRows, cell_rows}
use Rattle.live.specs.Live.{exact, quotient}
use Rattle.readings.specs.declared.Readings.{Readings}
use Rattle.readings.specs.Readings.{wrong_current}
use Rattle.settings.specs.declared.Settings.{Settings}
use Rattle.settings.specs.Settings.{register_of}
use Rattle.settings.proofs.Drafts as settings
use Rattle.signed.specs.Signed.{above, below}
use Rattle.statistics.specs.Statistics.{hundreds}
use Rattle.refusals.specs.Refusals.{is_done}
use Rattle.answers.specs.Registers.{shown_at}
use Rattle.board.specs.declared.Board.{Board}
use Rattle.requests.specs.declared.Query.{Query}
use Rattle.requests.specs.declared.Query.TheVariants.{Registers, Listed, Bare, NewEvents, AllEvents, Temperatures, Cells, SettingsOf}
use Rattle.requests.specs.declared.Request.TheVariants as request
use Rattle.hire.specs.Hire.{no_sensed, new_hire}
use Rattle.requests.specs.Requests.{length_of, foreign, in_one_range, request_of, address_at, marks, Asked}
use Rattle.numbers.specs.Numbers.{be16_at, le16_at}
use Rattle.writes.specs.declared.Form.{Form}
use Rattle.writes.specs.declared.Form.TheVariants as form
use Rattle.writes.specs.declared.Pair.{Pair}
use Rattle.writes.specs.Writes.{pair_at, pairs_of}
use Rattle.receiver.specs.declared.Receiver.{Receiver}
use Rattle.receiver.specs.Receiver.{no_bytes, held_of, holding, is_held, skips, with_byte, filled, taken}
use Rattle.receiver.specs.Heard.{begun}
use Rattle.receiver.proofs.Heard.{held, ours}
use Rattle.board.proofs.Account.Calls.{heard_more}
use Rattle.board.specs.Calls.{Call, tick, frame, handover, offer, fetch, save, load, cabinet, keep, recall, shape}
use Rattle.board.specs.Changes.{asked_deeds}
use Rattle.board.specs.Calls.{lets_go, board_by, outcome_in, board_after}
use Rattle.board.specs.Handover.{handed_over}
use Rattle.board.specs.Line as line
use Rattle.board.specs.Line.{held_in, let_go}
use Rattle.board.specs.Start.{start_board}
use Rattle.board.specs.Behaviour.{board, after_in}
use Rattle.board.specs.Demands.{deeds, reached}
use Rattle.board.specs.Account.{Deed, took, wrote, cleared, forgot, sent, handed, heard, fetched, loaded, row, hands, ticking}
use Rattle.board.specs.Account.{settings_at, seconds_at, clock_at, moment_of, moments_at, latched_at, waits_at, remembered_at, sensed_of}
use Rattle.board.specs.Account.{sensed_at}
use Rattle.board.specs.Account.{window_at, kept_since, new_since, events_at, heard_at, held_at, board_at, deeds_of}
use Rattle.board.proofs.Account.Deeds.{Good, May, Each, Bring, after_calls, after_typed}
use Rattle.board.proofs.Account.Shown.{newest_kept}
use Rattle.board.proofs.Account.Settings.{Fits, ranges, kept, wait_some}
use Rattle.requests.proofs.Sound.{named_by, register_in, in_range, reads_in_range, each_shown, sound}
use Rattle.requests.proofs.Sound as requests
use Rattle.board.proofs.Opened.{steps}
use Rattle.board.proofs.Deaf.{request_changes}
use Rattle.board.proofs.Demands.Demand1.{held_by_history, frame_by_history}
use Rattle.board.proofs.Demands.Demand2.{account}
use Rattle.facts.proofs.Calls.{shown_by}

-- ---- laws of lists

-- each of them has it
abbrev pub All : {A : Type 0} → (A → Type 0) → List A → Type 0
All P [] = Unit {0}
All P (x ∷ xs) = P x × All P xs

module _ {A : Type 0} (P : A → Type 0) where
  all_of : ((x : A) → P x) → (xs : List A) → All P xs
  all_of law [] = tt
  all_of law (x ∷ xs) = (law x, all_of law xs)

  pub all_append : (xs ys : List A) → All P xs → All P ys → All P (xs ++ ys)
  all_append [] ys p q = q
  all_append (x ∷ xs) ys p q = (p.0, all_append xs ys p.1 q)

  pub all_reversed : (xs ys : List A) → All P xs → All P ys → All P (reverse_aux xs ys)
  all_reversed [] ys p q = q
  all_reversed (x ∷ xs) ys p q = all_reversed xs (x ∷ ys) p.1 (p.0, q)

  all_latest : (n : ℕ) (z : A) (xs : List A) → P z → All P xs → All P (latest n z xs)
  all_latest zero z xs p q = tt
  all_latest (suc n) z [] p q = all_append (latest n z []) (z ∷ []) (all_latest n z [] p tt) (p, tt)
  all_latest (suc n) z (x ∷ xs) p q = all_append (latest n z xs) (x ∷ []) (all_latest n z xs p q.1) (q.0, tt)

  all_so : (Q : A → Type 0) → ((x : A) → Q x → P x) → (xs : List A) → All Q xs → All P xs
  all_so Q law [] q = tt
  all_so Q law (x ∷ xs) q = (law x q.0, all_so Q law xs q.1)

  module _ {B : Type 0} where
    all_mapped : (f : B → A) → ((x : B) → P (f x)) → (xs : List B) → All P (map f xs)
    all_mapped f law [] = tt
    all_mapped f law (x ∷ xs) = (law x, all_mapped f law xs)

    all_through : (Q : B → Type 0) (f : B → A) → ((x : B) → Q x → P (f x)) → (xs : List B) → All Q xs → All P (map f xs)
    all_through Q f law [] p = tt
    all_through Q f law (x ∷ xs) p = (law x p.0, all_through Q f law xs p.1)

-- a sum of numbers that are at most k
sum_most : (k : ℕ) (xs : List ℕ) (a : ℕ) → All (λ x. x ≤ k) xs → gather ◌+◌ a xs ≤ a + k * length xs
sum_most k [] a p = omega arith
sum_most k (x ∷ xs) a p = let h = sum_most k xs (a + x) p.1 in let g : x ≤ k = p.0 in omega arith

-- the lowest and the highest gathered are so
gathered_within : (xs : List ℕ) (a b : ℕ)
    → (gather min a xs ≤ a) × (b ≤ gather max b xs) × All (λ c. (gather min a xs ≤ c) × (c ≤ gather max b xs)) xs
gathered_within [] a b = (omega arith, omega arith, tt)
gathered_within (x ∷ xs) a b =
    let i = gathered_within xs (min a x) (max b x) in
    (omega arith, omega arith, ((omega arith, omega arith), i.2))

-- ---- the ticks that were accepted

-- a tick's cells are of sixteen bits, and a frame's, an offer's, a loaded area's and a store's bytes of eight
abbrev pub TypedCall : Call → Type 0
TypedCall (tick given r) = All (λ c. c ≤ 65535) given
TypedCall (frame s room) = All (λ byte. byte ≤ 255) s
TypedCall (handover number n) = Unit {0}
TypedCall (offer bytes) = All (λ byte. byte ≤ 255) bytes
TypedCall (fetch room) = Unit {0}
TypedCall (save n) = Unit {0}
TypedCall (cabinet n) = Unit {0}
TypedCall (load area) = All (λ byte. byte ≤ 255) area
TypedCall (keep store) = All (λ byte. byte ≤ 255) store
TypedCall (recall store edition) = All (λ byte. byte ≤ 255) store

abbrev pub Typed : List Call → Type 0
Typed cs = All TypedCall cs

-- all accepted ticks of a history, cells and readings; and those since a mark
abbrev pub ticks_since : (Deed → Bool) → List Deed → List (List ℕ × Readings)
ticks_since reset h = each ticking (since reset h)

-- what holds of a tick that is done
abbrev Passed : ℕ → ℕ → List ℕ × Readings → Type 0
Passed count per_km t = Good count per_km t.0 t.1

-- a register of bytes is of sixteen bits
abbrev pub Sixteen : Pair → Type 0
Sixteen p = p.value < 65536

byte : (s : List ℕ) (i : ℕ) → All (λ b. b ≤ 255) s → get_or s i 0 ≤ 255
byte [] i p = omega arith
byte (b ∷ s) zero p = p.0
byte (b ∷ s) (suc i) p = byte s i p.1

sixteen : (f : Form) (s : List ℕ) (n : ℕ) → All (λ b. b ≤ 255) s → All Sixteen (pairs_of f s n)
unfolding pairs_of pair_at
sixteen f s zero typed = tt
sixteen f s (suc n) typed = (go f, sixteen f s n typed)
  where
    high : (i : ℕ) → be16_at s i < 65536
    high i = let a = byte s i typed in let b = byte s (i + 1) typed in omega arith

    low_first : (i : ℕ) → le16_at s i < 65536
    low_first i = let a = byte s i typed in let b = byte s (i + 1) typed in omega arith

    go : (f : Form) → Sixteen (pair_at f s n)
    go form.Modbus = high (7 + 2 * n)
    go form.Block = low_first (5 + 2 * n)
    go form.List = low_first (5 + 4 * n)

abbrev pub Bytes : List ℕ → Type 0
Bytes s = All (λ b. b ≤ 255) s

all_taken : (n : ℕ) (bytes : List ℕ) → Bytes bytes → Bytes (take n bytes)
all_taken zero bytes p = tt
all_taken (suc n) [] p = tt
all_taken (suc n) (b ∷ bytes) p = (p.0, all_taken n bytes p.1)

-- the twelve registers of a record of a store
twelve_sixteen : (r : List ℕ) (n : ℕ) → ((i : ℕ) → get_or r i 0 ≤ 255) → All Sixteen (pairs_in r n)
unfolding pairs_in
twelve_sixteen r zero bytes = tt
twelve_sixteen r (suc n) bytes =
    let a = bytes (4 + 2 * n) in
    let b = bytes (4 + 2 * n + 1) in
    (omega arith, twelve_sixteen r n bytes)

recalled_sixteen : (store : List ℕ) (edition : ℕ) → Bytes store → All Sixteen (pairs_for store edition)
recalled_sixteen store edition typed =
    twelve_sixteen (class_for store edition) 12 (λ j. class_below 255 store edition j (λ i. byte store i typed))

all_begun : (bytes : List ℕ) → Bytes bytes → Bytes (begun bytes)
all_begun [] p = tt
all_begun (b ∷ bytes) p = go (eqb b 0xAA) (all_begun bytes p.1)
  where
    go : (t : Bool) → Bytes (begun bytes) → Bytes (cond t (b ∷ bytes) (begun bytes))
    go true q = p
    go false q = q

-- what typed calls bring: ticks with cells of sixteen bits, registers of sixteen bits, and bytes; each call once
abbrev pub TypedDeed : Deed → Type 0
TypedDeed d = All (λ t. All (λ c. c ≤ 65535) t.0) (row d).ticks × All Sixteen (row d).writes × Bytes (row d).hears

module _ (cells per_km : ℕ) where
  asked_typed : (s : List ℕ) → Bytes s → (q : Asked) → Each cells per_km TypedDeed (asked_deeds s q)
  unfolding asked_deeds
  asked_typed s t (Err refusal) = tt
  asked_typed s t (Ok request.ClearEvents) = ((tt, tt, tt), tt)
  asked_typed s t (Ok request.ClearStatistics) = ((tt, tt, tt), tt)
  asked_typed s t (Ok (request.Write f n)) = ((tt, sixteen f s n t, tt), tt)
  asked_typed s t (Ok (request.Read q)) = go (marks q)
    where
      go : (t : Bool) → Each cells per_km TypedDeed (cond t (sent ∷ []) [])
      go true = ((tt, tt, tt), tt)
      go false = tt

  typed_deeds : (h : List Deed) (c : Call) → TypedCall c → Bytes (heard_at h)
      → Each cells per_km TypedDeed ((shape c).deeds (board_at cells per_km h))
  unfolding shape board_at
  typed_deeds h (tick given r) t p = (((t, tt), tt, tt), tt)
  typed_deeds h (frame s room) t p = asked_typed s t (request_of s)
  typed_deeds h (handover number n) t p = ((tt, tt, tt), tt)
  typed_deeds h (offer bytes) t p = ((tt, tt, all_taken (taken (board_at cells per_km h).hire.receiver bytes) bytes t), tt)
  typed_deeds h (fetch room) t p =
      let s = held_in (board_at cells per_km h) in
      ((tt, tt, tt), asked_typed s (subst⁻¹ Bytes (held (heard_at h)) (all_begun (heard_at h) p)) (request_of s))
  typed_deeds h (save n) t p = tt
  typed_deeds h (cabinet n) t p = tt
  typed_deeds h (load area) t p = ((tt, tt, tt), tt)
  typed_deeds h (keep store) t p = tt
  typed_deeds h (recall store edition) t p = ((tt, recalled_sixteen store edition t, tt), tt)

  still_bytes : (d : Deed) (k : List Deed) → TypedDeed d → Bytes (heard_at k) → Bytes (heard_at (d ∷ k))
  unfolding heard_at
  still_bytes (took given r) k t p = p
  still_bytes (wrote ps) k t p = p
  still_bytes cleared k t p = p
  still_bytes forgot k t p = p
  still_bytes sent k t p = p
  still_bytes handed k t p = tt
  still_bytes (heard bytes) k t p = subst⁻¹ Bytes (heard_more cells per_km k bytes) (all_append (λ b. b ≤ 255) (heard_at k) bytes p t.2)
  still_bytes fetched k t p = tt
  still_bytes (loaded es) k t p = p

  -- so what such deeds keep holds after all typed calls
  pub after_typed_calls : (P : List Deed → Type 0)
      → ((d : Deed) (k : List Deed) → May cells per_km k d → TypedDeed d → P k → P (d ∷ k)) → P []
      → (cs : List Call) → Typed cs → P (deeds_of cells per_km cs)
  unfolding heard_at
  after_typed_calls P keeps p cs typed =
      (after_typed cells per_km TypedCall TypedDeed (λ k. Bytes (heard_at k) × P k) (λ h c q x. typed_deeds h c q x.0) (tt, tt, tt)
      (λ d k m t x. (still_bytes d k t x.0, keeps d k m t x.1)) (tt, p) cs (bring cs typed)).1
    where
      bring : (cs : List Call) → Typed cs → Bring cells per_km TypedCall cs
      bring [] t = tt
      bring (c ∷ cs) t = (t.0, bring cs t.1)

-- what follows for a tick that is done holds of all that were accepted
module _ (cells per_km : ℕ) (P : List ℕ × Readings → Type 0) where
  module _ (reset : Deed → Bool) where
    abbrev So : List Deed → Type 0
    So k = All P (ticks_since reset k)

    more : (d : Deed) (k : List Deed) → All P (row d).ticks → So k → So (d ∷ k)
    more d k p ps = go (reset d)
      where
        go : (t : Bool) → All P (each ticking (cond t [] ((d ∷ k) ∷ since reset k)))
        go true = tt
        go false = all_append P (row d).ticks (ticks_since reset k) p ps

  -- its ticks may be done
  may_ticks : (k : List Deed) (d : Deed) → May cells per_km k d → All (Passed cells per_km) (row d).ticks
  may_ticks k (took given r) m = (m, tt)
  may_ticks k (wrote ps) m = tt
  may_ticks k cleared m = tt
  may_ticks k forgot m = tt
  may_ticks k sent m = tt
  may_ticks k handed m = tt
  may_ticks k (heard bytes) m = tt
  may_ticks k fetched m = tt
  may_ticks k (loaded es) m = tt

  accepted : ((t : List ℕ × Readings) → Passed cells per_km t → P t) → (reset : Deed → Bool) (cs : List Call)
      → All P (ticks_since reset (deeds_of cells per_km cs))
  accepted law reset cs =
      after_calls cells per_km (So reset)
      (λ d k m p. more reset d k (all_so P (Passed cells per_km) law (row d).ticks (may_ticks k d m)) p) tt cs

  accepted_typed : ((t : List ℕ × Readings) → All (λ c. c ≤ 65535) t.0 → Passed cells per_km t → P t) → (cs : List Call) → Typed cs
      → All P (ticks_since never (deeds_of cells per_km cs))
  accepted_typed law cs typed =
      after_typed_calls cells per_km (So never) (λ d k m t p. more never d k (both (row d).ticks t.0 (may_ticks k d m)) p) tt cs typed
    where
      both : (ts : List (List ℕ × Readings)) → All (λ t. All (λ c. c ≤ 65535) t.0) ts → All (Passed cells per_km) ts → All P ts
      both [] q m = tt
      both (t ∷ ts) q m = (law t q.0 m.0, both ts q.1 m.1)

-- ---- what an accepted tick has, on a board with that cell count

pub record Tick (count : ℕ) (t : List ℕ × Readings) : Type 0 where
  pub usable : (4 ≤ count) × (count ≤ 16)
  pub cells : length t.0 ≡ count
  -- `take 16` of the sum, the balancing decision and the kept cells
  pub all : take 16 t.0 ≡ t.0
  pub summed : sum_of t.0 ≡ gather ◌+◌ 0 t.0
  -- `-` stops at 0: in `decides`, a cell less the lowest; and the difference of highest and lowest
  pub between : All (λ c. (lowest_of t.0 ≤ c) × (c ≤ highest_of t.0)) t.0
  pub spread : lowest_of t.0 ≤ highest_of t.0
  -- ±2^24 of `exact`, and the 65,535 of `hundreds`
  pub within : (above t.1.current ≤ 1000000) × (below t.1.current ≤ 1000000)
  pub current : exact t.1.current ≡ t.1.current
  pub drawn : (below t.1.current / 100 ≤ 10000) × (hundreds (below t.1.current) ≡ below t.1.current / 100)
  pub fed : (above t.1.current / 100 ≤ 10000) × (hundreds (above t.1.current) ≡ above t.1.current / 100)
  pub pulses : t.1.pulses ≤ 400

-- where its cells are of sixteen bits
pub record TypedTick (t : List ℕ × Readings) : Type 0 where
  -- ±2^24 of `exact`
  pub total : sum_of t.0 ≤ 1048560
  pub volts : exact (pos (sum_of t.0)) ≡ pos (sum_of t.0)
  -- the 65,535 from which `lowest_of` begins: it may as well begin from the first cell
  pub lowest : lowest_of t.0 ≡ gather min (head_or 0 t.0) t.0

or_left : (a b : Bool) → (a || b) ≡ false → a ≡ false
or_left true b e = absurd (false≢true (sym e))
or_left false b e = refl

and_left : (a b : Bool) → (a && b) ≡ true → a ≡ true
and_left true b e = refl
and_left false b e = absurd (false≢true e)

and_right : (a b : Bool) → (a && b) ≡ true → b ≡ true
and_right true b e = e
and_right false b e = absurd (false≢true e)

held_current : (z : ℤ) → wrong_current z ≡ false → (above z ≤ 1000000) × (below z ≤ 1000000) × (exact z ≡ z)
held_current (pos n) e = let h : n ≤ 1000000 = ltb-false 1000000 n e in (h, omega arith, ap pos (omega arith))
held_current (negsuc n) e =
    let h : n ≤ 999999 = ltb-false 999999 n (or_left (ltb 999999 n) false e) in
    (omega arith, omega arith, ap negsuc (omega arith))

module _ (cells per_km : ℕ) (t : List ℕ × Readings) where
  count_held : Passed cells per_km t → (4 ≤ cells) × (cells ≤ 16) × (length t.0 ≡ cells)
  count_held j = (
    leb-true 4 cells (and_left (leb 4 cells) (leb cells 16) j.count),
    leb-true cells 16 (and_right (leb 4 cells) (leb cells 16) j.count),
    eqb-true (length t.0) cells (not-false (eqb (length t.0) cells) j.cells_right),
  )

  tick_held : Passed cells per_km t → Tick cells t
  tick_held j =
      let few = count_held j in
      let all = take_all 16 t.0 (omega arith) in
      let c = held_current t.1.current j.current_right in
      record {
        usable = (few.0, few.1);
        cells = few.2;
        all = all;
        summed = ap (gather ◌+◌ 0) all;
        between = (gathered_within t.0 65535 0).2;
        spread = go t.0 (omega arith);
        within = (c.0, c.1);
        current = c.2;
        drawn = (omega arith, omega arith);
        fed = (omega arith, omega arith);
        pulses = ltb-false 400 t.1.pulses (or_left (ltb 400 t.1.pulses) (eqb per_km 0 && ltb 0 t.1.pulses) j.pulses_right);
      }
    where
      go : (xs : List ℕ) → 4 ≤ length xs → lowest_of xs ≤ highest_of xs
      go [] h = absurd (not-suc-le-zero h)
      go (x ∷ xs) h = let i = (gathered_within (x ∷ xs) 65535 0).2.0 in omega arith

  typed_held : All (λ c. c ≤ 65535) t.0 → Passed cells per_km t → TypedTick t
  typed_held typed j =
      let few = count_held j in
      let total = sum_most 65535 t.0 0 typed in
      let same = ap (gather ◌+◌ 0) (take_all 16 t.0 (omega arith)) in
      record { total = omega arith; volts = ap pos (omega arith); lowest = go t.0 (omega arith) typed }
    where
      go : (xs : List ℕ) → 4 ≤ length xs → All (λ c. c ≤ 65535) xs → lowest_of xs ≡ gather min (head_or 0 xs) xs
      go [] h p = absurd (not-suc-le-zero h)
      go (x ∷ xs) h p = ap (λ a. gather min a xs) (let g : x ≤ 65535 = p.0 in omega arith)

-- ---- settings and waits

setting_held : (s : Settings) → Fits s → (s.r332 ≤ 30) × (1200 ≤ s.r315)
unfolding register_of
setting_held s fits =
    let range = settings.between s fits.0 in
    ((range 332 (omega arith) (omega arith) refl).1, (range 315 (omega arith) (omega arith) refl).0)

abbrev Short : Moment → Type 0
Short m = m.settings.r332 ≤ 30

abbrev Fitting : Moment → Type 0
Fitting m = Fits m.settings

-- at every accepted tick the settings in force fit
module _ (cells per_km : ℕ) where
  abbrev AllFit : List Deed → Type 0
  AllFit k = Fits (settings_at k) × All Fitting (moments_at k)

  kept_fit : (d : Deed) (k : List Deed) → May cells per_km k d → AllFit k → AllFit (d ∷ k)
  kept_fit d k m (fits, p) =
      let now = moment_of (settings_at k) in (
        kept cells per_km d k m fits,
        all_append Fitting (map now (row d).ticks) (moments_at k) (all_mapped Fitting now (λ t. fits) (row d).ticks) p,
      )

  moments_fit : (cs : List Call) → All Fitting (moments_at (deeds_of cells per_km cs))
  unfolding deeds_of
  moments_fit cs = (after_calls cells per_km AllFit kept_fit (ranges cells per_km [], tt) cs).1

moments_short : (cells per_km : ℕ) (cs : List Call) → All Short (moments_at (deeds_of cells per_km cs))
moments_short cells per_km cs =
    all_so Short Fitting (λ m fits. (setting_held m.settings fits).0) (moments_at (deeds_of cells per_km cs)) (moments_fit cells per_km cs)

-- at every accepted tick each row's 'Holds' and 'Recovers' of UV and OV is the paper's sentence about its cells
pub cell_rows_held : (cells per_km : ℕ) (cs : List Call)
    → All (λ m. CellRows m.settings m.readings m.cells) (moments_at (deeds cells per_km cs))
cell_rows_held cells per_km cs =
    all_so (λ m. CellRows m.settings m.readings m.cells) Fitting
    (λ m fits. cell_rows m.settings m.readings m.cells fits.0)
    (moments_at (deeds cells per_km cs)) (moments_fit cells per_km (reverse cs))

-- a wait, and whether its condition is latched
pub record Wait (latched : Bool) (left : ℕ) : Type 0 where
  pub most : left ≤ 300
  pub none : latched ≡ false → left ≡ 0
  pub some : latched ≡ true → 1 ≤ left

wait_held : (held : Moment → Bool) (ms : List Moment) → All Short ms → Wait (waits held wait_of ms) (left_of held ms)
wait_held held ms short =
    let e : waits held wait_of ms ≡ ltb 0 (left_of held ms) = sym (waited held wait_of ms) ∙ ap (ltb 0) (timer held wait_of ms) in
    record {
      most = most ms (ago held ms) short;
      none = λ f. let g = ltb-false 0 (left_of held ms) (sym e ∙ f) in omega arith;
      some = λ f. ltb-true 0 (left_of held ms) (sym e ∙ f);
    }
  where
    most : (ms : List Moment) (k : ℕ) → All Short ms → sum (λ m. wait_of m - k) (newest held ms) ≤ 300
    most [] k p = omega arith
    most (m ∷ ms) k p = go (held m) (most ms k p.1)
      where
        go : (t : Bool) → sum (λ m. wait_of m - k) (newest held ms) ≤ 300 → sum (λ m. wait_of m - k) (cond t (m ∷ []) (newest held ms)) ≤ 300
        go true q = let g : m.settings.r332 ≤ 30 = p.0 in omega arith
        go false q = q

-- ---- floats

module _ (f : Format) (s : Bool) where
  odd_real : (d q k l : ℕ) → is_nan (odd d s q k l) ≡ false
  unfolding is_nan odd
  odd_real d zero k l = refl
  odd_real d (suc q) k l = refl

  units_real : (q k : ℕ) → is_nan (units f s q k) ≡ false
  unfolding is_nan units
  units_real q k = go (ltb (q * 2 ^ k) (2 ^ (low f + suc (emax f))))
    where
      go : (t : Bool) → is_nan (cond t (odd (suc (prec f)) s q k (low f)) (inf s)) ≡ false
      go true = odd_real (suc (prec f)) q k (low f)
      go false = refl

  round_real : (num den : ℕ) → is_nan (round f s num den) ≡ false
  round_real num den = ap is_nan (round_is f s num den) ∙ units_real _ _

div_real : (f : Format) (x y : Float) (s t : Bool) (a b : ℕ) → HasValue x s a 1 → HasValue y t b 1 → 0 < b → is_nan (div f x y) ≡ false
unfolding div is_nan
div_real f nan y u v a b p q h = absurd p
div_real f (inf s) y u v a b p q h = absurd p
div_real f (fin s m e) nan u v a b p q h = absurd q
div_real f (fin s m e) (inf t) u v a b p q h = absurd q
div_real f (fin s m e) (fin t n d) u v a b p q h =
    let some : 0 < n = first_pos n (up d) (first_pos (n * up d) 1 (rw q.1 (mul-pos h (down_pos d)))) in
    rw (ne_eqb n 0 (λ z. omega arith)) (round_real f _ _ _)

-- a quotient of whole numbers is a number
quotient_real : (z : ℤ) (d : ℕ) → 0 < d → d ≤ 16777216 → is_nan (quotient z d) ≡ false
unfolding of_int
quotient_real (pos n) d some held =
    div_real binary32 _ _ false false (min 16777216 n) d (round_whole binary32 false (min 16777216 n) (omega arith))
    (round_whole binary32 false d held) some
quotient_real (negsuc n) d some held =
    div_real binary32 _ _ true false (suc (min 16777215 n)) d (round_whole binary32 true (suc (min 16777215 n)) (omega arith))
    (round_whole binary32 false d held) some

-- volts and amps, before a tick and after one
live_real : (h : List Deed) → (is_nan (sensed_at h).live.volts ≡ false) × (is_nan (sensed_at h).live.amps ≡ false)
unfolding sensed_at is_nan of_int
live_real h = go (ticks_since hands h)
  where
    go : (ts : List (List ℕ × Readings))
        → (is_nan (head_or no_sensed (map sensed_of ts)).live.volts ≡ false) × (is_nan (head_or no_sensed (map sensed_of ts)).live.amps ≡ false)
    go [] = (refl, refl)
    go (t ∷ ts) = (
      quotient_real (pos (sum_of t.0)) 10000 (omega arith) (omega arith),
      quotient_real t.1.current 1000 (omega arith) (omega arith),
    )

-- ---- the receiver: a frame has 264 bytes at most, and a byte is taken only while it is not complete. What was not complete no deed tells,
-- so this goes by the calls

record InRoom (r : Receiver) : Type 0 where
  room : length r.bytes ≡ 264
  few : r.count ≤ 264
  bytes : Bytes (held_of r)

none_in_room : InRoom no_bytes
none_in_room = record { room = refl; few = omega arith; bytes = tt }

other_in_room : (r : Receiver) (xs : List ℕ) → InRoom r → length xs ≤ 264 → Bytes xs → InRoom (holding xs r)
other_in_room r xs i few p =
    let behind = drop (length xs) r.bytes in
    let both = length-append xs behind in
    let left = length-drop (length xs) r.bytes in
    let all = i.room in
    record { room = omega arith; few = few; bytes = subst⁻¹ Bytes (take-append_seam xs behind) p }

not_full : (r : Receiver) → is_held r ≡ false → Bytes (held_of r) → length (held_of r) < 264
unfolding is_held length_of
not_full r e p =
    let h = held_of r in
    let more = leb-false (length_of h) (length h) e in
    let most = requests.most (get_or h 1 0) (get_or h 2 0) (get_or h 6 0) (byte h 2 p) (byte h 6 p) in
    omega arith

byte_in_room : (r : Receiver) (b : ℕ) → b ≤ 255 → is_held r ≡ false → InRoom r → InRoom (with_byte r b)
unfolding with_byte
byte_in_room r b small e i = go (skips (held_of r) b)
  where
    go : (t : Bool) → InRoom (cond t r (holding (held_of r ++ (b ∷ [])) r))
    go true = i
    go false =
        let less = not_full r e i.bytes in
        let one = length-append (held_of r) (b ∷ []) in
        other_in_room r (held_of r ++ (b ∷ [])) i (omega arith) (all_append (λ b. b ≤ 255) (held_of r) (b ∷ []) i.bytes (small, tt))

offer_in_room : (bytes : List ℕ) (r : Receiver) → Bytes bytes → InRoom r → InRoom (filled r bytes)
offer_in_room [] r p i = i
offer_in_room (b ∷ bytes) r p i = go (is_held r) refl (offer_in_room bytes (with_byte r b) p.1)
  where
    go : (t : Bool) → is_held r ≡ t → (InRoom (with_byte r b) → InRoom (filled (with_byte r b) bytes))
        → InRoom (cond t r (filled (with_byte r b) bytes))
    go true e later = i
    go false e later = later (byte_in_room r b p.0 e i)

-- each call keeps it so
abbrev BoardInRoom : Board → Type 0
BoardInRoom b = InRoom b.hire.receiver

done_in_room : (b : Board) (c : Call) → TypedCall c → BoardInRoom b → BoardInRoom ((shape c).done b)
unfolding shape steps handed_over new_hire
done_in_room b (tick given r) t i = i
done_in_room b (frame s room) t i = subst⁻¹ BoardInRoom (request_changes b b.hire.receiver s (request_of s)) i
done_in_room b (handover number n) t i = none_in_room
done_in_room b (offer bytes) t i = offer_in_room bytes b.hire.receiver t i
done_in_room b (fetch room) t i = none_in_room
done_in_room b (save n) t i = i
done_in_room b (cabinet n) t i = i
done_in_room b (keep store) t i = i
done_in_room b (recall store edition) t i = i
done_in_room b (load area) t i = i

call_in_room : (b : Board) (c : Call) → TypedCall c → BoardInRoom b → BoardInRoom (board_after b c)
unfolding board_by
call_in_room b c t i = go (is_done (outcome_in b c)) (lets_go (shape c) (outcome_in b c))
  where
    go : (u v : Bool) → BoardInRoom (cond u ((shape c).done b) (cond v (let_go b) b))
    go true v = done_in_room b c t i
    go false true = none_in_room
    go false false = i

calls_in_room : (cs : List Call) (b : Board) → Typed cs → BoardInRoom b → BoardInRoom (after_in board b cs)
unfolding after_in
calls_in_room [] b t i = i
calls_in_room (c ∷ cs) b t i = calls_in_room cs (board_after b c) t.1 (call_in_room b c t.0 i)

reached_in_room : (cells per_km : ℕ) (cs : List Call) → Typed cs → BoardInRoom (reached board cells per_km cs)
unfolding start_board new_hire
reached_in_room cells per_km cs t = calls_in_room cs (start_board cells per_km) t none_in_room

-- ---- the board after any calls

pub record Bounds (cells per_km : ℕ) (cs : List Call) (b : Board) : Type 0 where
  -- the start numbers are kept: with a count of 4 to 16 the board stays usable
  pub count : b.pack.cells ≡ cells
  pub per_km_kept : b.pack.per_km ≡ per_km
  -- `min` of `kept_count` and `new_count`, and the places of `latest`
  pub kept_most : b.hire.events.kept ≤ capacity
  pub kept : kept_count b.hire.events ≡ b.hire.events.kept
  pub unsent_most : b.hire.events.unsent ≤ b.hire.events.kept
  pub unsent : new_count b.hire.events ≡ b.hire.events.unsent
  pub places : length b.hire.events.list ≡ capacity
  -- the tests of `later_of`, which takes tenths past 9 for the tenth tick: there are none; seconds are of 32 bits
  pub tenths : b.pack.clock.tenths ≤ 9
  pub seconds : b.pack.clock.seconds ≤ 4294967295
  -- `eqb left 0` and `left - 1` of the guard, which take a wait of 0 for one that is over: a latched condition has one that runs
  pub doc : Wait b.pack.guard.latched.doc b.pack.guard.waits.doc
  pub coc : Wait b.pack.guard.latched.coc b.pack.guard.waits.coc
  pub roc : Wait b.pack.guard.latched.roc b.pack.guard.waits.roc
  -- while OT is not latched the memory is empty
  pub memory : b.pack.guard.latched.ot ≡ false → b.pack.guard.remembered ≡ none_remembered
  -- 2^24 of `exact` in the speed
  pub window : length b.hire.window ≡ 10
  pub counts : All (λ p. p ≤ 400) b.hire.window
  pub second : gather ◌+◌ 0 b.hire.window ≤ 4000
  pub speed : exact (pos (3600 * gather ◌+◌ 0 b.hire.window)) ≡ pos (3600 * gather ◌+◌ 0 b.hire.window)
  -- 2^48 of `ridden_pulses` is met only where the distance has met its own end: `distance_shown` of Account/Shown
  -- settings are in range (`ranges`): a wait is 10 to 300 ticks, and `10·r315 - 500` does not stop at 0
  pub settings : Fits b.pack.settings
  pub wait : (1 ≤ b.pack.settings.r332) × (b.pack.settings.r332 ≤ 30)
  pub high : 500 ≤ 10 * b.pack.settings.r315
  -- every tick that was accepted
  pub ticks : All (Tick cells) (ticks_since never (deeds cells per_km cs))
  pub typed : Typed cs → All TypedTick (ticks_since never (deeds cells per_km cs))
  -- `is_nan` of `bits_of`: volts, amps, and the speed where there is a sensor
  pub volts : is_nan b.hire.sensed.live.volts ≡ false
  pub amps : is_nan b.hire.sensed.live.amps ≡ false
  pub km_per_hour : 1 ≤ per_km → per_km ≤ 65535 → is_nan (quotient (pos (3600 * gather ◌+◌ 0 b.hire.window)) b.pack.per_km) ≡ false
  -- the end of `take` in `held_of`: what has come of a frame is what the history tells, and the count is its length
  pub held : held_in b ≡ held_at (deeds cells per_km cs)
  pub held_count : b.hire.receiver.count ≡ length (held_in b)
  -- the 2 of `lost`: a held frame is the board's own, so a fetch is never answered 2
  pub held_own : line.holds b ≡ true → foreign (held_in b) ≡ false
  -- a count past 264, which `receiver` takes for 264
  pub room : Typed cs → length b.hire.receiver.bytes ≡ 264
  pub held_most : Typed cs → b.hire.receiver.count ≤ 264

module _ (cells per_km : ℕ) (cs : List Call) where
  -- what the calls did
  abbrev made : List Deed
  made = deeds cells per_km cs

  accepted_ticks : (reset : Deed → Bool) → All (Tick cells) (ticks_since reset made)
  accepted_ticks reset = accepted cells per_km (Tick cells) (tick_held cells per_km) reset (reverse cs)

  window_held : All (λ p. p ≤ 400) (window_at made)
  unfolding window_at
  window_held =
      all_latest (λ p. p ≤ 400) 10 0 (map (λ t. t.1.pulses) (ticks_since hands made)) (omega arith)
      (all_through (λ p. p ≤ 400) (Tick cells) (λ t. t.1.pulses) (λ t i. i.pulses) (ticks_since hands made) (accepted_ticks hands))

  window_length : length (window_at made) ≡ 10
  unfolding window_at
  window_length = length_latest 10 0 (map (λ t. t.1.pulses) (ticks_since hands made))

  in_room : Typed cs → BoardInRoom (board_at cells per_km made)
  in_room t = subst BoardInRoom (account cells per_km cs) (reached_in_room cells per_km cs t)

  made_bounds : Bounds cells per_km cs (board_at cells per_km made)
  unfolding board_at events_at clock_at seconds_at latched_from waits_from latched_at waits_at remembered_at
  made_bounds =
      let older = newest_kept made in
      let all : length (kept_since made) ≡ length (new_since made) + length older.0 =
      ap length older.1 ∙ length-append (new_since made) older.0 in
      let short = moments_short cells per_km (reverse cs) in
      let fits = ranges cells per_km (reverse cs) in
      let range = setting_held (settings_at made) fits in
      let total = sum_most 400 (window_at made) 0 window_held in
      let ten = window_length in
      record {
        count = refl;
        per_km_kept = refl;
        kept_most = omega arith;
        kept = omega arith;
        unsent_most = omega arith;
        unsent = omega arith;
        places = length_latest capacity no_event (kept_since made);
        tenths = omega arith;
        seconds = omega arith;
        doc = wait_held (λ m. (holds m).doc) (moments_at made) short;
        coc = wait_held (λ m. (holds m).coc) (moments_at made) short;
        roc = wait_held (λ m. (holds m).roc) (moments_at made) short;
        memory = empty_memory (moments_at made);
        window = ten;
        counts = window_held;
        second = omega arith;
        speed = ap pos (omega arith);
        settings = fits;
        wait = (wait_some (settings_at made) fits, range.0);
        high = omega arith;
        ticks = accepted_ticks never;
        typed = λ t. accepted_typed cells per_km TypedTick (typed_held cells per_km) (reverse cs) (all_reversed TypedCall cs [] t tt);
        volts = (live_real made).0;
        amps = (live_real made).1;
        km_per_hour = λ some held. quotient_real (pos (3600 * gather ◌+◌ 0 (window_at made))) per_km some (omega arith);
        held = frame_by_history cells per_km made;
        held_count = ap length (sym (held (heard_at made)));
        held_own = λ e.
            subst⁻¹ (λ s. foreign s ≡ false) (frame_by_history cells per_km made)
            (ours (heard_at made) (sym (held_by_history cells per_km made) ∙ e));
        room = λ t. (in_room t).room;
        held_most = λ t. (in_room t).few;
      }

  pub bounds : Bounds cells per_km cs (reached board cells per_km cs)
  bounds = subst⁻¹ (Bounds cells per_km cs) (account cells per_km cs) made_bounds

-- ---- the registers of a request: none is `Nothing`, and none is past the 65,535 of `value`

abbrev pub shows : Option ℕ → Bool
shows (Some v) = true
shows None = false

abbrev pub Shows : Board → ℕ → Type 0
Shows b at = (shows (shown_by b at) ≡ true) × (at ≤ 65535)

shown_in : (b : Board) (at n i : ℕ) → in_one_range at n ≡ true → i < n → Shows b (at + i)
unfolding shown_at
shown_in b at n i h l = go (leb (at + n) 56) (leb 100 at) (leb (at + n) 118) (leb 300 at) (leb (at + n) 400) refl refl refl refl refl h
  where
    live : leb (at + n) 56 ≡ true → Shows b (at + i)
    live e = let p = leb-true (at + n) 56 e in (rw (le-leb (at + i) 55 (omega arith)), omega arith)

    counted : leb 100 at ≡ true → leb (at + n) 118 ≡ true → Shows b (at + i)
    counted e f =
        let p = leb-true 100 at e in
        let q = leb-true (at + n) 118 f in
        (rw (lt-leb (at + i) 55 (omega arith), le-leb 100 (at + i) (omega arith), le-leb (at + i) 117 (omega arith)), omega arith)

    set : leb 300 at ≡ true → leb (at + n) 400 ≡ true → Shows b (at + i)
    set e f =
        let p = leb-true 300 at e in
        let q = leb-true (at + n) 400 f in (
          rw (lt-leb (at + i) 55 (omega arith), le-leb 100 (at + i) (omega arith), lt-leb (at + i) 117 (omega arith))
              (rw (le-leb 300 (at + i) (omega arith), le-leb (at + i) 399 (omega arith))),
          omega arith,
        )

    go : (a c d f g : Bool) → leb (at + n) 56 ≡ a → leb 100 at ≡ c → leb (at + n) 118 ≡ d → leb 300 at ≡ f → leb (at + n) 400 ≡ g
        → a || c && d || f && g ≡ true → Shows b (at + i)
    go true c d f g e₁ e₂ e₃ e₄ e₅ k = live e₁
    go false true true f g e₁ e₂ e₃ e₄ e₅ k = counted e₂ e₃
    go false true false true true e₁ e₂ e₃ e₄ e₅ k = set e₄ e₅
    go false false d true true e₁ e₂ e₃ e₄ e₅ k = set e₄ e₅
    go false true false true false e₁ e₂ e₃ e₄ e₅ k = absurd (false≢true k)
    go false true false false g e₁ e₂ e₃ e₄ e₅ k = absurd (false≢true k)
    go false false d true false e₁ e₂ e₃ e₄ e₅ k = absurd (false≢true k)
    go false false d false g e₁ e₂ e₃ e₄ e₅ k = absurd (false≢true k)

pub registers_shown : (b : Board) (s : List ℕ) (q : Query) (i : ℕ) → request_of s ≡ Ok (request.Read q) → i < named_by q
    → Shows b (register_in s q i)
unfolding reads_in_range in_range named_by register_in
registers_shown b s q i e l = go q (rw e at (sound s).lies_in_range) l
  where
    go : (q : Query) → in_range s q ≡ true → i < named_by q → Shows b (register_in s q i)
    go (Registers command at n) h l = shown_in b at n i h l
    go (Listed n) h l = subst (Shows b) (add-zero (address_at s i)) (shown_in b (address_at s i) 1 0 (each_shown s n i h l) (omega arith))
    go (Bare command at n) h l = shown_in b at n i h l
    go NewEvents h l = absurd (omega arith)
    go AllEvents h l = absurd (omega arith)
    go Temperatures h l = absurd (omega arith)
    go Cells h l = subst (Shows b) (zero-add i) (shown_in b 0 16 i h l)
    go (SettingsOf kind n) h l = absurd (omega arith)
