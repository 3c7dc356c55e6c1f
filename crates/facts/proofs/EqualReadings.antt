-- W-213: "Equal readings must give equal slices, whatever the history." Two boards, from any two starts and after any calls: where their
-- last ticks read the same, their cabinets' slices are the same; settings, events, latches and statistics are free, and so are the cell
-- counts as far as the cells agree. It holds of every board that meets demand 2; a board that shows its lifetime in a free register fails
-- it.
-- Assumes nothing.
use mathlib.Core.Path.{◌≡◌, refl, sym, ap, ◌∙◌}
use mathlib.Core.Bool.{true, cond}
use mathlib.Core.List.{List, [], ◌∷◌, map}
use Prim.Native.Nat.{ℕ}
use native.Mathlib.Omega.{arith}
use lib.ListN.{get_or, set, replicate}
use Rattle.laws.specs.History.{since, each, head_or}
use Rattle.refusals.specs.Refusals.{Outcome, is_done, first}
use Rattle.cells.specs.Cells.{lowest_of, highest_of, sum_of}
use Rattle.cabinet.specs.declared.Measured.{Measured}
use Rattle.cabinet.specs.Cabinet.{measured_of, cabinet_rows, filled_of}
use Rattle.cabinet.proofs.Kept.{sum_kept}
use Rattle.readings.specs.declared.Readings.{Readings}
use Rattle.readings.specs.Readings.{no_readings}
use Rattle.hire.specs.declared.Sensed.{Sensed}
use Rattle.hire.specs.Hire.{no_sensed}
use Rattle.pack.specs.Pack.{usable_count}
use Rattle.board.specs.declared.Board.{Board}
use Rattle.board.specs.State.{measured_in}
use Rattle.board.specs.Start.{start_board}
use Rattle.board.specs.Calls.{Call, Seen, tick, cabinet, shape, seen_of, step}
use Rattle.board.specs.Behaviour.{Behaviour, board}
use Rattle.board.specs.Account.{Deed, hands, ticking, sensed_of, sensed_at, board_at}
use Rattle.board.specs.Demands.{deeds, shown, Demand2}
use Rattle.board.proofs.Opened.{accounted}
use Rattle.board.proofs.Shape.{by_rows}
use Rattle.board.proofs.Demands.Demand2.{account}
use Rattle.board.proofs.Demands.Demand3.{as_ours}

-- ---- the statement

-- what the last tick since the handover read: its cells and its readings; before it the zeros that they start with
abbrev pub last_read : List Deed → List ℕ × Readings
last_read h = head_or (replicate 16 0, no_readings) (each ticking (since hands h))

-- equal readings, as far as a cabinet asks for them: pulses, charger and ignition are free, and the cells agree in sum, lowest and highest
pub record SameReadings (t u : List ℕ × Readings) : Type 0 where
  pub current : t.1.current ≡ u.1.current
  pub internal : t.1.internal ≡ u.1.internal
  pub external1 : t.1.external1 ≡ u.1.external1
  pub external2 : t.1.external2 ≡ u.1.external2
  pub sum : sum_of t.0 ≡ sum_of u.0
  pub lowest : lowest_of t.0 ≡ lowest_of u.0
  pub highest : highest_of t.0 ≡ highest_of u.0

-- two usable boards, a slice of any length: the same outcome, and the same in the slice
abbrev pub EqualSlices : Behaviour → Type 0
EqualSlices B =
    (cells per_km cells' per_km' : ℕ) (xs ys : List Call) (n : ℕ)
    → usable_count cells ≡ true → usable_count cells' ≡ true
    → SameReadings (last_read (deeds cells per_km xs)) (last_read (deeds cells' per_km' ys))
    → ((shown B cells per_km xs (cabinet n)).outcome ≡ (shown B cells' per_km' ys (cabinet n)).outcome)
    × ((shown B cells per_km xs (cabinet n)).buffer ≡ (shown B cells' per_km' ys (cabinet n)).buffer)

-- ---- what a cabinet asks for is that of the last tick

read_by : List ℕ × Readings → Measured
read_by t =
    record {
      current = t.1.current;
      internal = t.1.internal;
      external1 = t.1.external1;
      external2 = t.1.external2;
      sum = sum_of t.0;
      lowest = lowest_of t.0;
      highest = highest_of t.0;
    }

measured_by : Sensed → Measured
measured_by s = measured_of s.readings s.cells s.extremes

measured_last : (ts : List (List ℕ × Readings))
    → measured_by (head_or no_sensed (map sensed_of ts)) ≡ read_by (head_or (replicate 16 0, no_readings) ts)
unfolding measured_by read_by
measured_last [] = refl
measured_last (t ∷ ts) =
    ap (λ (n : ℕ). record {
      current = t.1.current;
      internal = t.1.internal;
      external1 = t.1.external1;
      external2 = t.1.external2;
      sum = n;
      lowest = lowest_of t.0;
      highest = highest_of t.0;
    })
    (sum_kept t.0)

same_read : {t u : List ℕ × Readings} → SameReadings t u → read_by t ≡ read_by u
unfolding read_by
same_read e =
    λ i. record {
      current = e.current i;
      internal = e.internal i;
      external1 = e.external1 i;
      external2 = e.external2 i;
      sum = e.sum i;
      lowest = e.lowest i;
      highest = e.highest i;
    }

-- ---- so what is seen is of that and of the slice's length alone

abbrev seen_in : Seen → Outcome × List ℕ
seen_in a = (a.outcome, a.buffer)

slice_of : ℕ → Measured → Outcome × List ℕ
slice_of n m = (first (cabinet_rows n), cond (is_done (first (cabinet_rows n))) (filled_of m 20) [])

module _ (cells per_km : ℕ) (usable-count : usable_count cells ≡ true) (cs : List Call) (n : ℕ) where
  abbrev h : List Deed
  h = deeds cells per_km cs

  abbrev b : Board
  b = board_at cells per_km h

  of_the_last : seen_in (shown board cells per_km cs (cabinet n)) ≡ slice_of n (read_by (last_read h))
  unfolding slice_of measured_by shape seen_of board_at sensed_at
  of_the_last =
      ap (λ (x : Board). seen_in (step x (cabinet n)).1) (account cells per_km cs)
      ∙ ap (λ (o : Outcome). (o, cond (is_done o) (filled_of (measured_in b) 20) [])) (by_rows b (shape (cabinet n)) usable-count)
      ∙ ap (slice_of n) (measured_last (each ticking (since hands h)))

module _ (B : Behaviour) (meets : Demand2 B) where
  pub equal_slices : EqualSlices B
  equal_slices cells per_km cells' per_km' xs ys n u u' e =
      let x = as_ours B meets cells per_km xs (cabinet n) in
      let y = as_ours B meets cells' per_km' ys (cabinet n) in
      let both = of_the_last cells per_km u xs n ∙ ap (slice_of n) (same_read e) ∙ sym (of_the_last cells' per_km' u' ys n) in (
        ap (λ (a : Seen). a.outcome) x ∙ ap (λ p. p.0) both ∙ sym (ap (λ (a : Seen). a.outcome) y),
        ap (λ (a : Seen). a.buffer) x ∙ ap (λ p. p.1) both ∙ sym (ap (λ (a : Seen). a.buffer) y),
      )

-- ---- a board that shows its lifetime in 0x1002, which the paper has at 0

abbrev tells : Board → Call → Board × Seen
tells b c =
    let a = (step b c).1 in (
      (step b c).0,
      record {
        outcome = a.outcome;
        buffer = set a.buffer 2 b.pack.clock.seconds;
        carried = a.carried;
        charge = a.charge;
        discharge = a.discharge;
        decision = a.decision;
        balancing = a.balancing;
      },
    )

abbrev pub telling : Behaviour
telling = record { State = Board; start = start_board; started = board.started; step = tells }

-- ten ticks of cells at 0, and none at all, read the same
ten : List Call
ten = replicate 10 (tick (replicate 4 0) no_readings)

pub telling_fails : ¬ EqualSlices telling
unfolding accounted ten
telling_fails h =
    let same : SameReadings (last_read (deeds 4 2000 ten)) (last_read (deeds 4 2000 [])) =
    record { current = refl; internal = refl; external1 = refl; external2 = refl; sum = refl; lowest = refl; highest = refl } in
    let z : ◌≡◌ {A = ℕ} 1 0 = ap (λ (l : List ℕ). get_or l 2 0) (h 4 2000 4 2000 ten [] 20 refl refl same).1 in
    omega arith
